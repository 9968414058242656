-- A text's rules as they are handed on: read into four lists of 1,024 places, and taken from there as a graph.
--     no_lists        where no list is lent, 23 applies nowhere
--     refused_on      what the reader refuses, every question about the text is refused for
--     text_passed     number 0 is given past the reader, where none of its checks applies
--     accepted_on     and there what follows decides
--     counts_small    an accepted text has few events and few rows, and no list is too short
--     Handed          what is known of the lists after an accepted reading: their first places are the text's graph
--     handed          so it is
--     read_refused    the reader's refusal, with nothing lent
--     few_taken       what is taken of a list is as short as what was asked
--     text_unread, text_answered      what is promised of a separation asked of a text
-- Assumes nothing.
use mathlib.Core.Path.{◌≡◌, sym, subst, subst₂, ◌∙◌}
use mathlib.Core.Logic.{inl, inr}
use mathlib.Core.List.{List, [], ◌∷◌}
use Prim.Native.Nat.{ℕ, ◌<◌, ◌≤◌}
use native.Mathlib.Omega.{arith}
use lib.IntN.{ℤ}
use lib.ListN.{length, take, drop, length-map, length-take}
use lib.Seq.{take_at}
use Rattle.graphs.specs.Graph.{Graph, graph_of}
use Rattle.verdicts.specs.Verdict.{check, Accepted, FirstThen, AtZero}
use Rattle.verdicts.proofs.Verdicts.{Misses, NoneApplies, Refusals, misses_at_zero, holds_not, passed_all, rest_of, then_more_after, not_accepted, accepted_none}
use Rattle.separation.specs.declared.Answer.{Answer}
use Rattle.separation.specs.Promise.{Verdict, Answered, Nothing}
use Rattle.text.specs.Grammar.{Rule, Text}
use Rattle.text.specs.Reading.{
  events,
  sources_of,
  targets_of,
  leasts_of,
  mosts_of,
  graph_of_rules,
  ShortForRules,
  OfText,
  text_alone,
  text_checks,
  TextVerdict,
  ReadingNumbers,
  ReadOff,
  ListsHold,
  RulesWritten,
}
use Rattle.text.specs.Answers.{NoLists, TextAnswered}

-- ---- from one verdict to the next

-- no check of a text has number 0
text_refusals : (bs : List ℕ) (Short : List Rule → Type 0) → Refusals (text_checks bs Short)
text_refusals bs Short = (omega arith, (omega arith, (omega arith, (omega arith, (omega arith, tt)))))

-- no list is lent, so none is too short
pub no_lists : {bs : List ℕ} → Misses (AtZero (OfText bs NoLists))
no_lists = misses_at_zero (λ z. z.holds)

module _ {bs : List ℕ} {Short : List Rule → Type 0} where
  -- where a list is too short only for more than 1,024 rows, it is 22 that is given
  pub refused_on : ((rs : List Rule) → Short rs → 1024 < length rs) → {Rest : ℕ → ℕ → Type 0} {j p : ℕ} → TextVerdict bs Short Accepted j p → (j ≡ 0 → ⊥) → TextVerdict bs NoLists Rest j p
  refused_on room {Rest} {j} {p} v other =
      then_more_after (text_alone bs) (FirstThen (check 23 (AtZero (OfText bs Short)) ∷ []) Accepted) (FirstThen (check 23 (AtZero (OfText bs NoLists)) ∷ []) Rest) j p
      (λ none w.
      not_accepted other
      (rest_of (check 23 (AtZero (OfText bs Short)) ∷ []) Accepted j p
      (misses_at_zero (λ z. holds_not none.1.1.1.0 (record { rs = z.rs; text = z.text; holds = room z.rs z.holds })), tt) w)) v

  pub text_passed : {Rest : ℕ → ℕ → Type 0} {j p : ℕ} → TextVerdict bs Short Rest j p → j ≡ 0 → NoneApplies (text_checks bs Short) × Rest j p
  text_passed {Rest} {j} {p} v e = accepted_none (text_checks bs Short) Rest (text_refusals bs Short) j p e v

  pub accepted_on : {Rest : ℕ → ℕ → Type 0} {i j p q : ℕ} → TextVerdict bs Short Accepted i q → i ≡ 0 → Rest j p → TextVerdict bs NoLists Rest j p
  accepted_on {Rest} {j = j} {p} v e r =
      let ((bytes, (rows, (few, (few_rows, _)))), _) = text_passed v e in
      passed_all (text_checks bs NoLists) Rest j p (bytes, (rows, (few, (few_rows, (no_lists, tt))))) r

  pub counts_small : {Rest : ℕ → ℕ → Type 0} {i q : ℕ} → TextVerdict bs Short Rest i q → i ≡ 0 → {rs : List Rule} → Text bs rs → (events rs ≤ 64) × (length rs ≤ 1024) × (Short rs → ⊥)
  counts_small v e {rs} text =
      let ((_, (_, (no_21, (no_22, (no-23, _))))), _) = text_passed v e in
      let few : 64 < events rs → ⊥ = λ l. holds_not no_21 (record { rs = rs; text = text; holds = l }) in
      let few_rows : 1024 < length rs → ⊥ = λ l. holds_not no_22 (record { rs = rs; text = text; holds = l }) in
      (omega arith, omega arith, λ x. holds_not no-23 (record { rs = rs; text = text; holds = x }))

-- ---- the lists after a reading

pub record Handed (bs : List ℕ) (a : ReadingNumbers) (ss ts : List ℕ) (ds Ds : List ℤ) : Type 0 where
  pub rs : List Rule
  pub text : Text bs rs
  pub event_count : a.events ≡ events rs
  pub few : a.events ≤ 64
  pub few_rows : a.rules ≤ 1024
  pub few_rules : length rs ≤ 1024
  pub graph : graph_of a.events (take a.rules ss) (take a.rules ts) (take a.rules ds) (take a.rules Ds) ≡ graph_of_rules rs

held_graph : {rs : List Rule} {ss₀ ts₀ : List ℕ} {ds₀ Ds₀ : List ℤ} {ss ts : List ℕ} {ds Ds : List ℤ} {n m : ℕ} → ListsHold rs ss₀ ts₀ ds₀ Ds₀ ss ts ds Ds → n ≡ events rs → m ≡ length rs → graph_of n (take m ss) (take m ts) (take m ds) (take m Ds) ≡ graph_of_rules rs
held_graph {rs} {ss₀} {ts₀} {ds₀} {Ds₀} {ss} {ts} {ds} {Ds} {n} {m} h e f =
    let sources : take m ss ≡ sources_of rs = rw h.sources_hold (take_at (sources_of rs) (drop (length rs) ss₀) m (length-map rs (λ (r : Rule). r.source) ∙ sym f)) in
    let targets : take m ts ≡ targets_of rs = rw h.targets_hold (take_at (targets_of rs) (drop (length rs) ts₀) m (length-map rs (λ (r : Rule). r.target) ∙ sym f)) in
    let leasts : take m ds ≡ leasts_of rs = rw h.leasts_hold (take_at (leasts_of rs) (drop (length rs) ds₀) m (length-map rs (λ (r : Rule). r.least) ∙ sym f)) in
    let mosts : take m Ds ≡ mosts_of rs = rw h.mosts_hold (take_at (mosts_of rs) (drop (length rs) Ds₀) m (length-map rs (λ (r : Rule). r.most) ∙ sym f)) in
    λ i. graph_of (e i) (sources i) (targets i) (leasts i) (mosts i)

pub few_taken : {m b : ℕ} (xs : List ℕ) → m ≤ b → length (take m xs) ≤ b
few_taken {m} {b} xs l = omega (arith, length-take m xs)

module _ {bs : List ℕ} {a : ReadingNumbers} {ss₀ ts₀ : List ℕ} {ds₀ Ds₀ : List ℤ} {ss ts : List ℕ} {ds Ds : List ℤ} (w : RulesWritten bs a ss₀ ts₀ ds₀ Ds₀ ss ts ds Ds) (r : ReadOff bs (ShortForRules ss₀ ts₀ ds₀ Ds₀) a) where
  pub handed : a.refusal ≡ 0 → Handed bs a ss ts ds Ds
  handed e =
      let (rs, text, n, m) = r.found e in
      let (few, few_rows, _) = counts_small r.verdict e text in
      record {
        rs = rs;
        text = text;
        event_count = n;
        few = omega arith;
        few_rows = omega arith;
        few_rules = few_rows;
        graph = held_graph (w.written e rs text) n m;
      }

  module _ (sources_long : length ss₀ ≡ 1024) (targets_long : length ts₀ ≡ 1024) (leasts_long : length ds₀ ≡ 1024) (mosts_long : length Ds₀ ≡ 1024) where
    enough : (rs : List Rule) → ShortForRules ss₀ ts₀ ds₀ Ds₀ rs → 1024 < length rs
    enough rs (inl l) = omega arith
    enough rs (inr (inl l)) = omega arith
    enough rs (inr (inr (inl l))) = omega arith
    enough rs (inr (inr (inr l))) = omega arith

    pub read_refused : {Rest : ℕ → ℕ → Type 0} → (a.refusal ≡ 0 → ⊥) → TextVerdict bs NoLists Rest a.refusal a.place
    read_refused n = refused_on enough r.verdict n

    -- ---- the separation of two events

    pub text_unread : {s t : ℕ} {b : Answer} → (a.refusal ≡ 0 → ⊥) → b.refusal ≡ a.refusal → b.place ≡ a.place → Nothing b → TextAnswered bs s t b
    text_unread {s} {t} {b} n e f nothing =
        record {
          verdict = subst₂ (λ (j p : ℕ). TextVerdict bs NoLists (λ (j p : ℕ). (rs : List Rule) × Text bs rs × Verdict (graph_of_rules rs) s t ⊥ j p) j p) (sym e) (sym f) (read_refused n);
          found = λ h. absurd (n (sym e ∙ h));
          nothing = λ h. nothing;
        }

  pub text_answered : {s t : ℕ} {b : Answer} → a.refusal ≡ 0 → Answered (graph_of a.events (take a.rules ss) (take a.rules ts) (take a.rules ds) (take a.rules Ds)) s t ⊥ b → TextAnswered bs s t b
  text_answered {s} {t} {b} e x =
      let h = handed e in
      let y : Answered (graph_of_rules h.rs) s t ⊥ b = subst (λ (g : Graph). Answered g s t ⊥ b) h.graph x in
      record {
        verdict = accepted_on r.verdict e (h.rs, h.text, y.verdict);
        found = λ z. (h.rs, h.text, y.found z);
        nothing = y.nothing;
      }
