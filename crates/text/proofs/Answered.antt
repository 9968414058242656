-- The promises of the text form fix its results: two results allowed for one text are equal. And what they never are.
--     text_answered_exactly   a refusal is given exactly when its rule says: whatever number and place the verdict allows, the answer has them
--     text_answer_unique      two answers to one question about one text
--     text_result_unique      so two results are equal
--     entered_unique          two numbers of the C entry
--     pairs_verdict_unique    the number and place of the pair program's refusal
--     output_unique           two outputs of the pair program
--     output_told             two answers with the same numbers are equal
--     pairs_unique, pairs_result_unique    what two runs of it give and leave in the lent list
--     ends_known              a text's rules name only its events
--     written_inside          what write_pairs counts lies in the list
--     written_length          the list keeps its length, since every output fits
--     text_numbers            which refusals are given for a text, and pairs_numbers by the pair program
--     never_2, never_7, never_9, never_23, never_24     so these are not
--     number_small            and none is above 22
--     found_within            a separation that is found is small
--     entry_found, entry_refused      so the C entry's number is above −4,000,000,000 for a separation, and below for a refusal
--     never_mistaken          and from the number alone the refusal is known
-- Assumes nothing.
use Rattle.std.proofs.Common.{Result, Ok, Err}
use mathlib.Core.Path.{◌≡◌, refl, sym, ap, subst, ◌∙◌}
use mathlib.Core.List.{List, [], ◌∷◌, ◌++◌}
use Prim.Native.Nat.{ℕ, zero, suc, ◌+◌, ◌<◌, ◌≤◌}
use native.Mathlib.Nat.{not-suc-le-zero, le_of_suc-le-suc}
use native.Mathlib.Decide.{ℕ_discrete}
use native.Mathlib.Omega.{arith}
use lib.Dec.{T}
use lib.IntN.{ℤ, pos, neg_ℤ}
use lib.Signed.{◌<ℤ◌}
use lib.ListN.{length, get_or, drop, length-map, length-append, length-drop}
use Rattle.integers.specs.Within.{Within}
use Rattle.integers.proofs.Integer.{linear, negation}
use Rattle.graphs.specs.Graph.{Graph, rules}
use Rattle.graphs.specs.Limits.{EndsKept}
use Rattle.graphs.specs.Refusal.{UnknownEvent, graph_checks, question_checks, path_checks, GraphVerdict}
use Rattle.verdicts.specs.Verdict.{check, FirstOf, Accepted, accepted, AtZero, Lowest}
use Rattle.verdicts.proofs.Verdicts.{OneVerdict, at_zero_unique, then_unique, one_verdict, accepted_none, then_place, OneOf, among, one_of}
use Rattle.graphs.proofs.Unique.{depth_unique, ends_kept}
use Rattle.graphs.proofs.Refusals.{question_places, path_places, graph_verdict_unique}
use Rattle.executions.proofs.Unique.{separation_unique}
use Rattle.executions.proofs.Sizes.{exact_size}
use Rattle.refusals.specs.declared.Refusal.{Refusal}
use Rattle.refusals.proofs.Unique.{some_number, same_refusal}
use Rattle.separation.specs.declared.Separated.{Separated}
use Rattle.separation.specs.declared.Answer.{Answer}
use Rattle.separation.specs.Numbers.{answer_numbers}
use Rattle.separation.specs.Promise.{Verdict, Found}
use Rattle.separation.proofs.Promises.{SameValues, answers_agree, told_by_numbers}
use Rattle.text.specs.Grammar.{Rule, Text}
use Rattle.text.specs.Reading.{events, sources_of, targets_of, graph_of_rules, text_checks, TextVerdict}
use Rattle.text.specs.Answers.{NoLists, TextAnswered, entry_number, Entered}
use Rattle.text.specs.Output.{ending, pairs, Lines, pair_header, PairsVerdict, Output, table, refused, RefusedLine, ShortOutput, output_numbers, PairsWritten}
use Rattle.text.specs.declared.PairsAnswer.{PairsAnswer}
use Rattle.text.proofs.Texts.{text_unique}
use Rattle.text.proofs.Unique.{verdict_unique}
use Rattle.text.proofs.Handed.{no_lists}
use Rattle.text.proofs.PairOrder.{lines_unique, refused_line_unique}
use Rattle.text.proofs.Fitting.{output_fits}

-- ---- the answer to a question about a text

-- past the reader, the answer is the analysis's, to the one graph that the text has
abbrev Asked : List ℕ → ℕ → ℕ → ℕ → ℕ → Type 0
Asked bs s t j p = (rs : List Rule) × Text bs rs × Verdict (graph_of_rules rs) s t ⊥ j p

module _ {bs : List ℕ} {s t : ℕ} where
  found_of : {a : Answer} {rs rs' : List Rule} → Text bs rs → Text bs rs' → Found (graph_of_rules rs') s t a → Found (graph_of_rules rs) s t a
  found_of {a} text text' f = subst (λ (rs : List Rule). Found (graph_of_rules rs) s t a) (text_unique text' text) f

  one_question : OneVerdict (Asked bs s t)
  one_question i p j q (rs, text, u) (rs', text', u') =
      let here : Verdict (graph_of_rules rs) s t ⊥ j q = subst (λ (rs : List Rule). Verdict (graph_of_rules rs) s t ⊥ j q) (text_unique text' text) u' in
      then_unique (question_checks (graph_of_rules rs) s t ⊥) (question_places (graph_of_rules rs) s t ⊥)
      (one_verdict (path_checks (graph_of_rules rs)) (path_places (graph_of_rules rs))) i p j q u here

  pub text_answered_exactly : {a : Answer} → TextAnswered bs s t a → {j p : ℕ} → TextVerdict bs NoLists (Asked bs s t) j p → (a.refusal ≡ j) × (a.place ≡ p)
  text_answered_exactly x v = verdict_unique one_question x.verdict v

  same_values : {a b : Answer} → (rs : List Rule) × Text bs rs × Found (graph_of_rules rs) s t a → (rs : List Rule) × Text bs rs × Found (graph_of_rules rs) s t b → SameValues a b
  same_values (rs, text, f) (rs', text', f') =
      let h = found_of text text' f' in
      record {
        separations = separation_unique f.greatest h.greatest;
        source_depths = depth_unique f.depth_of_source h.depth_of_source;
        target_depths = depth_unique f.depth_of_target h.depth_of_target;
      }

  pub text_answer_unique : {a b : Answer} → TextAnswered bs s t a → TextAnswered bs s t b → a ≡ b
  text_answer_unique x y =
      answers_agree (text_answered_exactly x y.verdict) (λ e f. same_values (x.found e) (y.found f)) x.nothing y.nothing

  pub text_result_unique : (x y : Result Separated Refusal) → TextAnswered bs s t (answer_numbers x) → TextAnswered bs s t (answer_numbers y) → x ≡ y
  text_result_unique x y a b = told_by_numbers x y (text_answer_unique a b)

  pub entered_unique : {x y : ℤ} → Entered bs s t x → Entered bs s t y → x ≡ y
  entered_unique a b =
      a.number ∙ ap (λ (c : Answer). entry_number c.refusal c.separation) (text_answer_unique a.answered b.answered) ∙ sym b.number

-- ---- what the pair program writes

-- an answer is its three numbers
same_answer : {a b : PairsAnswer} → (a.refusal ≡ b.refusal) × (a.place ≡ b.place) → a.bytes ≡ b.bytes → a ≡ b
same_answer same k = λ i. record { refusal = same.0 i; place = same.1 i; bytes = k i }

module _ {bs : List ℕ} where
  one_graph : (i p j q : ℕ) → (rs : List Rule) × Text bs rs × GraphVerdict (graph_of_rules rs) i p → (rs : List Rule) × Text bs rs × GraphVerdict (graph_of_rules rs) j q → (i ≡ j) × (p ≡ q)
  one_graph i p j q (rs, text, u) (rs', text', u') =
      graph_verdict_unique (graph_of_rules rs) i p j q u (subst (λ (rs : List Rule). GraphVerdict (graph_of_rules rs) j q) (text_unique text' text) u')

  pub pairs_verdict_unique : {i p j q : ℕ} → PairsVerdict bs i p → PairsVerdict bs j q → (i ≡ j) × (p ≡ q)
  pairs_verdict_unique = verdict_unique one_graph

  pub output_unique : {out out' : List ℕ} → Output bs out → Output bs out' → out ≡ out'
  output_unique (table rs lines v text are e) (table rs' lines' v' text' are' e') =
      let here : Lines (graph_of_rules rs) (pairs (events rs)) lines' = subst (λ (rs : List Rule). Lines (graph_of_rules rs) (pairs (events rs)) lines') (text_unique text' text) are' in
      e ∙ ap (λ (bytes : List ℕ). pair_header ++ (ending ++ bytes)) (lines_unique are here) ∙ sym e'
  output_unique (table rs lines v text are e) (refused k p l v' line) = absurd (let no : ⊥ = omega (arith, (pairs_verdict_unique v v').0) in no)
  output_unique (refused k p l v line) (table rs lines v' text are e) = absurd (let no : ⊥ = omega (arith, (pairs_verdict_unique v v').0) in no)
  output_unique {out' = out'} (refused k p l v line) (refused k' p' l' v' line') =
      let (e, f) = pairs_verdict_unique v' v in
      refused_line_unique line (subst (λ (x : ℕ). RefusedLine k x out') f (subst (λ (x : ℕ). RefusedLine x p' out') e line'))

  pub pairs_unique : {out₀ out out' : List ℕ} {a b : PairsAnswer} → PairsWritten bs out₀ a out → PairsWritten bs out₀ b out' → (a ≡ b) × (out ≡ out')
  pairs_unique {out₀} {out} {out'} {a} {b} x y = go (ℕ_discrete a.refusal 0)
    where
      same : (a.refusal ≡ b.refusal) × (a.place ≡ b.place)
      same = one_verdict (check 23 (AtZero (ShortOutput out₀)) ∷ []) (at_zero_unique, tt) a.refusal a.place b.refusal b.place x.verdict y.verdict

      go : Dec (a.refusal ≡ 0) → (a ≡ b) × (out ≡ out')
      go (yes e) =
          let (output, o, count, bytes) = x.written e in
          let (output', o', count', bytes') = y.written (sym same.0 ∙ e) in
          let one : output ≡ output' = output_unique o o' in
          (same_answer same (count ∙ ap length one ∙ sym count'), bytes ∙ ap (λ (l : List ℕ). l ++ drop (length l) out₀) one ∙ sym bytes')
      go (no n) =
          let m : b.refusal ≡ 0 → ⊥ = λ f. n (same.0 ∙ f) in
          (same_answer same (x.no_bytes n ∙ sym (y.no_bytes m)), x.kept n ∙ sym (y.kept m))

pub output_told : (x y : Result ℕ Refusal) → output_numbers x ≡ output_numbers y → x ≡ y
output_told (Ok k) (Ok l) e = ap Ok (λ i. (e i).bytes)
output_told (Ok k) (Err r) e = absurd (some_number r (λ i. (sym e i).refusal))
output_told (Err r) (Ok l) e = absurd (some_number r (λ i. (e i).refusal))
output_told (Err r) (Err q) e = ap Err (same_refusal r q (λ i. (e i).refusal) (λ i. (e i).place))

pub pairs_result_unique : {bs out₀ out out' : List ℕ} (x y : Result ℕ Refusal) → PairsWritten bs out₀ (output_numbers x) out → PairsWritten bs out₀ (output_numbers y) out' → (x ≡ y) × (out ≡ out')
pairs_result_unique x y p q =
    let (same, bytes) = pairs_unique p q in
    (output_told x y same, bytes)

-- what is written lies in the list that is lent
pub written_inside : {bs out₀ out : List ℕ} {a : PairsAnswer} → PairsWritten bs out₀ a out → a.bytes ≤ length out
written_inside {bs} {out₀} {out} {a} x = go (ℕ_discrete a.refusal 0)
  where
    go : Dec (a.refusal ≡ 0) → a.bytes ≤ length out
    go (yes e) =
        let (output, o, count, bytes) = x.written e in
        omega (arith, count, ap length bytes, length-append output (drop (length output) out₀))
    go (no n) = omega (arith, x.no_bytes n)

pub written_length : {bs out₀ out : List ℕ} {a : PairsAnswer} → PairsWritten bs out₀ a out → length out ≡ length out₀
written_length {bs} {out₀} {out} {a} x = go (ℕ_discrete a.refusal 0)
  where
    go : Dec (a.refusal ≡ 0) → length out ≡ length out₀
    go (yes e) =
        let (output, o, count, bytes) = x.written e in
        let ((long, _), _) = accepted_none (check 23 (AtZero (ShortOutput out₀)) ∷ []) Accepted (omega arith, tt) a.refusal a.place e x.verdict in
        let room : ShortOutput out₀ → ⊥ = λ short. long 0 (record { zero_place = refl; holds = short }) in
        omega (arith, ap length bytes, length-append output (drop (length output) out₀), length-drop (length output) out₀, output_fits o)
    go (no n) = ap length (x.kept n)

-- ---- which refusals there are

ends_in : (rs : List Rule) (i : ℕ) → i < length rs → (get_or (sources_of rs) i 0 < events rs) × (get_or (targets_of rs) i 0 < events rs)
ends_in [] i l = absurd (not-suc-le-zero l)
ends_in (r ∷ rs) zero l = (omega arith, omega arith)
ends_in (r ∷ rs) (suc i) l =
    let (s, t) = ends_in rs i (le_of_suc-le-suc l) in
    (omega arith, omega arith)

pub ends_known : (rs : List Rule) (i : ℕ) → i < rules (graph_of_rules rs) → EndsKept (graph_of_rules rs) i
ends_known rs i l =
    let (s, t) = ends_in rs i (omega (arith, length-map rs (λ (r : Rule). r.source))) in
    record { source_known = s; target_known = t }

-- "n is 1 + the greatest event number seen", so that no rule of a text names an event that is not there
no_unknown : {A : Type 0} (rs : List Rule) (p : ℕ) → Lowest (UnknownEvent (graph_of_rules rs)) p → A
no_unknown rs p a = absurd (ends_kept (ends_known rs p a.holds.is_rule) a.holds)

zero_of : (Q : ℕ → Type 0) {j p : ℕ} → Q 0 → Accepted j p → Q j
zero_of Q z accepted = z

-- what holds of 0 and of each number that a text's refusals have
module _ (Q : ℕ → Type 0) (zero-kept : Q 0) (kept-1 : Q 1) (kept-3 : Q 3) (kept-5 : Q 5) (kept-6 : Q 6) (kept-8 : Q 8) (kept-21 : Q 21) (kept-22 : Q 22) where
  text_kept : {bs : List ℕ} {Rest : ℕ → ℕ → Type 0} {j p : ℕ} → (Rest j p → Q j) → TextVerdict bs NoLists Rest j p → Q j
  text_kept {bs} {Rest} {j} {p} rest v =
      then_place (λ (k q : ℕ). Q k) (text_checks bs NoLists) Rest j p (λ q a. kept-1, (λ q a. kept-8, (λ q a. kept-21, (λ q a. kept-22, (λ q a. absurd (no_lists q a), tt))))) rest v

  paths_kept : {g : Graph} {j p : ℕ} → FirstOf (path_checks g) j p → Q j
  paths_kept {g} {j} {p} v = then_place (λ (k q : ℕ). Q k) (path_checks g) Accepted j p (λ q a. kept-5, (λ q a. kept-6, tt)) (zero_of Q zero-kept) v

  question_kept : Q 4 → {bs : List ℕ} {s t j p : ℕ} → Asked bs s t j p → Q j
  question_kept kept-4 {s = s} {t} {j} {p} (rs, text, v) =
      then_place (λ (k q : ℕ). Q k) (question_checks (graph_of_rules rs) s t ⊥) (FirstOf (path_checks (graph_of_rules rs))) j p
      (λ q a. kept-21, (λ q a. kept-22, (λ q a. absurd a.holds, (no_unknown rs, (λ q a. kept-3, (λ q a. kept-4, tt)))))) paths_kept v

  graph_kept : {bs : List ℕ} {j p : ℕ} → (rs : List Rule) × Text bs rs × GraphVerdict (graph_of_rules rs) j p → Q j
  graph_kept {j = j} {p} (rs, text, v) =
      then_place (λ (k q : ℕ). Q k) (graph_checks (graph_of_rules rs)) (FirstOf (path_checks (graph_of_rules rs))) j p
      (λ q a. kept-21, (λ q a. kept-22, (no_unknown rs, (λ q a. kept-3, tt)))) paths_kept v

module _ {bs : List ℕ} {s t : ℕ} {a : Answer} (x : TextAnswered bs s t a) where
  among_text : T (among (1 ∷ 3 ∷ 4 ∷ 5 ∷ 6 ∷ 8 ∷ 21 ∷ 22 ∷ []) a.refusal)
  among_text =
      let Q : ℕ → Type 0 = λ j. T (among (1 ∷ 3 ∷ 4 ∷ 5 ∷ 6 ∷ 8 ∷ 21 ∷ 22 ∷ []) j) in
      text_kept Q tt tt tt tt tt tt tt tt (question_kept Q tt tt tt tt tt tt tt tt tt) x.verdict

  pub text_numbers : OneOf a.refusal (1 ∷ 3 ∷ 4 ∷ 5 ∷ 6 ∷ 8 ∷ 21 ∷ 22 ∷ [])
  text_numbers = one_of (1 ∷ 3 ∷ 4 ∷ 5 ∷ 6 ∷ 8 ∷ 21 ∷ 22 ∷ []) a.refusal among_text

  others : (k : ℕ) → a.refusal ≡ k → T (among (1 ∷ 3 ∷ 4 ∷ 5 ∷ 6 ∷ 8 ∷ 21 ∷ 22 ∷ []) k)
  others k e = subst (λ (j : ℕ). T (among (1 ∷ 3 ∷ 4 ∷ 5 ∷ 6 ∷ 8 ∷ 21 ∷ 22 ∷ []) j)) e among_text

  pub never_2 : a.refusal ≡ 2 → ⊥
  never_2 e = others 2 e

  pub never_7 : a.refusal ≡ 7 → ⊥
  never_7 e = others 7 e

  pub never_9 : a.refusal ≡ 9 → ⊥
  never_9 e = others 9 e

  pub never_23 : a.refusal ≡ 23 → ⊥
  never_23 e = others 23 e

  pub never_24 : a.refusal ≡ 24 → ⊥
  never_24 e = others 24 e

  pub number_small : a.refusal ≤ 22
  number_small =
      let Q : ℕ → Type 0 = λ j. j ≤ 22 in
      text_kept Q (omega arith) (omega arith) (omega arith) (omega arith) (omega arith) (omega arith) (omega arith) (omega arith)
      (question_kept Q (omega arith) (omega arith) (omega arith) (omega arith) (omega arith) (omega arith) (omega arith) (omega arith) (omega arith)) x.verdict

-- a pair program asks about no s and t
pub pairs_numbers : {bs : List ℕ} {j p : ℕ} → PairsVerdict bs j p → OneOf j (1 ∷ 3 ∷ 5 ∷ 6 ∷ 8 ∷ 21 ∷ 22 ∷ [])
pairs_numbers {j = j} v =
    let Q : ℕ → Type 0 = λ j. T (among (1 ∷ 3 ∷ 5 ∷ 6 ∷ 8 ∷ 21 ∷ 22 ∷ []) j) in
    one_of (1 ∷ 3 ∷ 5 ∷ 6 ∷ 8 ∷ 21 ∷ 22 ∷ []) j (text_kept Q tt tt tt tt tt tt tt tt (graph_kept Q tt tt tt tt tt tt tt tt) v)

-- ---- the C entry's number

pub found_within : {bs : List ℕ} {s t : ℕ} {a : Answer} → TextAnswered bs s t a → a.refusal ≡ 0 → Within 2046000000 a.separation
found_within x e =
    let (rs, text, f) = x.found e in
    exact_size f.graph f.source_known f.target_known f.greatest

number_found : (j : ℕ) (x : ℤ) → j ≡ 0 → entry_number j x ≡ x
number_found zero x e = refl
number_found (suc j) x e = absurd (let no : ⊥ = omega arith in no)

number_refused : (j : ℕ) (x : ℤ) → (j ≡ 0 → ⊥) → entry_number j x ≡ neg_ℤ (pos (4000000000 + j))
number_refused zero x n = absurd (n refl)
number_refused (suc j) x n = refl

module _ {bs : List ℕ} {s t : ℕ} {z : ℤ} (x : Entered bs s t z) where
  pub entry_found : x.answer.refusal ≡ 0 → (z ≡ x.answer.separation) × (neg_ℤ (pos 4000000000) <ℤ z)
  entry_found e =
      let is-it : z ≡ x.answer.separation = x.number ∙ number_found x.answer.refusal x.answer.separation e in
      let within = found_within x.answered e in
      (is-it, omega (linear, is-it, within.above, negation (pos 4000000000), negation (pos 2046000000)))

  pub entry_refused : (x.answer.refusal ≡ 0 → ⊥) → (z ≡ neg_ℤ (pos (4000000000 + x.answer.refusal))) × (z <ℤ neg_ℤ (pos 4000000000))
  entry_refused n =
      let is-it : z ≡ neg_ℤ (pos (4000000000 + x.answer.refusal)) = x.number ∙ number_refused x.answer.refusal x.answer.separation n in
      (is-it, omega (linear, is-it, negation (pos 4000000000), negation (pos (4000000000 + x.answer.refusal))))

pub never_mistaken : {bs bs' : List ℕ} {s s' t t' : ℕ} {z : ℤ} (x : Entered bs s t z) (y : Entered bs' s' t' z) → x.answer.refusal ≡ y.answer.refusal
never_mistaken {z = z} x y = go (ℕ_discrete x.answer.refusal 0) (ℕ_discrete y.answer.refusal 0)
  where
    go : Dec (x.answer.refusal ≡ 0) → Dec (y.answer.refusal ≡ 0) → x.answer.refusal ≡ y.answer.refusal
    go (yes e) (yes f) = e ∙ sym f
    go (yes e) (no n) = absurd (let no_number : ⊥ = omega (linear, (entry_found x e).1, (entry_refused y n).1) in no_number)
    go (no m) (yes f) = absurd (let no_number : ⊥ = omega (linear, (entry_refused x m).1, (entry_found y f).1) in no_number)
    go (no m) (no n) =
        omega (
          linear,
          (entry_refused x m).0,
          (entry_refused y n).0,
          negation (pos (4000000000 + x.answer.refusal)),
          negation (pos (4000000000 + y.answer.refusal)),
        )
