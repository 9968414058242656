-- What `read_rules` gives, put together from what its parts do.
--     read_refused         a refusal: the verdict gives it, and the counts are 0
--     read_long            too many bytes
--     read_broken          no text
--     read_counted         too many events or rules, or a list that is too short
--     read_right           none of these
--     lists_refused, lists_written     what the four lists hold after
-- Assumes nothing.
use Rattle.std.proofs.Common.{Ok, Err}
use mathlib.Core.Path.{◌≡◌, refl, sym, subst}
use mathlib.Core.Logic.{◌⊎◌, inl, inr}
use mathlib.Core.List.{List, [], ◌∷◌}
use Prim.Native.Nat.{ℕ, ◌≤◌, ◌<◌, min}
use native.Mathlib.Decide.{dec_lt}
use native.Mathlib.Omega.{arith}
use lib.IntN.{ℤ}
use lib.ListN.{length}
use Rattle.verdicts.specs.Verdict.{check, given, passed, Accepted, FirstOf, AtZero}
use Rattle.verdicts.proofs.Verdicts.{Alike, none_alike, more_alike, then_alike}
use Rattle.graphs.proofs.Refusals.{short_at}
use Rattle.refusals.specs.declared.Refusal.{Refusal}
use Rattle.refusals.specs.declared.Refusal.TheVariants.{BytesOutside}
use Rattle.refusals.specs.Numbers.{number_of, place_of}
use Rattle.refusals.proofs.Unique.{some_number}
use Rattle.text.specs.declared.Reading.{Reading}
use Rattle.text.specs.Grammar.{Rule, Text, Broken}
use Rattle.text.specs.Reading.{events, ShortForRules, ManyEvents, ManyRows, OfText, TextVerdict, reading_numbers, ReadOff, ListsHold, RulesWritten}
use Rattle.text.specs.Parts.Scanning.{reading_checks, Scanned}
use Rattle.text.proofs.Texts.{text_unique, text_not_broken}
use Rattle.text.proofs.Unique.{broken_first}
use Rattle.text.proofs.Counts.{counts_right}

-- ---- the reading

pub read_refused : {bs : List ℕ} {Short : List Rule → Type 0} (r : Refusal) → TextVerdict bs Short Accepted (number_of r) (place_of r) → ReadOff bs Short (reading_numbers (Err r))
read_refused r v = record { verdict = v; found = λ z. absurd (some_number r z); no_events = λ _. refl; no_rules = λ _. refl }

pub read_long : {bs : List ℕ} {Short : List Rule → Type 0} → 32768 < length bs → ReadOff bs Short (reading_numbers (Err BytesOutside))
read_long long = read_refused BytesOutside (given (record { zero_place = refl; holds = long }))

module _ (bs : List ℕ) (few : length bs ≤ 32768) where
  not_long : (q : ℕ) → AtZero (32768 < length bs) q → ⊥
  not_long q z = omega (arith, z.holds)

  pub read_broken : {Short : List Rule → Type 0} (r : Refusal) → Scanned bs (reading_numbers (Err r)) → ReadOff bs Short (reading_numbers (Err r))
  read_broken {Short} r s =
      let (e, broken, _, _) = s.wrong (some_number r) in
      read_refused r (subst (λ (k : ℕ). TextVerdict bs Short Accepted k (place_of r)) (sym e) (broken_first few broken))

  module _ {a : Reading} (s : Scanned bs (reading_numbers (Ok a))) where
    abbrev the_rules : List Rule
    the_rules = (s.right refl).0

    text : Text bs the_rules
    text = (s.right refl).1

    event_count : a.events ≡ events the_rules
    event_count = (s.right refl).2

    rule_count : a.rules ≡ length the_rules
    rule_count = (s.right refl).3

    not_broken : (q : ℕ) → Broken bs q → ⊥
    not_broken q b = text_not_broken text b

    -- there is one list of rules of which this text can be that
    text_of : {A : List Rule → Type 0} → OfText bs A → A the_rules
    text_of {A} z = subst A (text_unique z.text text) z.holds

    of_text : {A : List Rule → Type 0} → A the_rules → OfText bs A
    of_text h = record { rs = the_rules; text = text; holds = h }

    module _ (ss ts : List ℕ) (ds Ds : List ℤ) {places : ℕ} (least : places ≡ min (min (min (length ss) (length ts)) (length ds)) (length Ds)) where
      abbrev ShortOf : ℕ → Type 0
      ShortOf m = (length ss < m) ⊎ ((length ts < m) ⊎ ((length ds < m) ⊎ (length Ds < m)))

      -- a list is too short where the shortest one is
      one_short : {m : ℕ} → places < m → ShortOf m
      one_short {m} l = go (dec_lt (length ss) m) (dec_lt (length ts) m) (dec_lt (length ds) m)
        where
          go : Dec (length ss < m) → Dec (length ts < m) → Dec (length ds < m) → ShortOf m
          go (yes s) t d = inl s
          go (no s) (yes t) d = inr (inl t)
          go (no s) (no t) (yes d) = inr (inr (inl d))
          go (no s) (no t) (no d) = inr (inr (inr (omega (arith, least))))

      shortest : {m : ℕ} → ShortOf m → places < m
      shortest (inl l) = omega (arith, least)
      shortest (inr (inl l)) = omega (arith, least)
      shortest (inr (inr (inl l))) = omega (arith, least)
      shortest (inr (inr (inr l))) = omega (arith, least)

      -- the counts of the reading are those of the text's rules
      counts_alike : Alike (reading_checks a.events a.rules places) (check 21 (AtZero (OfText bs ManyEvents)) ∷ check 22 (AtZero (OfText bs ManyRows)) ∷ check 23 (AtZero (OfText bs (ShortForRules ss ts ds Ds))) ∷ [])
      counts_alike =
          more_alike
          (short_at (λ (l : 64 < a.events). of_text {A = ManyEvents} (subst (λ (x : ℕ). 64 < x) event_count l)))
          (short_at (λ (z : OfText bs ManyEvents). subst (λ (x : ℕ). 64 < x) (sym event_count) (text_of z)))
          (more_alike
          (short_at (λ (l : 1024 < a.rules). of_text {A = ManyRows} (subst (λ (x : ℕ). 1024 < x) rule_count l)))
          (short_at (λ (z : OfText bs ManyRows). subst (λ (x : ℕ). 1024 < x) (sym rule_count) (text_of z)))
          (more_alike
          (short_at (λ (l : places < a.rules). of_text {A = ShortForRules ss ts ds Ds} (subst ShortOf rule_count (one_short l))))
          (short_at (λ (z : OfText bs (ShortForRules ss ts ds Ds)). shortest (subst ShortOf (sym rule_count) (text_of z))))
          none_alike))

      counted : {k p : ℕ} → FirstOf (reading_checks a.events a.rules places) k p → TextVerdict bs (ShortForRules ss ts ds Ds) Accepted k p
      counted {k} {p} v = passed not_long (passed not_broken (then_alike counts_alike Accepted k p v))

      pub read_counted : (r : Refusal) → FirstOf (reading_checks a.events a.rules places) (number_of r) (place_of r) → ReadOff bs (ShortForRules ss ts ds Ds) (reading_numbers (Err r))
      read_counted r v = read_refused r (counted v)

      module _ (v : FirstOf (reading_checks a.events a.rules places) 0 0) where
        pub read_right : ReadOff bs (ShortForRules ss ts ds Ds) (reading_numbers (Ok a))
        read_right = record { verdict = counted v; found = s.right; no_events = λ n. absurd (n refl); no_rules = λ n. absurd (n refl) }

        -- what `write_rules` asks for
        pub room : (rs : List Rule) × Text bs rs × (length rs ≤ length ss) × (length rs ≤ length ts) × (length rs ≤ length ds) × (length rs ≤ length Ds)
        room =
            let kept = counts_right refl v in
            (the_rules, text, omega (arith, rule_count, kept.long, least), omega (arith, rule_count, kept.long, least), omega (arith, rule_count, kept.long, least), omega (arith, rule_count, kept.long, least))

-- ---- the lists

module _ {bs : List ℕ} {ss₀ ts₀ : List ℕ} {ds₀ Ds₀ : List ℤ} where
  pub lists_refused : (r : Refusal) → RulesWritten bs (reading_numbers (Err r)) ss₀ ts₀ ds₀ Ds₀ ss₀ ts₀ ds₀ Ds₀
  lists_refused r = record { written = λ e. absurd (some_number r e); kept = λ _. (refl, refl, refl, refl) }

  pub lists_written : (a : Reading) {ss ts : List ℕ} {ds Ds : List ℤ} → ((rs : List Rule) → Text bs rs → ListsHold rs ss₀ ts₀ ds₀ Ds₀ ss ts ds Ds) → RulesWritten bs (reading_numbers (Ok a)) ss₀ ts₀ ds₀ Ds₀ ss ts ds Ds
  lists_written a h = record { written = λ _. h; kept = λ n. absurd (n refl) }
