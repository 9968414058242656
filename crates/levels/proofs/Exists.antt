-- Every input that is kept has an answer: the promise of a long run asks for nothing that is not there.
--     long_exists       12, where some set has more than 64 pairs, or the separation
-- Assumes nothing.
use mathlib.Core.Path.{◌≡◌, refl, sym, subst}
use mathlib.Core.Logic.{◌⊎◌, inl, inr}
use mathlib.Core.List.{List, [], ◌∷◌}
use Prim.Native.Nat.{ℕ, zero, suc, ◌+◌, ◌*◌, ◌<◌, ◌≤◌}
use native.Mathlib.Decide.{dec_lt}
use native.Mathlib.Omega.{arith}
use lib.IntN.{ℤ, pos}
use lib.ListN.{length}
use Rattle.sequences.proofs.Below.{below_next}
use Rattle.sets.specs.Limit.{Limit, number}
use Rattle.sets.specs.Pair.{Pair, l_number}
use Rattle.sets.specs.Set.{◌∈◌, SetValue}
use Rattle.sets.proofs.Values.{set_value_exists}
use Rattle.paths.specs.Parts.Solved.{Solved}
use Rattle.paths.proofs.Solved.{solved_exists}
use Rattle.processes.specs.declared.Event.{Event}
use Rattle.processes.specs.Process.{occurrence, ProcessGraph}
use Rattle.processes.proofs.Occurrences.{occurrence_below}
use Rattle.levels.specs.Full.{full_unfolding}
use Rattle.levels.specs.Long.{LongAnswered}
use Rattle.levels.specs.Parts.Sweep.{Whole, Fits}
use Rattle.levels.proofs.Outgoing.{past_number}
use Rattle.levels.proofs.Turns.{past_set}
use Rattle.levels.proofs.Verdicts.{InputKept}
use Rattle.levels.proofs.Answers.{kept_unfolds, kept_sound, source_event, target_event, root_number, root_some, answer_overfull, answer_found}

-- a number below n whose list is too long, or none
search : (full : ℕ → List Pair) (room n : ℕ) → ((v : ℕ) × (v < n) × (room < length (full v))) ⊎ ((v : ℕ) → v < n → length (full v) ≤ room)
search full room zero = inr (λ v l. absurd (let no : ⊥ = omega arith in no))
search full room (suc n) = by (search full room n) (dec_lt room (length (full n)))
  where
    by : ((v : ℕ) × (v < n) × (room < length (full v))) ⊎ ((v : ℕ) → v < n → length (full v) ≤ room) → Dec (room < length (full n))
        → ((v : ℕ) × (v < suc n) × (room < length (full v))) ⊎ ((v : ℕ) → v < suc n → length (full v) ≤ room)
    by (inl (v, l, over)) d = inl (v, omega arith, over)
    by (inr short) (yes over) = inl (n, omega arith, over)
    by (inr short) (no n') = inr (below_next (λ v. length (full v) ≤ room) n short (omega arith))

value_of : (T : List Pair) (m : ℤ) → (T ≡ [] → ⊥) → ((q : Pair) → q ∈ T → (a : ℤ) × (q.l ≡ number a)) → (x : ℤ) × SetValue T m x
value_of [] m some numbered = absurd (some refl)
value_of (p ∷ T) m some numbered = set_value_exists p T m (λ q k. let (a, e) = numbered q k in l_number a e)

module _ {g : ProcessGraph} {K : ℕ} {s : Event} {ks : ℕ} {t : Event} {kt : ℕ} (kept : InputKept g K s ks t kt) where
  module _ {cap : ℕ → Limit} {full : ℕ → List Pair}
      (solved : Solved (full_unfolding g K) (occurrence g ks s).0 (occurrence g kt t).0 cap full) where
    -- sets from K on are empty
    all_fit : ((v : ℕ) → v < 1 + g.events * K → length (full v) ≤ 64) → (k : ℕ) → Fits g full 64 k Whole
    all_fit short k = record { each = λ u hu _. at u hu (dec_lt k K) }
      where
        at : (u : Event) → u.0 < g.events → Dec (k < K) → length (full (occurrence g k u).0) ≤ 64
        at u hu (yes below) = short (occurrence g k u).0 (occurrence_below g K k u hu below)
        at u hu (no n) =
            subst (λ (T : List Pair). length T ≤ 64)
            (sym (past_set kept.fit (kept_unfolds kept) solved (target_event kept) (occurrence g k u).0
            (past_number kept.fit (kept_unfolds kept) k u (omega arith))))
            (omega arith)

    answered : ((v : ℕ) × (v < 1 + g.events * K) × (64 < length (full v))) ⊎ ((v : ℕ) → v < 1 + g.events * K → length (full v) ≤ 64)
        → (refusal : ℕ) × (place : ℕ) × (x : ℤ) × LongAnswered g K s ks t kt refusal place x
    answered (inl (v, l, over)) = (12, 0, pos 0, answer_overfull kept solved v l over)
    answered (inr short) =
        let (m, e) = root_number (kept_sound kept) solved (source_event kept) in
        let (x, v) = value_of (full 0) m (root_some (kept_sound kept) solved (target_event kept)) (solved.sets.each 0).numbered.number_of in
        (0, 0, x, answer_found kept solved (all_fit short) (short 0 (omega arith)) e v)

  pub long_exists : (refusal : ℕ) × (place : ℕ) × (x : ℤ) × LongAnswered g K s ks t kt refusal place x
  long_exists =
      let (cap, full, solved) = solved_exists (kept_sound kept) (occurrence g ks s).0 (occurrence g kt t).0 in
      answered solved (search full 64 (1 + g.events * K))
