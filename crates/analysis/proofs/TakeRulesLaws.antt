-- How `take_rules` goes through the rules, one a turn.
--     Taking b g heads nexts waiting i  == the rules below i are right, chained by target and counted by source
--     taking_none                       before the first turn
--     taking_more                       rule i is right: it joins in front of its target's list, and is counted at its source
--     taking_fits                       a count is no more than the number of rules
--     taking_all                        with all rules taken, the answer true is as promised
--     taking_wrong                      where rule i is not right, so is the answer false
-- Assumes nothing.
use mathlib.Core.Path.{◌≡◌, sym, subst, ◌∙◌}
use mathlib.Core.Bool.{true, false, true≢false}
use mathlib.Core.List.{List}
use Prim.Native.Nat.{ℕ, ◌+◌, ◌<◌, ◌≤◌, zero-le}
use native.Mathlib.Numerals.{add-one}
use native.Mathlib.Decide.{ℕ_discrete, dec_lt}
use native.Mathlib.Omega.{arith}
use lib.ListN.{length, get_or, set, length-set}
use lib.Seq.{get_or-set_same, get_or-set_other}
use Rattle.sequences.specs.Counted.{Counted, none, hit, miss}
use Rattle.sequences.proofs.Counting.{counted_most}
use Rattle.graphs.specs.Graph.{Graph, rules, source, target}
use Rattle.graphs.specs.Limits.{CountsKept}
use Rattle.analysis.specs.Parts.Chains.{Last}
use Rattle.analysis.specs.Parts.Rules.{RuleRight, Zeros, RulesTaken}

pub record Taking (b : ℕ) (g : Graph) (heads nexts waiting : List ℕ) (i : ℕ) : Type 0 where
  pub within : i ≤ rules g
  pub heads_room : g.events ≤ length heads
  pub nexts_room : rules g ≤ length nexts
  pub waiting_room : g.events ≤ length waiting
  pub heads_last : (v : ℕ) → v < length heads → Last g.targets v i (get_or heads v 0)
  pub nexts_last : (j : ℕ) → j < i → Last g.targets (target g j) j (get_or nexts j 0)
  pub counted : (v : ℕ) → v < length waiting → Counted (λ (j : ℕ). source g j ≡ v) i (get_or waiting v 0)
  pub right : (j : ℕ) → j < i → RuleRight b g j

-- with rule i among them, the last rule into i's target is i, and that into every other event is as it was
joined : (keys : List ℕ) (i v : ℕ) → get_or keys i 0 ≡ v → Last keys v (i + 1) (i + 1)
joined keys i v e =
    record {
      within = omega arith;
      hit = λ j h. subst (λ (x : ℕ). get_or keys x 0 ≡ v) (let same : i ≡ j = omega arith in same) e;
      none = λ j h k q. omega arith;
    }

passed_by : (keys : List ℕ) (i v e : ℕ) → (get_or keys i 0 ≡ v → ⊥) → Last keys v i e → Last keys v (i + 1) e
passed_by keys i v e other last =
    record {
      within = omega (arith, last.within);
      hit = last.hit;
      none = λ j h k q. missed j h k q (dec_lt j i);
    }
  where
    missed : (j : ℕ) → e ≤ j → j < i + 1 → get_or keys j 0 ≡ v → Dec (j < i) → ⊥
    missed j h k q (yes l) = last.none j h l q
    missed j h k q (no l) = other (subst (λ (x : ℕ). get_or keys x 0 ≡ v) (let same : j ≡ i = omega arith in same) q)

module _ (b : ℕ) (g : Graph) where
  pub taking_none : (heads nexts waiting : List ℕ) → Zeros g.events heads → Zeros g.events waiting → rules g ≤ length nexts → Taking b g heads nexts waiting 0
  taking_none heads nexts waiting h w l =
      record {
        within = zero-le;
        heads_room = h.room;
        nexts_room = l;
        waiting_room = w.room;
        heads_last = λ v k. subst (Last g.targets v 0) (sym (h.zero v k)) (nowhere v);
        nexts_last = λ j k. absurd (let z : ⊥ = omega arith in z);
        counted = λ v k. subst (Counted (λ (j : ℕ). source g j ≡ v) 0) (sym (w.zero v k)) none;
        right = λ j k. absurd (let z : ⊥ = omega arith in z);
      }
    where
      nowhere : (v : ℕ) → Last g.targets v 0 0
      nowhere v = record { within = zero-le; hit = λ i h. absurd (let z : ⊥ = omega arith in z); none = λ i h k q. omega arith }

  module _ (heads nexts waiting : List ℕ) (i : ℕ) (t : Taking b g heads nexts waiting i) where
    pub taking_fits : (v : ℕ) → v < length waiting → get_or waiting v 0 ≤ i
    taking_fits v l = counted_most (t.counted v l)

    module _ (u v : ℕ) (l : i < rules g) (out : u ≡ source g i) (to : v ≡ target g i) (r : RuleRight b g i) where
      u_known : u < g.events
      u_known = subst (λ (x : ℕ). x < g.events) (sym out) r.source_known

      v_known : v < g.events
      v_known = subst (λ (x : ℕ). x < g.events) (sym to) r.target_known

      at_head : (x : ℕ) → x < length heads → Dec (x ≡ v) → Last g.targets x (i + 1) (get_or (set heads v (i + 1)) x 0)
      at_head x k (yes q) = rw (q, get_or-set_same heads v (i + 1) 0 (omega (arith, t.heads_room, v_known))) (joined g.targets i v (sym to))
      at_head x k (no q) = rw (get_or-set_other heads v x (i + 1) 0 q) (passed_by g.targets i x (get_or heads x 0) (λ e. q (sym e ∙ sym to)) (t.heads_last x k))

      at_next : (j : ℕ) → j < i + 1 → Dec (j < i) → Last g.targets (target g j) j (get_or (set nexts i (get_or heads v 0)) j 0)
      at_next j k (yes q) = rw (get_or-set_other nexts i j (get_or heads v 0) 0 (λ e. let z : ⊥ = omega arith in z)) (t.nexts_last j q)
      at_next j k (no q) =
          let same : j ≡ i = omega arith in
          rw (same, get_or-set_same nexts i (get_or heads v 0) 0 (omega (arith, t.nexts_room)), ← to) (t.heads_last v (omega (arith, t.heads_room, v_known)))

      at_source : (x : ℕ) → x < length waiting → Dec (x ≡ u) → Counted (λ (j : ℕ). source g j ≡ x) (i + 1) (get_or (set waiting u (get_or waiting u 0 + 1)) x 0)
      at_source x k (yes q) =
          rw (q, get_or-set_same waiting u (get_or waiting u 0 + 1) 0 (omega (arith, t.waiting_room, u_known)), add-one (get_or waiting u 0), add-one i)
          (hit (sym out) (t.counted u (omega (arith, t.waiting_room, u_known))))
      at_source x k (no q) = rw (get_or-set_other waiting u x (get_or waiting u 0 + 1) 0 q, add-one i) (miss (λ e. q (sym e ∙ sym out)) (t.counted x k))

      still_right : (j : ℕ) → j < i + 1 → Dec (j < i) → RuleRight b g j
      still_right j k (yes q) = t.right j q
      still_right j k (no q) = subst (RuleRight b g) (let same : i ≡ j = omega arith in same) r

      pub taking_more : Taking b g (set heads v (i + 1)) (set nexts i (get_or heads v 0)) (set waiting u (get_or waiting u 0 + 1)) (i + 1)
      taking_more =
          record {
            within = omega arith;
            heads_room = rw length-set t.heads_room;
            nexts_room = rw length-set t.nexts_room;
            waiting_room = rw length-set t.waiting_room;
            heads_last = λ x k. at_head x (omega (arith, length-set heads v (i + 1))) (ℕ_discrete x v);
            nexts_last = λ j k. at_next j k (dec_lt j i);
            counted = λ x k. at_source x (omega (arith, length-set waiting u (get_or waiting u 0 + 1))) (ℕ_discrete x u);
            right = λ j k. still_right j k (dec_lt j i);
          }

    pub taking_all : CountsKept g → rules g ≤ i → RulesTaken b g heads nexts waiting true
    taking_all counts done =
        let all : i ≡ rules g = omega (arith, t.within) in
        record {
          right = λ _ j k. t.right j (omega arith);
          chains =
              λ _.
              record {
                chained =
                    record {
                      heads_last = λ v k. subst (λ (x : ℕ). Last g.targets v x (get_or heads v 0)) (all ∙ sym counts.targets_match) (t.heads_last v k);
                      nexts_last = λ j k. t.nexts_last j (omega (arith, counts.targets_match));
                    };
                heads_room = t.heads_room;
                nexts_room = omega (arith, counts.targets_match, t.nexts_room);
              };
          tally = λ _. record { counted = λ v k. subst (λ (x : ℕ). Counted (λ (j : ℕ). source g j ≡ v) x (get_or waiting v 0)) all (t.counted v k) };
          wrong = λ e. absurd (true≢false e);
        }

    pub taking_wrong : i < rules g → (RuleRight b g i → ⊥) → RulesTaken b g heads nexts waiting false
    taking_wrong l no-right =
        record {
          right = λ e. absurd (true≢false (sym e));
          chains = λ e. absurd (true≢false (sym e));
          tally = λ e. absurd (true≢false (sym e));
          wrong = λ _ all. no-right (all i l);
        }
