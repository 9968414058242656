-- Values that follow from those of the sources, event by event: the times of an execution, and U.
--     Arrives g add finish before v x    x is finish v a, where a is the greatest (value of source + add i) over the rules i into v
--     Settled g start add finish value   the root has value `start`; every other event v has finish v a, where a is the greatest (value of source + add i)
--                                        over the rules i into v
--     values_settle                      a sound graph has such values
-- The idea. `value_at k v` is the value of v as k rounds find it: in a round each event other than the root takes the greatest arrival by the values of the
-- round before, and what `finish` makes of it. By `rank_of` an event's rank is below the number of events and above those of its sources, so after
-- `rank v` rounds the value of v no longer changes (`settled`), and one round more says that it follows from its sources. Assumes nothing.
use mathlib.Core.Path.{◌≡◌, refl, ap, sym, ◌∙◌}
use Prim.Native.Nat.{ℕ, zero, suc, ◌<◌}
use native.Mathlib.Decide.{ℕ_discrete, dec_lt}
use native.Mathlib.Nat.{not-suc-le-zero}
use native.Mathlib.Omega.{arith}
use lib.IntN.{ℤ, ◌+ℤ◌}
use Rattle.graphs.specs.Graph.{Graph, rules, source, target, Greatest}
use Rattle.graphs.specs.Limits.{SoundGraph}
use Rattle.graphs.proofs.Rank.{rank_of}
use Rattle.graphs.proofs.Greatest.{greatest_exists, greatest_unique, greatest_same, incoming}

-- what an event's value is made of
pub record Arrives (g : Graph) (add : ℕ → ℤ) (finish : ℕ → ℤ → ℤ) (before : ℕ → ℤ) (v : ℕ) (x : ℤ) : Type 0 where
  pub arrival : ℤ
  pub greatest : Greatest g v (λ i. before (source g i) +ℤ add i) arrival
  pub finished : x ≡ finish v arrival

pub record Settled (g : Graph) (start : ℤ) (add : ℕ → ℤ) (finish : ℕ → ℤ → ℤ) (value : ℕ → ℤ) : Type 0 where
  pub root : value 0 ≡ start
  pub others : (v : ℕ) → v < g.events → (v ≡ 0 → ⊥) → Arrives g add finish value v (value v)

module _ {g : Graph} (sound : SoundGraph g) (start : ℤ) (add : ℕ → ℤ) (finish : ℕ → ℤ → ℤ) where
  -- what `finish` makes of the greatest arrival at v, and `start` at the root and past the events
  at_event : (v : ℕ) (before : ℕ → ℤ) → Dec (v < g.events) → Dec (v ≡ 0) → ℤ
  at_event v before (yes h) (yes e) = start
  at_event v before (yes h) (no n) =
      let i = incoming sound h n in
      finish v (greatest_exists g v (λ i. before (source g i) +ℤ add i) i.0 i.1 i.2).0
  at_event v before (no h) d = start

  at_event_root : (v : ℕ) (before : ℕ → ℤ) (p : Dec (v < g.events)) (q : Dec (v ≡ 0)) → v ≡ 0 → at_event v before p q ≡ start
  unfolding at_event
  at_event_root v before (yes h) (yes e) z = refl
  at_event_root v before (yes h) (no n) z = absurd (n z)
  at_event_root v before (no h) d z = refl

  at_event_arrives : (v : ℕ) (before : ℕ → ℤ) (p : Dec (v < g.events)) (q : Dec (v ≡ 0)) → v < g.events → (v ≡ 0 → ⊥)
      → Arrives g add finish before v (at_event v before p q)
  unfolding at_event
  at_event_arrives v before (yes h) (yes e) l o = absurd (o e)
  at_event_arrives v before (yes h) (no n) l o =
      let i = incoming sound h n in
      let (x, greatest) = greatest_exists g v (λ i. before (source g i) +ℤ add i) i.0 i.1 i.2 in
      record { arrival = x; greatest = greatest; finished = refl }
  at_event_arrives v before (no h) d l o = absurd (h l)

  value_at : ℕ → ℕ → ℤ
  value_at zero v = start
  value_at (suc k) v = at_event v (value_at k) (dec_lt v g.events) (ℕ_discrete v 0)

  value_at_arrives : (k v : ℕ) → v < g.events → (v ≡ 0 → ⊥) → Arrives g add finish (value_at k) v (value_at (suc k) v)
  unfolding value_at
  value_at_arrives k v h n = at_event_arrives v (value_at k) (dec_lt v g.events) (ℕ_discrete v 0) h n

  value_at_root : (k v : ℕ) → v ≡ 0 → value_at k v ≡ start
  unfolding value_at
  value_at_root zero v e = refl
  value_at_root (suc k) v e = at_event_root v (value_at k) (dec_lt v g.events) (ℕ_discrete v 0) e

  module _ (rank : ℕ → ℕ) (first : (i : ℕ) → i < rules g → rank (source g i) < rank (target g i)) where
    settled_at : (k v : ℕ) → v < g.events → ((i : ℕ) → i < rules g → target g i ≡ v → value_at k (source g i) ≡ value_at (suc k) (source g i)) → Dec (v ≡ 0)
        → value_at (suc k) v ≡ value_at (suc (suc k)) v
    settled_at k v h before (yes e) = value_at_root (suc k) v e ∙ sym (value_at_root (suc (suc k)) v e)
    settled_at k v h before (no n) =
        let a = value_at_arrives k v h n in
        let b = value_at_arrives (suc k) v h n in
        let same : a.arrival ≡ b.arrival = greatest_unique a.greatest b.greatest (λ i l e. ap (λ (x : ℤ). x +ℤ add i) (before i l e)) in
        a.finished ∙ ap (finish v) same ∙ sym b.finished

    settled : (k v : ℕ) → rank v < k → v < g.events → value_at k v ≡ value_at (suc k) v
    settled zero v r h = absurd (not-suc-le-zero r)
    settled (suc k) v r h =
        settled_at k v h (λ i l e. settled k (source g i) (omega (arith, first i l, ap rank e)) (sound.ends i l).source_known) (ℕ_discrete v 0)

    all_settled : ((v : ℕ) → v < g.events → rank v < g.events) → Settled g start add finish (value_at (suc g.events))
    all_settled below =
        record {
          root = value_at_root (suc g.events) 0 refl;
          others = λ v h n. again v (value_at_arrives g.events v h n);
        }
      where
        again : (v : ℕ) → Arrives g add finish (value_at g.events) v (value_at (suc g.events) v)
            → Arrives g add finish (value_at (suc g.events)) v (value_at (suc g.events) v)
        again v a =
            record {
              arrival = a.arrival;
              greatest =
                  greatest_same a.greatest
                  (λ i l e. ap (λ (y : ℤ). y +ℤ add i)
                  (settled g.events (source g i) (below (source g i) (sound.ends i l).source_known) (sound.ends i l).source_known));
              finished = a.finished;
            }

  pub values_settle : (value : ℕ → ℤ) × Settled g start add finish value
  values_settle =
      let r = rank_of g sound.ends sound.acyclic in
      (value_at (suc g.events), all_settled r.0 r.1 r.2)
