-- The numbers of occurrences. Document 01: "Occurrence k of event i, k from 0 to K − 1, has number 1 + k × p + i".
--     event_same          two process events with one number are one
--     numbers_apart       no two occurrences have one number
--     never_root          none has the root's
--     occurrence_below    the occurrences below K have numbers below 1 + p × K
--     OneOccurrence g K v v is the number of one occurrence below K, and of no other
--     occurrence_found    so is every number below 1 + p × K but the root's
-- Assumes nothing.
use mathlib.Core.Path.{◌≡◌, sym, ap, ◌∙◌}
use Prim.Native.Nat.{ℕ, ◌+◌, ◌-◌, ◌*◌, ◌<◌}
use native.Mathlib.Omega.{arith}
use Rattle.processes.specs.declared.Event.{Event}
use Rattle.processes.specs.Process.{ProcessGraph, occurrence}
use Rattle.processes.proofs.Numbers.{places_apart, place_below, place_found}

pub event_same : (u v : Event) → u.0 ≡ v.0 → u ≡ v
event_same u v e = ap (λ (x : ℕ). record { 0 = x }) e

pub record OneOccurrence (g : ProcessGraph) (K v : ℕ) : Type 0 where
  pub k : ℕ
  pub event : Event
  pub k_below : k < K
  pub is_event : event.0 < g.events
  pub its_number : (occurrence g k event).0 ≡ v
  pub no_other : (k' : ℕ) (u : Event) → u.0 < g.events → (occurrence g k' u).0 ≡ v → (k' ≡ k) × (u ≡ event)

module _ (g : ProcessGraph) where
  pub numbers_apart : (k k' : ℕ) (u u' : Event) → u.0 < g.events → u'.0 < g.events → (occurrence g k u).0 ≡ (occurrence g k' u').0 → (k ≡ k') × (u.0 ≡ u'.0)
  numbers_apart k k' u u' l l' e =
      let same : k * g.events + u.0 ≡ k' * g.events + u'.0 = omega (arith, e) in
      places_apart g.events k k' u.0 u'.0 l l' same

  pub never_root : (k : ℕ) (u : Event) → (occurrence g k u).0 ≡ 0 → ⊥
  never_root k u e = omega (arith, e)

  pub occurrence_below : (K k : ℕ) (u : Event) → u.0 < g.events → k < K → (occurrence g k u).0 < 1 + g.events * K
  occurrence_below K k u l below = omega (arith, place_below g.events K k u.0 below l)

  pub occurrence_found : (K v : ℕ) → 0 < v → v < 1 + g.events * K → OneOccurrence g K v
  occurrence_found K v positive l =
      let p = place_found g.events K (v - 1) (omega arith) in
      let u : Event = record { 0 = p.within } in
      let here : (occurrence g p.row u).0 ≡ v = omega (arith, p.there) in
      record {
        k = p.row;
        event = u;
        k_below = p.row_below;
        is_event = p.within_below;
        its_number = here;
        no_other = λ k' u' known e.
            let (same, same_number) = numbers_apart k' p.row u' u known p.within_below (e ∙ sym here) in
            (same, event_same u' u same_number);
      }
