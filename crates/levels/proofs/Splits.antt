-- Ways put together and split at a level.
--     later c e        caps of a way that goes on with e crossings more
--     way_join         a way of d₁ crossings and one of d₂ from its end are a way of d₁ + d₂, and its pair is theirs composed
--     way_split        and a way of d₁ + d₂ crossings is two such ways
-- Assumes nothing.
use mathlib.Core.Path.{◌≡◌, refl, sym, ap, subst, ◌∙◌}
use Prim.Native.Nat.{ℕ, zero, suc, ◌+◌}
use native.Mathlib.Omega.{arith}
use Rattle.sets.specs.Limit.{Limit, number}
use Rattle.sets.specs.Pair.{Pair, pair, compose, unit}
use Rattle.sets.proofs.Pairs.{compose_assoc, unit_compose}
use Rattle.processes.specs.declared.Event.{Event}
use Rattle.processes.specs.Process.{target, most, ProcessGraph}
use Rattle.levels.specs.Parts.Ways.{Way, nothing, within, across, way_pair}

abbrev pub later : (ℕ → Event → Limit) → ℕ → ℕ → Event → Limit
later c e d x = c (d + e) x

module _ (g : ProcessGraph) (c : ℕ → Event → Limit) where
  -- one template more in front: its cap is that at the crossings that are left
  in_front : (d d₁ d₂ j : ℕ) → d ≡ d₁ + d₂ → (p q r : Pair) → p ≡ compose q r
      → compose (pair (number (most g j)) (c d (target g j))) p
      ≡ compose (compose (pair (number (most g j)) (later c d₂ d₁ (target g j))) q) r
  in_front d d₁ d₂ j e p q r h =
      ap (λ (x : ℕ). compose (pair (number (most g j)) (c x (target g j))) p) e
      ∙ ap (compose (pair (number (most g j)) (later c d₂ d₁ (target g j)))) h
      ∙ sym (compose_assoc (pair (number (most g j)) (later c d₂ d₁ (target g j))) q r)

  pub way_join : {d₁ d₂ : ℕ} {u x v : Event} (a : Way g d₁ u x) (b : Way g d₂ x v) (d : ℕ) → d ≡ d₁ + d₂
      → (w : Way g d u v) × (way_pair c w ≡ compose (way_pair (later c d₂) a) (way_pair c b))
  way_join {d₂ = d₂} {u = x} {v = v} nothing b d e =
      subst (λ (n : ℕ). (w : Way g n x v) × (way_pair c w ≡ compose unit (way_pair c b))) (let same : d₂ ≡ d = omega arith in same)
      (b, sym (unit_compose (way_pair c b)))
  way_join {d₁} {d₂} (within j l m from a) b d e =
      let (w, same) = way_join a b d e in
      (within j l m from w, in_front d d₁ d₂ j e (way_pair c w) (way_pair (later c d₂) a) (way_pair c b) same)
  way_join (across j l m from a) b zero e = absurd (let no : ⊥ = omega arith in no)
  way_join {d₂ = d₂} (across {d = d₁} j l m from a) b (suc d) e =
      let less : d ≡ d₁ + d₂ = omega arith in
      let (w, same) = way_join a b d less in
      (across j l m from w, in_front d d₁ d₂ j less (way_pair c w) (way_pair (later c d₂) a) (way_pair c b) same)

  pub way_split : {d : ℕ} {u v : Event} (w : Way g d u v) (d₁ d₂ : ℕ) → d ≡ d₁ + d₂
      → (x : Event) × (a : Way g d₁ u x) × (b : Way g d₂ x v) × (way_pair c w ≡ compose (way_pair (later c d₂) a) (way_pair c b))
  way_split {d} {u} {v} w zero d₂ e =
      let (b, same) = subst (λ (n : ℕ). (b : Way g n u v) × (way_pair c w ≡ way_pair c b)) (let same : d ≡ d₂ = omega arith in same) (w, refl) in
      (u, nothing, b, same ∙ sym (unit_compose (way_pair c b)))
  way_split nothing (suc d₁) d₂ e = absurd (let no : ⊥ = omega arith in no)
  way_split {d = d} {u = u} {v = v} (within j l m from w) (suc d₁) d₂ e =
      let (x, a, b, same) = way_split {d = d} {u = target g j} {v = v} w (suc d₁) d₂ e in
      (x, within j l m from a, b, in_front d (suc d₁) d₂ j e (way_pair c w) (way_pair (later c d₂) a) (way_pair c b) same)
  way_split {u = u} {v = v} (across {d} j l m from w) (suc d₁) d₂ e =
      let less : d ≡ d₁ + d₂ = omega arith in
      let (x, a, b, same) = way_split {d = d} {u = target g j} {v = v} w d₁ d₂ less in
      (x, across j l m from a, b, in_front d d₁ d₂ j less (way_pair c w) (way_pair (later c d₂) a) (way_pair c b) same)
