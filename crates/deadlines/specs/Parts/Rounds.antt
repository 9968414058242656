-- A round: each rule once, both ways. The numbers stand in a list, one for each event, and are only lowered.
--     floor                             == no hard times have a gap as low: 01's sizes end one above it. No number is lowered further
--     Below y z                         == y is at most z, or cut off at the floor
--     NumbersWithin n xs                == the numbers of the n events lie within the floor, either side
--     ArcHeld a b w old new changed     == the number of b is lowered to that of a and w, and no further; no number is raised, and changed says whether one is lowered
--     Meets h a b d D                   == h meets a rule, and is not cut off
--     RuleHeld a b d D old new changed  == a rule is held both ways
--     RulesHeld g k old new changed     == so are the rules below k
--     FloorChecked n xs r               == r says whether the number of each event is above the floor
-- Assumes nothing.
use Rattle.std.specs.Prelude.{◌≡◌, Bool, true, false, ◌⊎◌, List, ℕ, ◌<◌, ℤ, pos, neg_ℤ, ◌+ℤ◌, ◌≤ℤ◌, ◌<ℤ◌}
use Rattle.integers.specs.Within.{Within}
use Rattle.graphs.specs.Graph.{Graph, source, target, least, most}
use Rattle.separation.specs.Promise.{at}

abbrev pub floor : ℤ
floor = neg_ℤ (pos 2046000001)

abbrev pub Below : ℤ → ℤ → Type 0
Below y z = (y ≤ℤ z) ⊎ (y ≤ℤ floor)

abbrev pub NumbersWithin : ℕ → List ℤ → Type 0
NumbersWithin n xs = (v : ℕ) → v < n → Within 2046000001 (at xs v)

pub record ArcHeld (a b : ℕ) (w : ℤ) (old new : List ℤ) (changed : Bool) : Type 0 where
  pub not_raised : (v : ℕ) → at new v ≤ℤ at old v
  pub within : (v : ℕ) → Within 2046000001 (at old v) → Within 2046000001 (at new v)
  pub held : Below (at new b) (at old a +ℤ w)
  pub safe : (h : ℕ → ℤ) → h b ≤ℤ (h a +ℤ w) → floor <ℤ h b → h a ≤ℤ at old a → (v : ℕ) → h v ≤ℤ at old v → h v ≤ℤ at new v
  pub lowered : changed ≡ true → at new b <ℤ at old b
  pub kept : changed ≡ false → new ≡ old

-- h meets a rule from a to b with delays d and D, and is above the floor at its events
pub record Meets (h : ℕ → ℤ) (a b : ℕ) (d D : ℤ) : Type 0 where
  pub forth : h b ≤ℤ (h a +ℤ D)
  pub back : h a ≤ℤ (h b +ℤ neg_ℤ d)
  pub source_above : floor <ℤ h a
  pub target_above : floor <ℤ h b

pub record RuleHeld (a b : ℕ) (d D : ℤ) (old new : List ℤ) (changed : Bool) : Type 0 where
  pub not_raised : (v : ℕ) → at new v ≤ℤ at old v
  pub within : (v : ℕ) → Within 2046000001 (at old v) → Within 2046000001 (at new v)
  pub forth : Below (at new b) (at old a +ℤ D)
  pub back : Below (at new a) (at old b +ℤ neg_ℤ d)
  pub safe : (h : ℕ → ℤ) → Meets h a b d D → h a ≤ℤ at old a → h b ≤ℤ at old b → (v : ℕ) → h v ≤ℤ at old v → h v ≤ℤ at new v
  pub lowered : changed ≡ true → (at new b <ℤ at old b) ⊎ (at new a <ℤ at old a)
  pub kept : changed ≡ false → new ≡ old

pub record RulesHeld (g : Graph) (k : ℕ) (old new : List ℤ) (changed : Bool) : Type 0 where
  pub not_raised : (v : ℕ) → at new v ≤ℤ at old v
  pub within : NumbersWithin g.events new
  pub forth : (i : ℕ) → i < k → Below (at new (target g i)) (at old (source g i) +ℤ most g i)
  pub back : (i : ℕ) → i < k → Below (at new (source g i)) (at old (target g i) +ℤ neg_ℤ (least g i))
  pub safe : (h : ℕ → ℤ) → ((i : ℕ) → i < k → Meets h (source g i) (target g i) (least g i) (most g i)) → ((v : ℕ) → v < g.events → h v ≤ℤ at old v) → (v : ℕ) → v < g.events → h v ≤ℤ at new v
  pub lowered : changed ≡ true → (v : ℕ) × (v < g.events) × (at new v <ℤ at old v)
  pub kept : changed ≡ false → new ≡ old

pub record FloorChecked (n : ℕ) (xs : List ℤ) (r : Bool) : Type 0 where
  pub above : r ≡ true → (v : ℕ) → v < n → floor <ℤ at xs v
  pub cut_off : r ≡ false → (v : ℕ) × (v < n) × (at xs v ≤ℤ floor)
