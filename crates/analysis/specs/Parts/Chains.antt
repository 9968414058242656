-- The rules of one event, chained in two arrays. `keys` names an event for each rule: its target.
--     Last keys v k e              == e is 1 + the last rule below k whose key is v, or 0 where there is none
--     Chained keys heads nexts     == from heads[v], by nexts, one goes through all rules with key v, the last one first
--     ChainLists n keys heads nexts == so chained, with a head for each of n events and a place for each rule
--     Falling nexts e              == from e, by nexts, one comes to ever lower rules
-- Assumes nothing.
use Rattle.std.specs.Prelude.{◌≡◌, List, ℕ, suc, ◌<◌, ◌≤◌, length, get_or}

pub record Last (keys : List ℕ) (v k e : ℕ) : Type 0 where
  pub within : e ≤ k
  pub hit : (i : ℕ) → e ≡ suc i → get_or keys i 0 ≡ v
  pub none : (i : ℕ) → e ≤ i → i < k → get_or keys i 0 ≡ v → ⊥

pub record Chained (keys heads nexts : List ℕ) : Type 0 where
  pub heads_last : (v : ℕ) → v < length heads → Last keys v (length keys) (get_or heads v 0)
  pub nexts_last : (i : ℕ) → i < length keys → Last keys (get_or keys i 0) i (get_or nexts i 0)

pub record ChainLists (n : ℕ) (keys heads nexts : List ℕ) : Type 0 where
  pub chained : Chained keys heads nexts
  pub heads_room : n ≤ length heads
  pub nexts_room : length keys ≤ length nexts

pub record Falling (nexts : List ℕ) (e : ℕ) : Type 0 where
  pub within : e ≤ length nexts
  pub falls : (i : ℕ) → i < e → get_or nexts i 0 ≤ i
