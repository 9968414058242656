-- Places in rows: row k of T places each, place j of the row, is place k × T + j.
--     places_apart     two places in rows that are one number have one row and one place in it
--     place_below      a place in one of the first K rows is below T × K
--     Place T K i      i is place `within` of row `row`, of K rows
--     place_found      every number below T × K is a place in one of the first K rows
--     many             a product with a factor above 0 is no less than the other factor
--     large_copies     more copies than there may be occurrences are too many, where there is an event
-- Assumes nothing.
use mathlib.Core.Path.{◌≡◌, sym, subst}
use mathlib.Core.Logic.{◌⊎◌, inl, inr}
use Prim.Native.Nat.{ℕ, ◌+◌, ◌*◌, ◌/◌, ◌%◌, ◌<◌, ◌≤◌}
use native.Mathlib.Nat.{mul_comm, suc-mul, zero-mul, mul-le-mul_left, mul-le-mul_right, mod-lt, div-add-mod', lt_of_mul-lt-mul_right, eq-zero-or-pos}
use native.Mathlib.Decide.{dec_lt}
use native.Mathlib.Omega.{arith}

-- where row k is before row k', the whole of it is
row_before : {T k k' j : ℕ} → k < k' → j < T → k * T + j < k' * T
row_before {T} {k} l below = omega (arith, suc-mul k T, mul-le-mul_right T l)

pub places_apart : (T k k' j j' : ℕ) → j < T → j' < T → k * T + j ≡ k' * T + j' → (k ≡ k') × (j ≡ j')
places_apart T k k' j j' l l' e = by (dec_lt k k') (dec_lt k' k)
  where
    by : Dec (k < k') → Dec (k' < k) → (k ≡ k') × (j ≡ j')
    by (yes h) d = absurd (let no : ⊥ = omega (arith, row_before h l) in no)
    by (no h) (yes h') = absurd (let no : ⊥ = omega (arith, row_before h' l') in no)
    by (no h) (no h') =
        let same : k ≡ k' = omega arith in
        let rest : k * T + j ≡ k * T + j' = subst (λ (x : ℕ). k * T + j ≡ x * T + j') (sym same) e in
        (same, omega (arith, rest))

pub place_below : (T K k j : ℕ) → k < K → j < T → k * T + j < T * K
place_below T K k j l below = omega (arith, row_before l below, mul_comm T K)

pub record Place (T K i : ℕ) : Type 0 where
  pub row : ℕ
  pub within : ℕ
  pub row_below : row < K
  pub within_below : within < T
  pub there : i ≡ row * T + within

pub place_found : (T K i : ℕ) → i < T * K → Place T K i
place_found T K i l = by (eq-zero-or-pos T)
  where
    by : (T ≡ 0) ⊎ (0 < T) → Place T K i
    by (inl e) = absurd (let no : ⊥ = omega (arith, zero-mul K, subst (λ (x : ℕ). i < x * K) e l) in no)
    by (inr positive) =
        let whole : i / T * T + i % T ≡ i = div-add-mod' i T in
        let short : i / T * T < K * T = omega (arith, mul_comm T K) in
        record {
          row = i / T;
          within = i % T;
          row_below = lt_of_mul-lt-mul_right T short;
          within_below = mod-lt i positive;
          there = sym whole;
        }

pub many : (n m : ℕ) → 0 < m → n ≤ n * m
many n m l = omega (arith, mul-le-mul_left {m = 1} {n = m} n l)

pub large_copies : (p K : ℕ) → (p ≡ 0 → ⊥) → 1024 ≤ K → 1024 < 1 + p * K
large_copies p K some h = omega (arith, many K p (omega arith))
