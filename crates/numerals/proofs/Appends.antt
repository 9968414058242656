-- Laws of what the writers leave in a lent list of bytes.
--     appended_none                  nothing written
--     appended_more                  bytes, and then others after them
--     appended_length                the list keeps its length
--     put_fits, put_full             written where there is room; else nothing
--     put_length                     the list keeps its length
-- Assumes nothing.
use mathlib.Core.Path.{◌≡◌, refl, ap, sym, ◌∙◌}
use mathlib.Core.List.{List, [], ◌++◌, append_assoc}
use Prim.Native.Nat.{ℕ, ◌+◌, ◌<◌, ◌≤◌}
use native.Mathlib.Decide.{dec_lt}
use native.Mathlib.Omega.{arith}
use lib.ListN.{length, take, drop, length-append, length-drop, take-append-drop}
use lib.Seq.{length-take-le, take_at, drop_at, drop-drop}
use Rattle.numerals.specs.Appending.{Appended, Put}

pub appended_none : (o : List ℕ) (a : ℕ) → a ≤ length o → Appended o a [] o a
appended_none o a h = record { after = omega arith; inside = h; bytes = sym (take-append-drop a o) }

-- the list up to where the writing stopped
front_length : {o : List ℕ} {a : ℕ} {bs m : List ℕ} {b : ℕ} → Appended o a bs m b → length (take a o ++ bs) ≡ b
front_length {o} {a} {bs} w =
    let within : a ≤ length o = omega (arith, w.after, w.inside) in
    rw length-append (omega (arith, length-take-le a o within, w.after))

split : {o : List ℕ} {a : ℕ} {bs m : List ℕ} {b : ℕ} → Appended o a bs m b → m ≡ (take a o ++ bs) ++ drop b o
split {o} {a} {bs} {m} {b} w = w.bytes ∙ sym (append_assoc (take a o) bs (drop b o))

pub appended_length : {o : List ℕ} {a : ℕ} {bs m : List ℕ} {b : ℕ} → Appended o a bs m b → length m ≡ length o
appended_length {o} {a} {bs} {m} {b} w =
    ap length (split w) ∙ length-append (take a o ++ bs) (drop b o) ∙ omega (arith, front_length w, length-drop b o, w.inside)

front_kept : {o : List ℕ} {a : ℕ} {bs m : List ℕ} {b : ℕ} → Appended o a bs m b → take b m ≡ take a o ++ bs
front_kept {o} {a} {bs} {m} {b} w = ap (take b) (split w) ∙ take_at (take a o ++ bs) (drop b o) b (front_length w)

back_kept : {o : List ℕ} {a : ℕ} {bs m : List ℕ} {b : ℕ} → Appended o a bs m b → (k : ℕ) → drop (b + k) m ≡ drop (b + k) o
back_kept {o} {a} {bs} {m} {b} w k =
    sym (drop-drop k b m) ∙ ap (drop k) (ap (drop b) (split w) ∙ drop_at (take a o ++ bs) (drop b o) b (front_length w)) ∙ drop-drop k b o

pub appended_more : {o : List ℕ} {a : ℕ} {bs m : List ℕ} {b : ℕ} {cs p : List ℕ} {c : ℕ} → Appended o a bs m b → Appended m b cs p c → Appended o a (bs ++ cs) p c
appended_more {o} {a} {bs} {m} {b} {cs} {p} {c} v w =
    record {
      after = rw length-append (omega (arith, v.after, w.after));
      inside = omega (arith, w.inside, appended_length v);
      bytes = together;
    }
  where
    behind : drop c m ≡ drop c o
    behind = rw w.after (back_kept v (length cs))

    together : p ≡ take a o ++ ((bs ++ cs) ++ drop c o)
    together = w.bytes ∙ rw (front_kept v, behind) (simp append_assoc)

-- ---- where there may be no room

pub put_fits : {o : List ℕ} {a : ℕ} {bs m : List ℕ} {b : ℕ} → Appended o a bs m b → Put o a bs m b
put_fits w = record { fits = λ _. w; full = λ l. absurd (let no : ⊥ = omega (arith, w.after, w.inside) in no) }

pub put_full : {o : List ℕ} {a : ℕ} {bs : List ℕ} → length o < a + length bs → Put o a bs o a
put_full l = record { fits = λ k. absurd (let no : ⊥ = omega arith in no); full = λ _. (refl, refl) }

pub put_length : {o : List ℕ} {a : ℕ} {bs m : List ℕ} {b : ℕ} → Put o a bs m b → length m ≡ length o
put_length {o} {a} {bs} {m} w = go (dec_lt (length o) (a + length bs))
  where
    go : Dec (length o < a + length bs) → length m ≡ length o
    go (yes l) = ap length (w.full l).0
    go (no l) = appended_length (w.fits (omega arith))
