-- Laws of numbers written in decimal.
--     natural_one, natural_more           a number below ten is written as one digit; another as its tenth part is, and one digit more
--     natural_of, integer_of              every number is written in some way
--     one_digit, natural_length           a number below ten takes one place; how many any other takes
--     front_of                            a number from ten on takes one place more than its tenth part
--     natural_unique, integer_unique      a number is written in one way
--     natural_places, integer_places      a small number takes few places
-- The idea of all but the first two. A number of two digits or more has no leading zero, so all digits but the last write at least 1: they write the tenth part.
-- So a number below ten has one digit, and any other is its tenth part and its last digit. Assumes nothing.
use mathlib.Core.Path.{◌≡◌, refl, ap, sym, ◌∙◌, subst}
use mathlib.Core.List.{List, [], ◌∷◌, ◌++◌}
use Prim.Native.Nat.{ℕ, zero, suc, ◌+◌, ◌-◌, ◌*◌, ◌/◌, ◌%◌, ◌^◌, ◌<◌, ◌≤◌}
use native.Mathlib.Decide.{dec_lt}
use native.Mathlib.Nat.{not-suc-le-zero, mod-lt, div-add-mod, pow-suc, pow-zero}
use native.Mathlib.Omega.{arith}
use lib.Dec.{lit<}
use lib.IntN.{ℤ, pos, negsuc}
use lib.ListN.{length, get_or, length-append}
use Rattle.integers.specs.Within.{Within}
use Rattle.integers.proofs.Integer.{linear, negation}
use Rattle.numerals.specs.Numbers.{IsDigit, Digits, none, more, value_from, value, Natural, Integer, plain, minus}

-- ---- one digit more, at the end

value_snoc : (x : ℕ) (bs : List ℕ) (d : ℕ) → value_from x (bs ++ (d ∷ [])) ≡ 10 * value_from x bs + (d - 48)
value_snoc x [] d = refl
value_snoc x (b ∷ bs) d = value_snoc (10 * x + (b - 48)) bs d

digits_snoc : {bs : List ℕ} {d : ℕ} → Digits bs → IsDigit d → Digits (bs ++ (d ∷ []))
digits_snoc none i = more i none
digits_snoc (more j ds) i = more j (digits_snoc ds i)

get_d_front : (bs cs : List ℕ) → 1 ≤ length bs → get_or (bs ++ cs) 0 0 ≡ get_or bs 0 0
get_d_front [] cs h = absurd (not-suc-le-zero h)
get_d_front (b ∷ bs) cs h = refl

value_one : (bs : List ℕ) → 1 ≤ length bs → length bs ≤ 1 → value bs ≡ get_or bs 0 0 - 48
value_one [] h k = absurd (not-suc-le-zero h)
value_one (b ∷ []) h k = omega arith
value_one (b ∷ c ∷ bs) h k = absurd (let e : ⊥ = omega arith in e)

is_digit : (y : ℕ) → y < 10 → IsDigit (48 + y)
is_digit y h = record { from_0 = omega arith; to_9 = omega arith }

pub natural_one : (x : ℕ) → x < 10 → Natural ((48 + x) ∷ []) x
natural_one x h =
    record {
      digits = more (is_digit x h) none;
      some = omega arith;
      number = omega arith;
      no_leading_zero = λ l _. let e : ⊥ = omega arith in e;
    }

pub natural_more : (bs : List ℕ) (x : ℕ) → 10 ≤ x → Natural bs (x / 10) → Natural (bs ++ ((48 + x % 10) ∷ [])) x
natural_more bs x h w =
    record {
      digits = digits_snoc w.digits (is_digit (x % 10) last);
      some = rw length-append (omega (arith, w.some));
      number = value_snoc 0 bs (48 + x % 10) ∙ omega (arith, w.number, div-add-mod x 10);
      no_leading_zero = λ _ e. go (dec_lt 1 (length bs)) (sym (get_d_front bs ((48 + x % 10) ∷ []) w.some) ∙ e);
    }
  where
    last : x % 10 < 10
    last = mod-lt x (lit< tt)

    go : Dec (1 < length bs) → get_or bs 0 0 ≡ 48 → ⊥
    go (yes l) e = w.no_leading_zero l e
    go (no n) e = omega (arith, value_one bs w.some (let k : length bs ≤ 1 = omega arith in k), w.number, div-add-mod x 10, last)

tenth_below_at : (x k : ℕ) → x < 10 ^ suc k → x / 10 < 10 ^ k
tenth_below_at x k h = omega (arith, pow-suc 10 k, div-add-mod x 10)

two_places : (x places : ℕ) → 10 ≤ x → x < 10 ^ places → 2 ≤ places
two_places x zero l h = omega (arith, pow-zero 10)
two_places x (suc zero) l h = omega (arith, pow-zero 10, pow-suc 10 zero)
two_places x (suc (suc k)) l h = omega arith

natural_upto : (k x : ℕ) → x < k → (bs : List ℕ) × Natural bs x
natural_upto zero x l = absurd (not-suc-le-zero l)
natural_upto (suc k) x l = go (natural_upto k (x / 10)) (dec_lt x 10)
  where
    go : (x / 10 < k → (bs : List ℕ) × Natural bs (x / 10)) → Dec (x < 10) → (bs : List ℕ) × Natural bs x
    go tenth (yes few) = ((48 + x) ∷ [], natural_one x few)
    go tenth (no many) =
        let (bs, w) = tenth (omega (arith, div-add-mod x 10)) in
        (bs ++ ((48 + x % 10) ∷ []), natural_more bs x (omega arith) w)

pub natural_of : (x : ℕ) → (bs : List ℕ) × Natural bs x
natural_of x = natural_upto (suc x) x (omega arith)

-- ---- all digits but the last

record Ending (bs : List ℕ) : Type 0 where
  front : List ℕ
  final : ℕ
  whole : bs ≡ front ++ (final ∷ [])

last_of : (b : ℕ) (bs : List ℕ) → Ending (b ∷ bs)
last_of b [] = record { front = []; final = b; whole = refl }
last_of b (c ∷ bs) =
    let e = last_of c bs in
    record { front = b ∷ e.front; final = e.final; whole = ap (λ (l : List ℕ). b ∷ l) e.whole }

digits_front : (bs : List ℕ) (d : ℕ) → Digits (bs ++ (d ∷ [])) → Digits bs
digits_front [] d ds = none
digits_front (b ∷ bs) d (more i ds) = more i (digits_front bs d ds)

digits_last : (bs : List ℕ) (d : ℕ) → Digits (bs ++ (d ∷ [])) → IsDigit d
digits_last [] d (more i ds) = i
digits_last (b ∷ bs) d (more i ds) = digits_last bs d ds

value_grows : (x : ℕ) (bs : List ℕ) → x ≤ value_from x bs
value_grows x [] = omega arith
value_grows x (b ∷ bs) = omega (arith, value_grows (10 * x + (b - 48)) bs)

-- how a number is written, told by its last digit
data Form (bs : List ℕ) (x : ℕ) : Type 0 where
  short : x < 10 → bs ≡ (48 + x) ∷ [] → Form bs x
  long : 10 ≤ x → (front : List ℕ) → bs ≡ front ++ ((48 + x % 10) ∷ []) → Natural front (x / 10) → Form bs x

form_at : {bs : List ℕ} {x : ℕ} (front : List ℕ) (d : ℕ) → bs ≡ front ++ (d ∷ []) → Natural bs x → Form bs x
form_at {bs} {x} [] d e w =
    let ds : Digits (d ∷ []) = subst Digits e w.digits in
    let i : IsDigit d = digits_last [] d ds in
    let v : 0 + (d - 48) ≡ x = sym (ap value e) ∙ w.number in
    let z : d ≡ 48 + x = omega (arith, i.from_0) in
    short (omega (arith, i.to_9)) (e ∙ ap (λ (y : ℕ). y ∷ []) z)
form_at {bs} {x} (f ∷ fs) d e w =
    long (omega (arith, some_front)) (f ∷ fs) (e ∙ ap (λ (y : ℕ). (f ∷ fs) ++ (y ∷ [])) last)
    (record {
      digits = digits_front (f ∷ fs) d ds;
      some = omega arith;
      number = tenth;
      no_leading_zero = λ _ z. not_zero z;
    })
  where
    ds : Digits ((f ∷ fs) ++ (d ∷ []))
    ds = subst Digits e w.digits

    i : IsDigit d
    i = digits_last (f ∷ fs) d ds

    v : 10 * value (f ∷ fs) + (d - 48) ≡ x
    v = sym (value_snoc 0 (f ∷ fs) d) ∙ sym (ap value e) ∙ w.number

    tenth : value (f ∷ fs) ≡ x / 10
    tenth = omega (arith, v, i.from_0, i.to_9, div-add-mod x 10, mod-lt x {m = 10} (lit< tt))

    last : d ≡ 48 + x % 10
    last = omega (arith, v, i.from_0, i.to_9, div-add-mod x 10, mod-lt x {m = 10} (lit< tt))

    longer : 1 < length bs
    longer = rw e (rw length-append (omega arith))

    not_zero : f ≡ 48 → ⊥
    not_zero z = w.no_leading_zero longer (ap (λ (l : List ℕ). get_or l 0 0) e ∙ z)

    first : Digits (f ∷ (fs ++ (d ∷ []))) → IsDigit f
    first (more k _) = k

    some_front : 10 ≤ x
    some_front = omega (arith, v, (first ds).from_0, value_grows (10 * 0 + (f - 48)) fs, not_zero)

form : (bs : List ℕ) {x : ℕ} → Natural bs x → Form bs x
form [] w = absurd (not-suc-le-zero w.some)
form (b ∷ bs) w = let e = last_of b bs in form_at e.front e.final e.whole w

same_form : (k x : ℕ) → x < k → {bs cs : List ℕ} → Form bs x → Form cs x → bs ≡ cs
same_form zero x h _ _ = absurd (not-suc-le-zero h)
same_form (suc k) x h (short l e) (short l' e') = e ∙ sym e'
same_form (suc k) x h (short l e) (long l' _ _ _) = absurd (let z : ⊥ = omega arith in z)
same_form (suc k) x h (long l _ _ _) (short l' _) = absurd (let z : ⊥ = omega arith in z)
same_form (suc k) x h (long l f e w) (long l' f' e' w') =
    let fewer : x / 10 < k = omega (arith, div-add-mod x 10) in
    e ∙ ap (λ (y : List ℕ). y ++ ((48 + x % 10) ∷ [])) (same_form k (x / 10) fewer (form f w) (form f' w')) ∙ sym e'

pub natural_unique : {bs cs : List ℕ} {x : ℕ} → Natural bs x → Natural cs x → bs ≡ cs
natural_unique {bs} {cs} {x} v w = same_form (suc x) x (omega arith) (form bs v) (form cs w)

pub one_digit : {bs : List ℕ} {x : ℕ} → x < 10 → Natural bs x → length bs ≡ 1
one_digit {bs} {x} l w = go (form bs w)
  where
    go : Form bs x → length bs ≡ 1
    go (short few e) = ap length e
    go (long many front e v) = absurd (let no : ⊥ = omega arith in no)

pub front_of : {bs : List ℕ} {x : ℕ} → 10 ≤ x → Natural bs x → (front : List ℕ) × Natural front (x / 10) × (length bs ≡ length front + 1)
front_of {bs} {x} l w = go (form bs w)
  where
    go : Form bs x → (front : List ℕ) × Natural front (x / 10) × (length bs ≡ length front + 1)
    go (short few e) = absurd (let no : ⊥ = omega arith in no)
    go (long many front e v) = (front, v, ap length e ∙ length-append front ((48 + x % 10) ∷ []))

form_places : (places : ℕ) {bs : List ℕ} {x : ℕ} → 1 ≤ places → x < 10 ^ places → Form bs x → length bs ≤ places
form_places zero l h f = absurd (not-suc-le-zero l)
form_places (suc k) l h (short few e) = rw e (omega arith)
form_places (suc k) {x = x} l h (long many front e w) =
    let fewer : length front ≤ k = form_places k (omega (arith, two_places x (suc k) many h)) (tenth_below_at x k h) (form front w) in
    rw e (rw length-append (omega arith))

pub natural_places : (places : ℕ) {bs : List ℕ} {x : ℕ} → 1 ≤ places → x < 10 ^ places → Natural bs x → length bs ≤ places
natural_places places {bs} l h w = form_places places l h (form bs w)

pow-pos : (k : ℕ) → 1 ≤ 10 ^ k
pow-pos zero = omega (arith, pow-zero 10)
pow-pos (suc k) = omega (arith, pow-suc 10 k, pow-pos k)

form_long : (k : ℕ) {bs : List ℕ} {x : ℕ} → 10 ^ k ≤ x → Form bs x → suc k ≤ length bs
form_long zero h (short few e) = rw e (omega arith)
form_long (suc k) h (short few e) = absurd (let no : ⊥ = omega (arith, pow-suc 10 k, pow-pos k) in no)
form_long zero h (long many front e w) = rw e (rw length-append (omega arith))
form_long (suc k) {x = x} h (long many front e w) =
    let more : suc k ≤ length front = form_long k (omega (arith, pow-suc 10 k, div-add-mod x 10)) (form front w) in
    rw e (rw length-append (omega arith))

pub natural_length : (k : ℕ) {bs : List ℕ} {x : ℕ} → 10 ^ k ≤ x → x < 10 * 10 ^ k → Natural bs x → length bs ≡ k + 1
natural_length k {bs} {x} from below w =
    let few : length bs ≤ suc k = natural_places (suc k) (omega arith) (omega (arith, pow-suc 10 k)) w in
    omega (arith, few, form_long k from (form bs w))

-- ---- with a sign

same_natural : {bs cs : List ℕ} {x y : ℕ} → x ≡ y → Natural bs x → Natural cs y → bs ≡ cs
same_natural {bs} e v w = natural_unique (subst (Natural bs) e v) w

pos_same : (x y : ℕ) → pos x ≡ pos y → x ≡ y
pos_same x y e = cc

negsuc_same : (x y : ℕ) → negsuc x ≡ negsuc y → suc x ≡ suc y
negsuc_same x y e = cc

not_both : (x y : ℕ) → pos x ≡ negsuc y → ⊥
not_both x y e = let z : ◌≡◌ {A = ℕ} 0 1 = cc in omega arith

same_integer : {bs cs : List ℕ} {y z : ℤ} → y ≡ z → Integer bs y → Integer cs z → bs ≡ cs
same_integer e (plain v) (plain w) = same_natural (pos_same _ _ e) v w
same_integer e (plain v) (minus w) = absurd (not_both _ _ e)
same_integer e (minus v) (plain w) = absurd (not_both _ _ (sym e))
same_integer e (minus v) (minus w) = ap (λ (l : List ℕ). 45 ∷ l) (same_natural (negsuc_same _ _ e) v w)

pub integer_of : (z : ℤ) → (bs : List ℕ) × Integer bs z × (1 ≤ length bs)
integer_of (pos x) = let (bs, w) = natural_of x in (bs, plain w, w.some)
integer_of (negsuc x) = let (bs, w) = natural_of (suc x) in (45 ∷ bs, minus w, omega arith)

pub integer_unique : {bs cs : List ℕ} {z : ℤ} → Integer bs z → Integer cs z → bs ≡ cs
integer_unique v w = same_integer refl v w

pub integer_places : {bs : List ℕ} {z : ℤ} → Within 2046000000 z → Integer bs z → length bs ≤ 11
integer_places k (plain w) = omega (arith, natural_places 10 (omega arith) (omega (linear, k.below)) w)
integer_places k (minus w) = omega (arith, natural_places 10 (omega arith) (omega (linear, k.above, negation (pos 2046000000))) w)
