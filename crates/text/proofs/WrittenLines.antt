-- Laws of the lines written into a lent list.
--     refused_put                  the line of a refusal, of which x is the number and y the place
--     line_put                     the line of a pair
--     RowGoing, row-…              the lines of the pairs with one `from`, while they are written
--     TableGoing, table-…          all lines, while they are written
-- Assumes nothing.
use mathlib.Core.Path.{◌≡◌, refl, ap, sym, ◌∙◌, subst}
use mathlib.Core.List.{List, [], ◌∷◌, ◌++◌, map, append_assoc, append-nil}
use Prim.Native.Nat.{ℕ, zero, suc, ◌+◌, ◌-◌, ◌*◌, ◌<◌, ◌≤◌}
use native.Mathlib.Numerals.{add-one}
use native.Mathlib.Omega.{arith}
use lib.IntN.{ℤ, pos, neg_ℤ, ◌-ℤ◌}
use lib.ListN.{length, length-append}
use Rattle.integers.specs.Within.{Within}
use Rattle.numerals.specs.Appending.{Appended, Put, NaturalPut, IntegerPut}
use Rattle.text.specs.Output.{Pair, pair_of, up_from, pairs_from, pairs_of_all, pairs, RefusedLine, pair_header, ending, refused_word, output_places}
use Rattle.table.specs.Table.{entry}
use Rattle.text.specs.Parts.TableLines.{LineOf, TableLine, TableLines, none, more, SmallEntries}
use Rattle.numerals.proofs.Appends.{appended_none, appended_more, appended_length, put_length}
use Rattle.text.proofs.WrittenNumbers.{NaturalIn, IntegerIn, natural_in, integer_in, word, word_back, minus_back}

module _ {o : List ℕ} where
  put_refused : (k p : ℕ) {m₁ m₂ m₃ m₄ m₅ : List ℕ} {a₁ a₂ a₃ a₄ a₅ : ℕ} →
      k < 100 →
      p < 100000 →
      output_places ≤ length o →
      Put o 0 (refused_word ++ (44 ∷ [])) m₁ a₁ →
      NaturalPut m₁ a₁ k m₂ a₂ →
      Put m₂ a₂ (44 ∷ []) m₃ a₃ →
      NaturalPut m₃ a₃ p m₄ a₄ →
      Put m₄ a₄ ending m₅ a₅ →
      (bs : List ℕ) × RefusedLine k p bs × Appended o 0 bs m₅ a₅
  put_refused k p small small' room w₁ w₂ w₃ w₄ w₅ =
      let word = w₁.fits (omega arith) in
      let l₁ = put_length w₁ in
      let number = natural_in 2 (omega arith) (omega arith) (omega (arith, l₁, word.after)) w₂ in
      let l₂ = put_length w₂.put ∙ l₁ in
      let comma = w₃.fits (omega (arith, l₂, word.after, number.2, number.3.after)) in
      let l₃ = put_length w₃ ∙ l₂ in
      let place = natural_in 5 (omega arith) (omega arith) (omega (arith, l₃, word.after, number.2, number.3.after, comma.after)) w₄ in
      let l₄ = put_length w₄.put ∙ l₃ in
      let end = w₅.fits (omega (arith, l₄, word.after, number.2, number.3.after, comma.after, place.2, place.3.after)) in (
        _,
        record { number_field = number.0; place_field = place.0; number_written = number.1; place_written = place.1; bytes = refl },
        appended_more word (appended_more number.3 (appended_more comma (appended_more place.3 end))),
      )

  pub refused_put : {k p x y : ℕ} {m₁ m₂ m₃ m₄ m₅ : List ℕ} {a₁ a₂ a₃ a₄ a₅ : ℕ} →
      k < 100 →
      p < 100000 →
      x ≡ k →
      y ≡ p →
      output_places ≤ length o →
      Put o 0 (refused_word ++ (44 ∷ [])) m₁ a₁ →
      NaturalPut m₁ a₁ x m₂ a₂ →
      Put m₂ a₂ (44 ∷ []) m₃ a₃ →
      NaturalPut m₃ a₃ y m₄ a₄ →
      Put m₄ a₄ ending m₅ a₅ →
      (bs : List ℕ) × RefusedLine k p bs × Appended o 0 bs m₅ a₅
  refused_put {k} {p} small small' is_number is_place room w₁ w₂ w₃ w₄ w₅ =
      put_refused k p small small' room w₁ (rw is_number at w₂) w₃ (rw is_place at w₄) w₅

-- ---- the line of a pair

-- a mark put after a field that took at most k places
record Marked (o : List ℕ) (at places : ℕ) (m : List ℕ) (a : ℕ) (cs p : List ℕ) (b : ℕ) : Type 0 where
  mark : Appended m a cs p b
  reached : b ≤ at + places
  same : length p ≡ length o

mark_put : (k : ℕ) (cs : List ℕ) {o : List ℕ} {at : ℕ} {bs m : List ℕ} {a : ℕ} {p : List ℕ} {b : ℕ} →
    length bs ≤ k → Appended o at bs m a → Put m a cs p b → at + (k + length cs) ≤ length o → Marked o at (k + length cs) m a cs p b
mark_put k cs {m = m} {a} few v w room =
    let fits : a + length cs ≤ length m = omega (arith, v.after, appended_length v) in
    record { mark = w.fits fits; reached = omega (arith, (w.fits fits).after, v.after); same = put_length w ∙ appended_length v }

abbrev LinePut : List ℕ → ℕ → ℕ → ℕ → ℤ → ℤ → List ℕ → ℕ → Type 0
LinePut o at s t least most m next = (bs : List ℕ) × LineOf s t least most bs × (length bs ≤ 31) × Appended o at bs m next

module _ {o : List ℕ} (at s t : ℕ) (least most : ℤ) {m₁ m₂ m₃ m₄ m₅ m₆ m₇ m₈ : List ℕ} {a₁ a₂ a₃ a₄ a₅ a₆ a₇ a₈ : ℕ} where
  joined :
      NaturalIn 2 o at s m₁ a₁ →
      Appended m₁ a₁ (44 ∷ []) m₂ a₂ →
      NaturalIn 2 m₂ a₂ t m₃ a₃ →
      Appended m₃ a₃ (44 ∷ []) m₄ a₄ →
      IntegerIn 11 m₄ a₄ least m₅ a₅ →
      Appended m₅ a₅ (44 ∷ []) m₆ a₆ →
      IntegerIn 11 m₆ a₆ most m₇ a₇ →
      Appended m₇ a₇ ending m₈ a₈ →
      LinePut o at s t least most m₈ a₈
  joined f c₁ e c₂ d c₃ h end = (
    _,
    record {
      from_field = f.0;
      to_field = e.0;
      least_field = d.0;
      most_field = h.0;
      from_written = f.1;
      to_written = e.1;
      least_written = d.1;
      most_written = h.1;
      bytes = refl;
    },
    simp length-append (omega (arith, f.2, e.2, d.2, h.2)),
    appended_more f.3 (appended_more c₁ (appended_more e.3 (appended_more c₂ (appended_more d.3 (appended_more c₃ (appended_more h.3 end)))))),
  )

  -- each field takes at most its places, so there is room for the next
  pub line_put :
      (s < 100) × (t < 100) × Within 2046000000 least × Within 2046000000 most × (at + 31 ≤ length o) →
      NaturalPut o at s m₁ a₁ →
      Put m₁ a₁ (44 ∷ []) m₂ a₂ →
      NaturalPut m₂ a₂ t m₃ a₃ →
      Put m₃ a₃ (44 ∷ []) m₄ a₄ →
      IntegerPut m₄ a₄ (word least) m₅ a₅ →
      Put m₅ a₅ (44 ∷ []) m₆ a₆ →
      IntegerPut m₆ a₆ (word most) m₇ a₇ →
      Put m₇ a₇ ending m₈ a₈ →
      LinePut o at s t least most m₈ a₈
  line_put (s-small, t-small, least-small, most-small, room) w₁ w₂ w₃ w₄ w₅ w₆ w₇ w₈ = from_on (natural_in 2 (omega arith) (omega arith) (omega arith) w₁)
    where
      most_on : NaturalIn 2 o at s m₁ a₁ → Marked o at 3 m₁ a₁ (44 ∷ []) m₂ a₂ → NaturalIn 2 m₂ a₂ t m₃ a₃ → Marked m₂ a₂ 3 m₃ a₃ (44 ∷ []) m₄ a₄ →
          IntegerIn 11 m₄ a₄ least m₅ a₅ → Marked m₄ a₄ 12 m₅ a₅ (44 ∷ []) m₆ a₆ → IntegerIn 11 m₆ a₆ most m₇ a₇ → LinePut o at s t least most m₈ a₈
      most_on f c₁ e c₂ d c₃ h =
          joined f c₁.mark e c₂.mark d c₃.mark h
          (mark_put 11 ending h.2 h.3 w₈ (omega (arith, c₁.reached, c₁.same, c₂.reached, c₂.same, c₃.reached, c₃.same))).mark

      third_on : NaturalIn 2 o at s m₁ a₁ → Marked o at 3 m₁ a₁ (44 ∷ []) m₂ a₂ → NaturalIn 2 m₂ a₂ t m₃ a₃ → Marked m₂ a₂ 3 m₃ a₃ (44 ∷ []) m₄ a₄ →
          IntegerIn 11 m₄ a₄ least m₅ a₅ → Marked m₄ a₄ 12 m₅ a₅ (44 ∷ []) m₆ a₆ → LinePut o at s t least most m₈ a₈
      third_on f c₁ e c₂ d c₃ =
          most_on f c₁ e c₂ d c₃ (integer_in most most-small (omega (arith, c₁.reached, c₁.same, c₂.reached, c₂.same, c₃.reached, c₃.same)) w₇)

      least_on : NaturalIn 2 o at s m₁ a₁ → Marked o at 3 m₁ a₁ (44 ∷ []) m₂ a₂ → NaturalIn 2 m₂ a₂ t m₃ a₃ → Marked m₂ a₂ 3 m₃ a₃ (44 ∷ []) m₄ a₄ →
          IntegerIn 11 m₄ a₄ least m₅ a₅ → LinePut o at s t least most m₈ a₈
      least_on f c₁ e c₂ d = third_on f c₁ e c₂ d (mark_put 11 (44 ∷ []) d.2 d.3 w₆ (omega (arith, c₁.reached, c₁.same, c₂.reached, c₂.same)))

      second_on : NaturalIn 2 o at s m₁ a₁ → Marked o at 3 m₁ a₁ (44 ∷ []) m₂ a₂ → NaturalIn 2 m₂ a₂ t m₃ a₃ → Marked m₂ a₂ 3 m₃ a₃ (44 ∷ []) m₄ a₄ → LinePut o at s t least most m₈ a₈
      second_on f c₁ e c₂ = least_on f c₁ e c₂ (integer_in least least-small (omega (arith, c₁.reached, c₁.same, c₂.reached, c₂.same)) w₅)

      to_on : NaturalIn 2 o at s m₁ a₁ → Marked o at 3 m₁ a₁ (44 ∷ []) m₂ a₂ → NaturalIn 2 m₂ a₂ t m₃ a₃ → LinePut o at s t least most m₈ a₈
      to_on f c₁ e = second_on f c₁ e (mark_put 2 (44 ∷ []) e.2 e.3 w₄ (omega (arith, c₁.reached, c₁.same)))

      first_on : NaturalIn 2 o at s m₁ a₁ → Marked o at 3 m₁ a₁ (44 ∷ []) m₂ a₂ → LinePut o at s t least most m₈ a₈
      first_on f c₁ = to_on f c₁ (natural_in 2 (omega arith) (omega arith) (omega (arith, c₁.reached, c₁.same)) w₃)

      from_on : NaturalIn 2 o at s m₁ a₁ → LinePut o at s t least most m₈ a₈
      from_on f = first_on f (mark_put 2 (44 ∷ []) f.2 f.3 w₂ (omega arith))

-- ---- lists of pairs grow at the end

up_more : (a k : ℕ) → up_from a (suc k) ≡ up_from a k ++ ((a + k) ∷ [])
up_more a zero = ap (λ (x : ℕ). x ∷ []) (omega arith)
up_more a (suc k) =
    let e : suc a + k ≡ a + suc k = omega arith in
    ap (λ (l : List ℕ). a ∷ l) (up_more (suc a) k ∙ ap (λ (x : ℕ). up_from (suc a) k ++ (x ∷ [])) e)

map-append : (f : ℕ → Pair) (xs ys : List ℕ) → map f (xs ++ ys) ≡ map f xs ++ map f ys
map-append f [] ys = refl
map-append f (x ∷ xs) ys = ap (λ (l : List Pair). f x ∷ l) (map-append f xs ys)

-- the pairs (s, s + 1) to (s, t − 1)
abbrev pub pairs_to : ℕ → ℕ → List Pair
pairs_to s t = map (pair_of s) (up_from (suc s) (t - suc s))

to_more : (s t : ℕ) → s < t → pairs_to s (t + 1) ≡ pairs_to s t ++ (pair_of s t ∷ [])
to_more s t l =
    let e : (t + 1) - suc s ≡ suc (t - suc s) = omega arith in
    let z : suc s + (t - suc s) ≡ t = omega arith in
    ap (λ (k : ℕ). map (pair_of s) (up_from (suc s) k)) e ∙
    ap (map (pair_of s)) (up_more (suc s) (t - suc s)) ∙
    map-append (pair_of s) (up_from (suc s) (t - suc s)) ((suc s + (t - suc s)) ∷ []) ∙
    ap (λ (k : ℕ). pairs_to s t ++ (pair_of s k ∷ [])) z

-- the pairs of all events before s
abbrev pub pairs_before : ℕ → ℕ → List Pair
pairs_before n s = pairs_of_all n (up_from 0 s)

all_append : (n : ℕ) (ss : List ℕ) (s : ℕ) → pairs_of_all n (ss ++ (s ∷ [])) ≡ pairs_of_all n ss ++ pairs_from n s
all_append n [] s = append-nil (pairs_from n s)
all_append n (x ∷ ss) s = ap (λ (l : List Pair). pairs_from n x ++ l) (all_append n ss s) ∙ sym (append_assoc (pairs_from n x) (pairs_of_all n ss) (pairs_from n s))

before_more : (n s : ℕ) → pairs_before n (s + 1) ≡ pairs_before n s ++ pairs_from n s
before_more n s =
    let z : 0 + s ≡ s = omega arith in
    ap (pairs_before n) (add-one s) ∙ ap (pairs_of_all n) (up_more 0 s) ∙ all_append n (up_from 0 s) (0 + s) ∙ ap (λ (k : ℕ). pairs_before n s ++ pairs_from n k) z

module _ {n : ℕ} {table : List ℤ} where
  lines_append : {ps qs : List Pair} {bs cs : List ℕ} → TableLines n table ps bs → TableLines n table qs cs → TableLines n table (ps ++ qs) (bs ++ cs)
  lines_append none ws = ws
  lines_append {cs = cs} (more line rest e l vs) ws = more line (rest ++ cs) (ap (λ (b : List ℕ). b ++ cs) e ∙ append_assoc line rest cs) l (lines_append vs ws)

  one_line : {p : Pair} {bs : List ℕ} → TableLine n table p bs → TableLines n table (p ∷ []) bs
  one_line {bs = bs} l = more bs [] (sym (append-nil bs)) l none

-- ---- the lines of one `from`, while they are written: those up to (s, t − 1)

pub record RowGoing (n : ℕ) (table : List ℤ) (s at : ℕ) (o : List ℕ) (t : ℕ) (m : List ℕ) (next : ℕ) : Type 0 where
  pub after_s : s < t
  pub within : t ≤ n
  pub few : next + 31 ≤ at + 31 * t
  pub bytes : List ℕ
  pub lines : TableLines n table (pairs_to s t) bytes
  pub appended : Appended o at bytes m next

module _ {n : ℕ} {table : List ℤ} {s at : ℕ} {o : List ℕ} where
  pub row_start : s < n → at ≤ length o → RowGoing n table s at o (s + 1) o at
  row_start l room =
      record {
        after_s = omega arith;
        within = omega arith;
        few = omega arith;
        bytes = [];
        lines =
            let e : (s + 1) - suc s ≡ 0 = omega arith in
            subst (λ (k : ℕ). TableLines n table (map (pair_of s) (up_from (suc s) k)) []) (sym e) none;
        appended = appended_none o at room;
      }

  module _ {t : ℕ} {m : List ℕ} {next : ℕ} (w : RowGoing n table s at o t m next) where
    row_next_at : t < n → {p : List ℕ} {last : ℕ} → (bs : List ℕ) × LineOf s t (neg_ℤ (entry table t s)) (entry table s t) bs × (length bs ≤ 31) × Appended m next bs p last → RowGoing n table s at o (t + 1) p last
    row_next_at l written =
        record {
          after_s = omega (arith, w.after_s);
          within = omega arith;
          few = omega (arith, w.few, written.2, written.3.after);
          bytes = w.bytes ++ written.0;
          lines =
              subst (λ (ps : List Pair). TableLines n table ps (w.bytes ++ written.0)) (sym (to_more s t w.after_s))
              (lines_append w.lines (one_line (record { from_known = omega (arith, w.after_s); to_known = l; line = written.1 })));
          appended = appended_more w.appended written.3;
        }

    -- the code hands on words
    pub row_next : SmallEntries n table → t < n → {p : List ℕ} {last : ℕ} →
        (bs : List ℕ) × LineOf s t (word (pos 0 -ℤ word (entry table t s))) (word (entry table s t)) bs × (length bs ≤ 31) × Appended m next bs p last →
        RowGoing n table s at o (t + 1) p last
    row_next small l written =
        let known : s < n = omega (arith, w.after_s) in
        let line = subst (λ (x : ℤ). LineOf s t x (word (entry table s t)) written.0) (minus_back (entry table t s) (small.each t s l known)) written.1 in
        let line' = subst (λ (x : ℤ). LineOf s t (neg_ℤ (entry table t s)) x written.0) (word_back (entry table s t) (small.each s t known l)) line in
        row_next_at l (written.0, line', written.2, written.3)

-- ---- all lines, while they are written: those of the events before s

pub record TableGoing (n : ℕ) (table : List ℤ) (at : ℕ) (o : List ℕ) (s : ℕ) (m : List ℕ) (next : ℕ) : Type 0 where
  pub within : s ≤ n
  pub few : next ≤ at + 1984 * s
  pub bytes : List ℕ
  pub lines : TableLines n table (pairs_before n s) bytes
  pub appended : Appended o at bytes m next

module _ {n : ℕ} {table : List ℤ} {at : ℕ} {o : List ℕ} where
  pub table_start : at ≤ length o → TableGoing n table at o 0 o at
  table_start room = record { within = omega arith; few = omega arith; bytes = []; lines = none; appended = appended_none o at room }

  module _ {s : ℕ} {m : List ℕ} {next : ℕ} (w : TableGoing n table at o s m next) where
    pub table_next : s < n → {p : List ℕ} {last : ℕ} → (last ≤ next + 1984) × ((bs : List ℕ) × TableLines n table (pairs_from n s) bs × Appended m next bs p last) → TableGoing n table at o (s + 1) p last
    table_next l written =
        record {
          within = omega arith;
          few = omega (arith, w.few, written.0);
          bytes = w.bytes ++ written.1.0;
          lines =
              subst (λ (ps : List Pair). TableLines n table ps (w.bytes ++ written.1.0)) (sym (before_more n s))
              (lines_append w.lines written.1.1);
          appended = appended_more w.appended written.1.2;
        }

    -- after the header
    pub table_done : n ≤ s → {o₀ : List ℕ} → Appended o₀ 0 (pair_header ++ ending) o at → (bs : List ℕ) × TableLines n table (pairs n) bs × Appended o₀ 0 (pair_header ++ (ending ++ bs)) m next
    table_done l header =
        let e : s ≡ n = omega (arith, w.within) in
        (w.bytes, subst (λ (k : ℕ). TableLines n table (pairs_before n k) w.bytes) e w.lines, appended_more header w.appended)
