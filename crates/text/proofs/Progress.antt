-- What a loop over the rows knows of the part of the text that it has read.
--     one_more             one element more, and the length
--     RowsRead bs at rs    the header and the rows of the rules rs stand before place `at`, and a line may end there
--     progress_none        after the header
--     ending               where a row is to follow, an ending stands
--     progress_more        after one row more
--     progress_done        where nothing or only an ending is left, the text is that of the rules rs
--     progress_broken      where no row follows, the text breaks
--     header_broken        where no header stands, it breaks at row 1
--     events_more          one rule more, and the number of events
--     header_room, header_found     what `header_stands` gives
--     RowsCounted, counted_none, counted_more, counted_broken    the same with the counts that `scan` keeps
--     scanned_right, scanned_broken    what `scan` gives
-- Assumes nothing.
use Rattle.std.proofs.Common.{Ok, Err}
use mathlib.Core.Path.{◌≡◌, refl, sym, ap, subst, ◌∙◌}
use mathlib.Core.Logic.{inl, inr}
use mathlib.Core.Bool.{Bool, true, false}
use mathlib.Core.List.{List, [], ◌∷◌, ◌++◌, append_assoc, append-nil}
use Prim.Native.Nat.{ℕ, suc, max, ◌+◌, ◌≤◌, ◌<◌}
use native.Mathlib.Omega.{arith}
use lib.ListN.{length, drop, length-append, length-drop}
use lib.Seq.{drop-drop, drop_at}
use Rattle.text.specs.Grammar.{Rule, Row, header, Rows, none, Text, Ended, start, ended, Broken}
use Rattle.text.specs.Reading.{events, reading_numbers}
use Rattle.text.specs.Parts.Scanning.{Ends, rule_of, RowStanding, NoRow, Scanned}
use Rattle.text.specs.Parts.Header.{HeaderFound}
use Rattle.refusals.specs.declared.Refusal.TheVariants.{BrokenRow}
use Rattle.text.specs.declared.rows.RuleRow.{RuleRow}
use Rattle.text.proofs.Texts.{no_bytes, After, nothing, rows, text_made, rows_made}

pub one_more : {A : Type 0} (l : List A) (x : A) → length (l ++ (x ∷ [])) ≡ suc (length l)
one_more l x = length-append l (x ∷ []) ∙ omega arith

pub record RowsRead (bs : List ℕ) (at : ℕ) (rs : List Rule) : Type 0 where
  pub within : at ≤ length bs
  pub ends : Ends (drop at bs)
  pub whole : (others : List Rule) → After (drop at bs) others → Text bs (rs ++ others)
  pub ended_rows : (rest : List ℕ) → drop at bs ≡ 13 ∷ (10 ∷ rest) → Ended bs (suc (length rs)) rest
  pub fewer : length rs ≤ at

pub progress_none : {bs : List ℕ} → 24 ≤ length bs → bs ≡ header ++ drop 24 bs → Ends (drop 24 bs) → RowsRead bs 24 []
progress_none {bs} room e ends =
    record {
      within = room;
      ends = ends;
      whole = λ others a. text_made e a;
      ended_rows = λ rest h. ended header rest start (e ∙ ap (λ (x : List ℕ). header ++ x) h) refl;
      fewer = omega arith;
    }

module _ {bs : List ℕ} {at : ℕ} {rs : List Rule} (p : RowsRead bs at rs) where
  long : length (drop at bs) + at ≡ length bs
  long = omega (arith, length-drop at bs, p.within)

  -- more than an ending is left, so an ending stands here
  pub ending : at + 2 < length bs → drop at bs ≡ 13 ∷ (10 ∷ drop (at + 2) bs)
  ending room = by p.ends
    where
      by : Ends (drop at bs) → drop at bs ≡ 13 ∷ (10 ∷ drop (at + 2) bs)
      by (inl e) = let z = ap length e in absurd (omega (arith, z, long))
      by (inr (rest, e)) = e ∙ ap (λ (x : List ℕ). 13 ∷ (10 ∷ x)) (ap (drop 2) (sym e) ∙ drop-drop 2 at bs)

  pub progress_done : length bs ≤ at + 2 → Text bs rs
  progress_done few = subst (Text bs) (append-nil rs) (p.whole [] (by p.ends))
    where
      by : Ends (drop at bs) → After (drop at bs) []
      by (inl e) = nothing e
      by (inr (rest, e)) =
          let long_rest : length (drop at bs) ≡ suc (suc (length rest)) = ap length e in
          let z : rest ≡ [] = no_bytes rest (omega (arith, long)) in
          rows rest e (subst (λ (x : List ℕ). Rows x []) (sym z) none)

  pub progress_more : (room : at + 2 < length bs) {line : List ℕ} {r : Rule} {next : ℕ} →
      next ≤ length bs → Row line r → drop (at + 2) bs ≡ line ++ drop next bs → Ends (drop next bs) → at < next →
      RowsRead bs next (rs ++ (r ∷ []))
  progress_more room {line} {r} {next} within row e ends later =
      record {
        within = within;
        ends = ends;
        whole = λ others a. subst (Text bs) (sym (append_assoc rs (r ∷ []) others)) (p.whole (r ∷ others) (rows (drop (at + 2) bs) (ending room) (rows_made e row a)));
        ended_rows = λ rest h. subst (λ (k : ℕ). Ended bs (suc k) rest) (sym (one_more rs r)) (ended line rest (p.ended_rows (drop (at + 2) bs) (ending room)) (e ∙ ap (λ (x : List ℕ). line ++ x) h) (r, row));
        fewer = omega (arith, one_more rs r, p.fewer);
      }

  pub progress_broken : (room : at + 2 < length bs) →
      ((line rest : List ℕ) (r : Rule) → drop (at + 2) bs ≡ line ++ rest → Ends rest → Row line r → ⊥) →
      Broken bs (suc (suc (length rs)))
  progress_broken room wrong =
      record {
        before = suc (length rs);
        is_next = refl;
        rest = drop (at + 2) bs;
        rows_before = p.ended_rows (drop (at + 2) bs) (ending room);
        not_the_end = λ l e. let z = ap length e in omega (arith, length-drop (at + 2) bs, z, room);
        not_ended = λ line after e right. wrong line (13 ∷ (10 ∷ after)) right.0 e (inr (after, refl)) right.1;
        not_last = λ right. wrong (drop (at + 2) bs) [] right.0 (sym (append-nil (drop (at + 2) bs))) (inl refl) right.1;
      }

pub header_broken : {bs : List ℕ} → ((rest : List ℕ) → bs ≡ header ++ rest → Ends rest → ⊥) → Broken bs 1
header_broken {bs} missing =
    record {
      before = 0;
      is_next = refl;
      rest = bs;
      rows_before = start;
      not_the_end = λ l e. omega arith;
      not_ended = λ line after e right. missing (13 ∷ (10 ∷ after)) (e ∙ ap (λ (x : List ℕ). x ++ (13 ∷ (10 ∷ after))) right) (inr (after, refl));
      not_last = λ right. missing [] (right ∙ sym (append-nil header)) (inl refl);
    }

-- ---- events

swap : (a b x : ℕ) → max a (max b x) ≡ max b (max a x)
swap a b x = omega arith

swap_pairs : (p q a b x : ℕ) → max p (max q (max a (max b x))) ≡ max a (max b (max p (max q x)))
swap_pairs p q a b x =
    ap (max p) (swap q a (max b x)) ∙ swap p a (max q (max b x)) ∙ ap (λ (y : ℕ). max a (max p y)) (swap q b x) ∙ ap (max a) (swap p b (max q x))

pub events_more : (rs : List Rule) (r : Rule) → events (rs ++ (r ∷ [])) ≡ max (suc r.source) (max (suc r.target) (events rs))
events_more [] r = refl
events_more (q ∷ rs) r =
    ap (λ (x : ℕ). max (suc q.source) (max (suc q.target) x)) (events_more rs r)
    ∙ swap_pairs (suc q.source) (suc q.target) (suc r.source) (suc r.target) (events rs)

-- ---- the header

pub header_room : {bs : List ℕ} → bs ≡ header ++ drop 24 bs → 24 ≤ length bs
header_room {bs} e = omega (arith, ap length e, length-append header (drop 24 bs))

pub header_found : {bs : List ℕ} {found : Bool} → bs ≡ header ++ drop 24 bs → (found ≡ true → Ends (drop 24 bs)) → (found ≡ false → Ends (drop 24 bs) → ⊥) → HeaderFound bs found
header_found {bs} e right wrong =
    record {
      room = λ _. header_room e;
      stands = λ _. e;
      ends = right;
      missing = λ f rest e' ends. wrong f (subst Ends (sym (ap (drop 24) e' ∙ drop_at header rest 24 refl)) ends);
    }

-- ---- with the counts

pub record RowsCounted (bs : List ℕ) (at n m : ℕ) : Type 0 where
  pub rs : List Rule
  pub progress : RowsRead bs at rs
  pub rule_count : n ≡ length rs
  pub event_count : m ≡ events rs

pub counted_none : {bs : List ℕ} {found : Bool} → HeaderFound bs found → found ≡ true → RowsCounted bs 24 0 1
counted_none h e = record { rs = []; progress = progress_none (h.room e) (h.stands e) (h.ends e); rule_count = refl; event_count = refl }

module _ {bs : List ℕ} {at n m : ℕ} (c : RowsCounted bs at n m) (room : at + 2 < length bs) where
  pub counted_more : {a : RuleRow} → RowStanding bs (at + 2) a → {k : ℕ} → k ≡ max (suc a.source) (max (suc a.target) m) → RowsCounted bs a.next (n + 1) k
  counted_more {a} found f =
      record {
        rs = c.rs ++ (rule_of a ∷ []);
        progress = progress_more c.progress room found.within found.row found.bytes found.ends (omega (arith, found.later));
        rule_count = omega (arith, one_more c.rs (rule_of a), c.rule_count);
        event_count = f ∙ ap (λ (x : ℕ). max (suc a.source) (max (suc a.target) x)) c.event_count ∙ sym (events_more c.rs (rule_of a));
      }

  pub counted_broken : NoRow bs (at + 2) → Broken bs (n + 2)
  counted_broken lacking =
      let place : suc (suc (length c.rs)) ≡ n + 2 = omega (arith, c.rule_count) in
      subst (Broken bs) place (progress_broken c.progress room lacking.none)

-- ---- the whole

pub scanned_broken : {bs : List ℕ} {k : ℕ} → Broken bs k → Scanned bs (reading_numbers (Err (BrokenRow k)))
scanned_broken b = record { right = λ z. absurd (let none : ⊥ = omega arith in none); right_place = λ z. absurd (let none : ⊥ = omega arith in none); wrong = λ _. (refl, b, refl, refl) }

pub scanned_right : {bs : List ℕ} {at n m : ℕ} → RowsCounted bs at n m → length bs ≤ at + 2 → Scanned bs (reading_numbers (Ok (record { events = m; rules = n })))
scanned_right c few =
    record {
      right = λ _. (c.rs, progress_done c.progress few, c.event_count, c.rule_count);
      right_place = λ _. refl;
      wrong = λ other. absurd (other refl);
    }
