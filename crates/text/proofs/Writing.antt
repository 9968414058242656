-- The loop that writes the rules, one place of each list a turn.
--     put_length, put_more  a list whose first places hold one entry for each rule: its length, and one rule more
--     RulesGoing …          the rules before `at` are written, and what follows is the rest of the text
--     Turn …                what a turn may count on: there is room
--     writing_none          before the first turn
--     row_there             what follows is a row, for the text is right
--     turn_kept             each turn may: one rule more is left
--     writing_more          a turn writes one rule
--     writing_done          after the last turn all rules are written
-- ss₀, ts₀, ds₀, Ds₀ are the lists before, ss, ts, ds, Ds now. Assumes nothing.
use mathlib.Core.Path.{◌≡◌, refl, sym, ap, subst, ◌∙◌}
use mathlib.Core.List.{List, [], ◌∷◌, ◌++◌, map, map-append}
use Prim.Native.Nat.{ℕ, suc, ◌+◌, ◌≤◌, ◌<◌}
use native.Mathlib.Omega.{arith}
use lib.IntN.{ℤ}
use lib.ListN.{length, drop, set, get_or, length-append, length-drop, length-map}
use lib.Seq.{drop-cons, set_at, drop_at, append_snoc}
use mir.Syntax.{w64}
use mir.Val.{to_z, of_z}
use Rattle.std.specs.Prelude.{Option, Some, None, IsSome}
use Rattle.text.specs.Grammar.{Rule, header, Text}
use Rattle.text.specs.Reading.{ListsHold}
use Rattle.text.specs.Parts.Scanning.{rule_of, RowStanding, RowGiven}
use Rattle.text.specs.declared.rows.RuleRow.{RuleRow}
use Rattle.text.proofs.RowLaws.{delay_back}
use Rattle.text.proofs.Texts.{After, FirstRow, after_ends, after_rows, text_cut, rows_first, text_unique, text_not_broken}
use Rattle.text.proofs.Progress.{one_more, RowsRead, header_room, progress_none, ending, progress_more, progress_done, progress_broken}

-- ---- one list

module _ {A B : Type 0} (f : A → B) where
  pub put_length : (done : List A) (old new : List B) → length done ≤ length old → new ≡ map f done ++ drop (length done) old → length new ≡ length old
  put_length done old new room e =
      let long = ap length e ∙ length-append (map f done) (drop (length done) old) in
      omega (arith, length-map done f, length-drop (length done) old)

  pub put_more : (done : List A) (r : A) (old new : List B) → length done < length old → new ≡ map f done ++ drop (length done) old →
      set new (length done) (f r) ≡ map f (done ++ (r ∷ [])) ++ drop (length (done ++ (r ∷ []))) old
  put_more done r old new room e =
      let here : new ≡ map f done ++ (get_or old (length done) (f r) ∷ drop (suc (length done)) old) = e ∙ ap (λ (x : List B). map f done ++ x) (drop-cons old (length done) (f r) room) in
      ap (λ (x : List B). set x (length done) (f r)) here
      ∙ set_at (map f done) (get_or old (length done) (f r)) (drop (suc (length done)) old) (f r) (length done) (length-map done f)
      ∙ sym (append_snoc (map f done) (f r) (drop (suc (length done)) old))
      ∙ (λ i. sym (map-append f done (r ∷ [])) i ++ drop (sym (one_more done r) i) old)

-- ---- the four lists

-- the code stores words
abbrev word : ℤ → ℤ
word z = to_z w64 (of_z w64 z)

pub record RulesGoing (bs : List ℕ) (ss₀ ts₀ : List ℕ) (ds₀ Ds₀ : List ℤ) (ss ts : List ℕ) (ds Ds : List ℤ) (at i : ℕ) : Type 0 where
  pub done : List Rule
  pub left : List Rule
  pub progress : RowsRead bs at done
  pub after : After (drop at bs) left
  pub place : i ≡ length done
  pub sources_room : length done + length left ≤ length ss₀
  pub targets_room : length done + length left ≤ length ts₀
  pub leasts_room : length done + length left ≤ length ds₀
  pub mosts_room : length done + length left ≤ length Ds₀
  pub lists : ListsHold done ss₀ ts₀ ds₀ Ds₀ ss ts ds Ds

pub record Turn (ss ts : List ℕ) (ds Ds : List ℤ) (i : ℕ) : Type 0 where
  pub sources_place : i < length ss
  pub targets_place : i < length ts
  pub leasts_place : i < length ds
  pub mosts_place : i < length Ds

module _ {bs : List ℕ} {ss₀ ts₀ : List ℕ} {ds₀ Ds₀ : List ℤ} where
  pub writing_none : (rs : List Rule) → Text bs rs → length rs ≤ length ss₀ → length rs ≤ length ts₀ → length rs ≤ length ds₀ → length rs ≤ length Ds₀ →
      RulesGoing bs ss₀ ts₀ ds₀ Ds₀ ss₀ ts₀ ds₀ Ds₀ 24 0
  writing_none rs text s t d D =
      let cut = text_cut text in
      let rest : drop 24 bs ≡ cut.rest = ap (drop 24) cut.bytes ∙ drop_at header cut.rest 24 refl in
      let after : After (drop 24 bs) rs = subst (λ (x : List ℕ). After x rs) (sym rest) cut.after in
      let bytes : bs ≡ header ++ drop 24 bs = cut.bytes ∙ ap (λ (x : List ℕ). header ++ x) (sym rest) in
      record {
        done = [];
        left = rs;
        progress = progress_none (header_room bytes) bytes (after_ends after);
        after = after;
        place = refl;
        sources_room = omega arith;
        targets_room = omega arith;
        leasts_room = omega arith;
        mosts_room = omega arith;
        lists = record { sources_hold = refl; targets_hold = refl; leasts_hold = refl; mosts_hold = refl };
      }

  module _ {ss ts : List ℕ} {ds Ds : List ℤ} {at i : ℕ} (w : RulesGoing bs ss₀ ts₀ ds₀ Ds₀ ss ts ds Ds at i) where
    pub sources_length : length ss ≡ length ss₀
    sources_length = put_length (λ (r : Rule). r.source) w.done ss₀ ss (omega (arith, w.sources_room)) w.lists.sources_hold

    pub targets_length : length ts ≡ length ts₀
    targets_length = put_length (λ (r : Rule). r.target) w.done ts₀ ts (omega (arith, w.targets_room)) w.lists.targets_hold

    pub leasts_length : length ds ≡ length ds₀
    leasts_length = put_length (λ (r : Rule). r.least) w.done ds₀ ds (omega (arith, w.leasts_room)) w.lists.leasts_hold

    pub mosts_length : length Ds ≡ length Ds₀
    mosts_length = put_length (λ (r : Rule). r.most) w.done Ds₀ Ds (omega (arith, w.mosts_room)) w.lists.mosts_hold

    -- by `text_unique` these are the rules, whatever list of rules the text is that of
    pub writing_done : length bs ≤ at + 2 → (rs : List Rule) → Text bs rs → ListsHold rs ss₀ ts₀ ds₀ Ds₀ ss ts ds Ds
    writing_done few rs text = subst (λ (x : List Rule). ListsHold x ss₀ ts₀ ds₀ Ds₀ ss ts ds Ds) (text_unique (progress_done w.progress few) text) w.lists

    -- the text is right
    pub row_there : {o : Option RuleRow} {next : ℕ} → RowGiven bs at o next → IsSome o
    row_there {o = Some a} given = refl
    row_there {o = None} given = absurd (text_not_broken (w.progress.whole w.left w.after) (progress_broken w.progress given.room given.row.none))

    -- the row given is a, and stands for place j
    module _ {o : Option RuleRow} {a : RuleRow} {next j : ℕ} (read : RowGiven bs at o next) (is : o ≡ Some a) (same : j ≡ i) where
      given : RowGiven bs at (Some a) next
      given = subst (λ (x : Option RuleRow). RowGiven bs at x next) is read

      found : RowStanding bs (at + 2) a
      found = given.row

      first : FirstRow (rule_of a) (drop a.next bs) w.left
      first =
          rows_first (after_rows w.after (ending w.progress given.room)) found.bytes found.row found.ends

      more_left : length w.left ≡ suc (length first.others)
      more_left = ap length first.rules

      place : j ≡ length w.done
      place = same ∙ w.place

      pub turn_kept : Turn ss ts ds Ds j
      turn_kept =
          record {
            sources_place = omega (arith, sources_length, w.sources_room, place, more_left);
            targets_place = omega (arith, targets_length, w.targets_room, place, more_left);
            leasts_place = omega (arith, leasts_length, w.leasts_room, place, more_left);
            mosts_place = omega (arith, mosts_length, w.mosts_room, place, more_left);
          }

      pub writing_more : {k : ℕ} → k ≡ i + 1 → RulesGoing bs ss₀ ts₀ ds₀ Ds₀ (set ss j a.source) (set ts j a.target) (set ds j (word a.least)) (set Ds j (word a.most)) next k
      writing_more {k} more =
          let more-done = one_more w.done (rule_of a) in
          record {
            done = w.done ++ (rule_of a ∷ []);
            left = first.others;
            progress = subst (λ (x : ℕ). RowsRead bs x (w.done ++ (rule_of a ∷ []))) (sym given.ends_at) (progress_more w.progress given.room found.within found.row found.bytes found.ends (omega (arith, found.later)));
            after = subst (λ (x : ℕ). After (drop x bs) first.others) (sym given.ends_at) first.after;
            place = omega (arith, more-done, w.place, more);
            sources_room = omega (arith, more-done, w.sources_room, more_left);
            targets_room = omega (arith, more-done, w.targets_room, more_left);
            leasts_room = omega (arith, more-done, w.leasts_room, more_left);
            mosts_room = omega (arith, more-done, w.mosts_room, more_left);
            lists =
                record {
                  sources_hold = ap (λ (m : ℕ). set ss m a.source) place ∙ put_more (λ (r : Rule). r.source) w.done (rule_of a) ss₀ ss (omega (arith, w.sources_room, more_left)) w.lists.sources_hold;
                  targets_hold = ap (λ (m : ℕ). set ts m a.target) place ∙ put_more (λ (r : Rule). r.target) w.done (rule_of a) ts₀ ts (omega (arith, w.targets_room, more_left)) w.lists.targets_hold;
                  leasts_hold = (λ m. set ds (place m) (delay_back found.row.least_delay m)) ∙ put_more (λ (r : Rule). r.least) w.done (rule_of a) ds₀ ds (omega (arith, w.leasts_room, more_left)) w.lists.leasts_hold;
                  mosts_hold = (λ m. set Ds (place m) (delay_back found.row.most_delay m)) ∙ put_more (λ (r : Rule). r.most) w.done (rule_of a) Ds₀ Ds (omega (arith, w.mosts_room, more_left)) w.lists.mosts_hold;
                };
          }
