-- The steps by which the order of the events grows, over lists and numbers alone. `Progress` of specs/Placing.antt holds between them.
--     progress_start    no event is placed, and no event is due
--     Joins             one event becomes due, and no other change
--     room_left         while an event has no place, fewer than n have one
--     progress_place    an event that becomes due and waits for no rule gets the next place
--     progress_beyond   what stands at the next place and beyond may change
--     progress_keep     an event that becomes due and still waits gets none
--     walk_begins       the walk through the rules into the event at place head comes to the first of them
--     walk_waits        the source of the rule that the walk comes to waits for one rule at least
--     walk_lowers       the walk serves that rule: its source waits for one rule less
--     walk_finishes     the walk is over, and the next place is head + 1
-- The idea. waiting[v] is the number of rules out of v that are not served. When it reaches 0, all rules out of v have been served, so their targets
-- have places below `tail`: v may take the place `tail`, and targets still come first. A new place changes no count: a rule into v was not
-- served before, and is not served by now, as `tail` comes after head. The walk changes the count of one event at a step, as it passes one rule into
-- the event at place head, and `Last` says that there is no other such rule between two stops.
-- Assumes nothing.
use mathlib.Core.Path.{◌≡◌, refl, sym, subst, ◌∙◌}
use mathlib.Core.Bool.{cond}
use mathlib.Core.List.{List}
use Prim.Native.Nat.{ℕ, suc, ◌+◌, ◌-◌, ◌*◌, ◌<◌, ◌≤◌}
use native.Mathlib.Decide.{ℕ_discrete, dec_lt}
use native.Mathlib.Omega.{arith}
use borrow.Author.Tests.{eq-eqb, ne_eqb}
use lib.Dec.{eqb}
use lib.ListN.{length, get_or, set, length-set}
use lib.Seq.{get_or-set_same, get_or-set_other}
use Rattle.analysis.specs.Parts.Chains.{Last}
use Rattle.analysis.specs.Parts.Rules.{RulesKept}
use Rattle.analysis.specs.Parts.Placing.{Waits, Placed, Progress, FirstReady, Serving}
use Rattle.sequences.specs.Counted.{Counted}
use Rattle.sequences.proofs.Counting.{counted_all, counted_same, counted_less, counted_none, Leaves}

-- the ranks, with event x at place k
moved : ℕ → ℕ → (ℕ → ℕ) → ℕ → ℕ
moved x k rank v = cond (eqb v x) k (rank v)

moved_same : (x k : ℕ) (rank : ℕ → ℕ) → moved x k rank x ≡ k
unfolding moved
moved_same x k rank = rw (moved, eq-eqb x x refl)

moved_other : (x k : ℕ) (rank : ℕ → ℕ) (v : ℕ) → (v ≡ x → ⊥) → moved x k rank v ≡ rank v
unfolding moved
moved_other x k rank v e = rw (moved, ne_eqb v x e)

pub record Joins (Due Due' : ℕ → Type 0) (x : ℕ) : Type 0 where
  pub not_before : Due x → ⊥
  pub after : Due' x
  pub others : (v : ℕ) → (v ≡ x → ⊥) → Due' v → Due v
  pub stays : (v : ℕ) → Due v → Due' v

pub room_left : {n : ℕ} {ss ts order : List ℕ} {tail : ℕ} {rank : ℕ → ℕ} → Placed n ss ts order tail rank → (x : ℕ) → x < n → 1024 ≤ rank x → tail < n
room_left {n} {tail = tail} {rank = rank} p x h l = room (dec_lt tail n)
  where
    room : Dec (tail < n) → tail < n
    room (yes k) = k
    room (no k) = absurd (counted_none (subst (Counted (λ (v : ℕ). 1024 ≤ rank v) n) (let e : p.left ≡ 0 = omega (arith, p.left_tail) in e) p.left_counted) x h l)

module _ (n : ℕ) (ss ts : List ℕ) (kept : RulesKept n ss ts) where
  pub progress_start : (waiting order : List ℕ) → FirstReady n ss ts waiting order → Progress n ss ts waiting order 0 0 5000 (λ (v : ℕ). v < 0)
  progress_start waiting order ready =
      record {
        rank = λ v. 1024;
        placed =
            record {
              left = n;
              left_counted = counted_all (λ i. omega arith) n;
              left_tail = omega arith;
              no_gap = λ v h. omega arith;
              order_rank = λ v h. absurd (let z : ⊥ = omega arith in z);
              order_below = λ k h. omega arith;
              rank_order = λ k h. omega arith;
              targets_first = λ i l h. omega arith;
            };
        waiting_room = ready.waiting_room;
        order_room = ready.order_room;
        clock = omega arith;
        waits =
            λ v h.
            counted_same (λ i l q. record { out = q; later = omega (arith, kept.few_rules) }) (λ i l q. q.out)
            (ready.tally.counted v (omega (arith, ready.waiting_room)));
        waiting_left = λ v h l. omega arith;
        due_placed = λ v h l. omega arith;
        undue_left = λ v h. omega arith;
      }

  -- a due event x that waits for no rule gets the place `tail`
  module _ (waiting order : List ℕ) (tail head e : ℕ) (Due Due' : ℕ → Type 0) (x : ℕ) (h : x < n) (joins : Joins Due Due' x) (free : get_or waiting x 0 ≡ 0) (p : Progress n ss ts waiting order tail head e Due) where
    unplaced : 1024 ≤ p.rank x
    unplaced = p.undue_left x joins.not_before

    room : tail < n
    room = room_left p.placed x h unplaced

    rank' : ℕ → ℕ
    rank' = moved x tail p.rank

    at_x : rank' x ≡ tail
    unfolding rank'
    at_x = moved_same x tail p.rank

    at_other : (v : ℕ) → (v ≡ x → ⊥) → rank' v ≡ p.rank v
    unfolding rank'
    at_other v q = moved_other x tail p.rank v q

    -- a placed event is not x
    placed_other : (v : ℕ) → p.rank v < tail → v ≡ x → ⊥
    placed_other v l q = let l' : p.rank x < tail = subst (λ (w : ℕ). p.rank w < tail) q l in omega (arith, l', unplaced, room, kept.few_events)

    -- the events placed by now are those before and x
    placed_before : (v : ℕ) → (v ≡ x → ⊥) → rank' v < tail + 1 → p.rank v < tail
    placed_before v q l = before (dec_lt (p.rank v) tail)
      where
        before : Dec (p.rank v < tail) → p.rank v < tail
        before (yes k) = k
        before (no k) = let m : 1024 ≤ p.rank v = p.placed.no_gap v (omega arith) in omega (arith, m, at_other v q, room, kept.few_events)

    -- every rule out of x has been served, so its target has a place
    target_placed : (i : ℕ) → i < length ss → get_or ss i 0 ≡ x → p.rank (get_or ts i 0) < tail
    target_placed i l q = served (dec_lt (p.rank (get_or ts i 0)) tail)
      where
        served : Dec (p.rank (get_or ts i 0) < tail) → p.rank (get_or ts i 0) < tail
        served (yes k) = k
        served (no k) =
            absurd
            (counted_none
            (subst (Counted (Waits ss ts p.rank head e x) (length ss)) free (p.waits x h))
            i
            l
            (record { out = q; later = omega (arith, p.clock, kept.few_rules) }))

    placed' : Placed n ss ts (set order tail x) (tail + 1) rank'
    placed' =
        let less = counted_less x leaves p.placed.left_counted in
        record {
          left = less.0;
          left_counted = less.2;
          left_tail = omega (arith, less.1, p.placed.left_tail);
          no_gap = λ v l. no_gap v l (ℕ_discrete v x);
          order_rank = λ v l. order_rank v l (ℕ_discrete v x);
          order_below = λ k l. order_below k l (ℕ_discrete k tail);
          rank_order = λ k l. rank_order k l (ℕ_discrete k tail);
          targets_first = λ i k l. targets_first i k l (ℕ_discrete (get_or ss i 0) x);
        }
      where
        leaves : Leaves (λ (v : ℕ). 1024 ≤ p.rank v) (λ (v : ℕ). 1024 ≤ rank' v) n x
        leaves =
            record {
              below = h;
              was = unplaced;
              gone = λ l. omega (arith, l, at_x, room, kept.few_events);
              to = λ j k q l. omega (arith, at_other j q, l);
              from = λ j k l. from j l (ℕ_discrete j x);
            }
          where
            from : (j : ℕ) → 1024 ≤ rank' j → Dec (j ≡ x) → 1024 ≤ p.rank j
            from j l (yes q) = subst (λ (v : ℕ). 1024 ≤ p.rank v) (sym q) unplaced
            from j l (no q) = omega (arith, at_other j q)

        no_gap : (v : ℕ) → tail + 1 ≤ rank' v → Dec (v ≡ x) → 1024 ≤ rank' v
        no_gap v l (yes q) = let z : rank' v ≡ tail = rw q at_x in omega arith
        no_gap v l (no q) = let z : rank' v ≡ p.rank v = at_other v q in omega (arith, p.placed.no_gap v (omega arith))

        order_rank : (v : ℕ) → rank' v < tail + 1 → Dec (v ≡ x) → get_or (set order tail x) (rank' v) 0 ≡ v
        order_rank v l (yes q) = rw (q, at_x) (get_or-set_same order tail x 0 (omega (arith, p.order_room, room, kept.few_events)))
        order_rank v l (no q) =
            let k : p.rank v < tail = placed_before v q l in
            rw (at_other v q) (get_or-set_other order tail (p.rank v) x 0 (λ w. let z : ⊥ = omega arith in z) ∙ p.placed.order_rank v k)

        order_below : (k : ℕ) → k < tail + 1 → Dec (k ≡ tail) → get_or (set order tail x) k 0 < n
        order_below k l (yes q) = rw (q, get_or-set_same order tail x 0 (omega (arith, p.order_room, room, kept.few_events))) h
        order_below k l (no q) = rw (get_or-set_other order tail k x 0 q) (p.placed.order_below k (omega arith))

        rank_order : (k : ℕ) → k < tail + 1 → Dec (k ≡ tail) → rank' (get_or (set order tail x) k 0) ≡ k
        rank_order k l (yes q) = rw (q, get_or-set_same order tail x 0 (omega (arith, p.order_room, room, kept.few_events))) at_x
        rank_order k l (no q) =
            let m : p.rank (get_or order k 0) ≡ k = p.placed.rank_order k (omega arith) in
            rw (get_or-set_other order tail k x 0 q) (at_other (get_or order k 0) (placed_other (get_or order k 0) (omega arith)) ∙ m)

        targets_first : (i : ℕ) → i < length ss → rank' (get_or ss i 0) < tail + 1 → Dec (get_or ss i 0 ≡ x) → rank' (get_or ts i 0) < rank' (get_or ss i 0)
        targets_first i k l (yes q) =
            let m : p.rank (get_or ts i 0) < tail = target_placed i k q in
            let z : rank' (get_or ss i 0) ≡ tail = rw q at_x in
            omega (arith, at_other (get_or ts i 0) (placed_other (get_or ts i 0) m))
        targets_first i k l (no q) =
            let w : p.rank (get_or ss i 0) < tail = placed_before (get_or ss i 0) q l in
            let m : p.rank (get_or ts i 0) < p.rank (get_or ss i 0) = p.placed.targets_first i k w in
            omega (arith, at_other (get_or ss i 0) q, at_other (get_or ts i 0) (placed_other (get_or ts i 0) (omega arith)))

    pub progress_place : Progress n ss ts waiting (set order tail x) (tail + 1) head e Due'
    progress_place =
        record {
          rank = rank';
          placed = placed';
          waiting_room = p.waiting_room;
          order_room = rw length-set p.order_room;
          clock = omega (arith, p.clock);
          waits = λ v l. counted_same (λ i k w. record { out = w.out; later = to i k w.later (ℕ_discrete (get_or ts i 0) x) }) (λ i k w. record { out = w.out; later = from i k w.later (ℕ_discrete (get_or ts i 0) x) }) (p.waits v l);
          waiting_left = λ v l k. waiting_left v l k (ℕ_discrete v x);
          due_placed = λ v d k. due_placed v d k (ℕ_discrete v x);
          undue_left = λ v d. let q : v ≡ x → ⊥ = λ w. d (subst Due' (sym w) joins.after) in omega (arith, at_other v q, p.undue_left v (λ w. d (joins.stays v w)));
        }
      where
        to : (i : ℕ) → i < length ss → head * 5000 + i < p.rank (get_or ts i 0) * 5000 + e → Dec (get_or ts i 0 ≡ x) → head * 5000 + i < rank' (get_or ts i 0) * 5000 + e
        to i k l (yes q) = let z : rank' (get_or ts i 0) ≡ tail = rw q at_x in omega (arith, p.clock, kept.few_rules)
        to i k l (no q) = omega (arith, at_other (get_or ts i 0) q)

        from : (i : ℕ) → i < length ss → head * 5000 + i < rank' (get_or ts i 0) * 5000 + e → Dec (get_or ts i 0 ≡ x) → head * 5000 + i < p.rank (get_or ts i 0) * 5000 + e
        from i k l (yes q) = let z : 1024 ≤ p.rank (get_or ts i 0) = rw q unplaced in omega (arith, p.clock, kept.few_rules, room, kept.few_events)
        from i k l (no q) = omega (arith, at_other (get_or ts i 0) q)

        waiting_left : (v : ℕ) → v < n → 0 < get_or waiting v 0 → Dec (v ≡ x) → 1024 ≤ rank' v
        waiting_left v l k (yes q) = let z : get_or waiting v 0 ≡ 0 = rw q free in absurd (let y : ⊥ = omega arith in y)
        waiting_left v l k (no q) = omega (arith, at_other v q, p.waiting_left v l k)

        due_placed : (v : ℕ) → Due' v → get_or waiting v 0 ≡ 0 → Dec (v ≡ x) → rank' v < tail + 1
        due_placed v d k (yes q) = let z : rank' v ≡ tail = rw q at_x in omega arith
        due_placed v d k (no q) = omega (arith, at_other v q, p.due_placed v (joins.others v q d) k)

  -- what stands at place `tail` and beyond is no part of the order
  pub progress_beyond :
      {waiting order : List ℕ} {tail head e : ℕ} {Due : ℕ → Type 0} (x : ℕ) →
      Progress n ss ts waiting order tail head e Due → Progress n ss ts waiting (set order tail x) tail head e Due
  progress_beyond {waiting} {order} {tail} x p =
      record {
        rank = p.rank;
        placed =
            record {
              left = p.placed.left;
              left_counted = p.placed.left_counted;
              left_tail = p.placed.left_tail;
              no_gap = p.placed.no_gap;
              order_rank = λ v l. kept_place (p.rank v) l ∙ p.placed.order_rank v l;
              order_below = λ k l. rw (kept_place k l) (p.placed.order_below k l);
              rank_order = λ k l. rw (kept_place k l) (p.placed.rank_order k l);
              targets_first = p.placed.targets_first;
            };
        waiting_room = p.waiting_room;
        order_room = rw length-set p.order_room;
        clock = p.clock;
        waits = p.waits;
        waiting_left = p.waiting_left;
        due_placed = p.due_placed;
        undue_left = p.undue_left;
      }
    where
      kept_place : (k : ℕ) → k < tail → get_or (set order tail x) k 0 ≡ get_or order k 0
      kept_place k l = get_or-set_other order tail k x 0 (λ q. let z : ⊥ = omega arith in z)

  -- a due event x that still waits
  pub progress_keep : {waiting order : List ℕ} {tail head e : ℕ} {Due Due' : ℕ → Type 0} {x : ℕ} → Joins Due Due' x → 0 < get_or waiting x 0 → Progress n ss ts waiting order tail head e Due → Progress n ss ts waiting order tail head e Due'
  progress_keep {waiting} {tail = tail} {Due = Due} {Due' = Due'} {x = x} joins busy p =
      record {
        rank = p.rank;
        placed = p.placed;
        waiting_room = p.waiting_room;
        order_room = p.order_room;
        clock = p.clock;
        waits = p.waits;
        waiting_left = p.waiting_left;
        due_placed = λ v d k. due_placed v d k (ℕ_discrete v x);
        undue_left = λ v d. p.undue_left v (λ w. d (joins.stays v w));
      }
    where
      due_placed : (v : ℕ) → Due' v → get_or waiting v 0 ≡ 0 → Dec (v ≡ x) → p.rank v < tail
      due_placed v d k (yes q) = let z : get_or waiting x 0 ≡ 0 = rw q at k in absurd (let y : ⊥ = omega arith in y)
      due_placed v d k (no q) = p.due_placed v (joins.others v q d) k

  -- ---- the walk through the rules into the event at place head

  -- Between two stops of the walk, e and e', no rule is passed but those into the event at place head; `last` says which of these lie below k.
  later_kept : {order : List ℕ} {tail : ℕ} {rank : ℕ → ℕ} → Placed n ss ts order tail rank → (head e e' k : ℕ) → head < tail → Last ts (get_or order head 0) k e' → (j : ℕ) → j < length ss → e ≤ 5000 → (j < e → j < k) → head * 5000 + j < rank (get_or ts j 0) * 5000 + e → head * 5000 + j < rank (get_or ts j 0) * 5000 + e'
  later_kept {order} {tail} {rank} p head e e' k busy last j l small below later = kept_later (dec_lt (head * 5000 + j) (rank (get_or ts j 0) * 5000 + e'))
    where
      kept_later : Dec (head * 5000 + j < rank (get_or ts j 0) * 5000 + e') → head * 5000 + j < rank (get_or ts j 0) * 5000 + e'
      kept_later (yes h) = h
      kept_later (no h) =
          let here : rank (get_or ts j 0) ≡ head = omega (arith, kept.few_rules) in
          let same : get_or ts j 0 ≡ get_or order head 0 = sym (subst (λ (x : ℕ). get_or order x 0 ≡ get_or ts j 0) here (p.order_rank (get_or ts j 0) (omega arith))) in
          absurd (last.none j (omega arith) (below (omega arith)) same)

  -- the clock goes on, and no rule is served
  reclock : {waiting order : List ℕ} {tail head e : ℕ} {Due : ℕ → Type 0} (head' e' : ℕ) (p : Progress n ss ts waiting order tail head e Due) → head' * 5000 + 5000 ≤ tail * 5000 + e' → ((j : ℕ) → j < length ss → head * 5000 + j < p.rank (get_or ts j 0) * 5000 + e → head' * 5000 + j < p.rank (get_or ts j 0) * 5000 + e') → ((j : ℕ) → j < length ss → head' * 5000 + j < p.rank (get_or ts j 0) * 5000 + e' → head * 5000 + j < p.rank (get_or ts j 0) * 5000 + e) → Progress n ss ts waiting order tail head' e' Due
  reclock head' e' p clock to from =
      record {
        rank = p.rank;
        placed = p.placed;
        waiting_room = p.waiting_room;
        order_room = p.order_room;
        clock = clock;
        waits = λ v l. counted_same (λ j k w. record { out = w.out; later = to j k w.later }) (λ j k w. record { out = w.out; later = from j k w.later }) (p.waits v l);
        waiting_left = p.waiting_left;
        due_placed = p.due_placed;
        undue_left = p.undue_left;
      }

  pub walk_begins : {waiting order : List ℕ} {tail head : ℕ} (e : ℕ) → Serving n ss ts waiting order tail head → head < tail → Last ts (get_or order head 0) (length ts) e → Progress n ss ts waiting order tail head e (λ (v : ℕ). v < n)
  walk_begins {head = head} e p busy last =
      reclock
      head
      e
      p
      (omega arith)
      (λ j l. later_kept p.placed head 5000 e (length ts) busy last j l (omega arith) (λ h. omega (arith, kept.targets_match)))
      (λ j l h. omega (arith, last.within, kept.few_rules, kept.targets_match))

  pub walk_finishes : {waiting order : List ℕ} {tail head : ℕ} → head < tail → Progress n ss ts waiting order tail head 0 (λ (v : ℕ). v < n) → Serving n ss ts waiting order tail (head + 1)
  walk_finishes {head = head} busy p = reclock (head + 1) 5000 p (omega arith) (λ j l h. omega arith) (λ j l h. omega arith)

  -- the walk serves rule i, and goes on to e
  module _ (waiting order : List ℕ) (tail head i e x : ℕ) (busy : head < tail) (l : i < length ss) (own : get_or ts i 0 ≡ get_or order head 0) (last : Last ts (get_or order head 0) i e) (end : get_or ss i 0 ≡ x) (p : Progress n ss ts waiting order tail head (suc i) (λ (v : ℕ). v < n)) where
    below : x < n
    below = subst (λ (v : ℕ). v < n) end (kept.sources_below.below i l)

    leaves : Leaves (Waits ss ts p.rank head (suc i) x) (Waits ss ts p.rank head e x) (length ss) i
    leaves =
        let here : p.rank (get_or ts i 0) ≡ head = rw own (p.placed.rank_order head busy) in
        record {
          below = l;
          was = record { out = end; later = omega arith };
          gone = λ w. omega (arith, w.later, last.within);
          to = λ j k q w. record { out = w.out; later = later_kept p.placed head (suc i) e i busy last j k (omega (arith, kept.few_rules)) (λ h. omega arith) w.later };
          from = λ j k w. record { out = w.out; later = omega (arith, w.later, last.within) };
        }

    counted : (b : ℕ) × (get_or waiting x 0 ≡ suc b) × Counted (Waits ss ts p.rank head e x) (length ss) b
    counted = counted_less i leaves (p.waits x below)

    pub walk_waits : 0 < get_or waiting x 0
    walk_waits = omega (arith, counted.1)

    pub walk_lowers : Progress n ss ts (set waiting x (get_or waiting x 0 - 1)) order tail head e (λ (v : ℕ). (v < n) × (v ≡ x → ⊥))
    walk_lowers =
        record {
          rank = p.rank;
          placed = p.placed;
          waiting_room = rw length-set p.waiting_room;
          order_room = p.order_room;
          clock = omega arith;
          waits = λ v k. waits v k (ℕ_discrete v x);
          waiting_left = λ v k h. waiting_left v k h (ℕ_discrete v x);
          due_placed = λ v d h. p.due_placed v d.0 (rw (get_or-set_other waiting x v (get_or waiting x 0 - 1) 0 d.1) at h);
          undue_left = λ v d. undue_left v d (ℕ_discrete v x);
        }
      where
        at_x : get_or (set waiting x (get_or waiting x 0 - 1)) x 0 ≡ counted.0
        at_x = get_or-set_same waiting x (get_or waiting x 0 - 1) 0 (omega (arith, below, p.waiting_room, kept.few_events)) ∙ omega (arith, counted.1)

        waits : (v : ℕ) → v < n → Dec (v ≡ x) → Counted (Waits ss ts p.rank head e v) (length ss) (get_or (set waiting x (get_or waiting x 0 - 1)) v 0)
        waits v k (yes q) = rw (q, at_x) counted.2
        waits v k (no q) =
            rw
            (get_or-set_other waiting x v (get_or waiting x 0 - 1) 0 q)
            (counted_same
            (λ j m w. record { out = w.out; later = later_kept p.placed head (suc i) e i busy last j m (omega (arith, kept.few_rules)) (λ h. not_i j w.out h (ℕ_discrete j i)) w.later })
            (λ j m w. record { out = w.out; later = omega (arith, w.later, last.within) })
            (p.waits v k))
          where
            not_i : (j : ℕ) → get_or ss j 0 ≡ v → j < suc i → Dec (j ≡ i) → j < i
            not_i j w h (yes r) = absurd (q (sym w ∙ (rw r end)))
            not_i j w h (no r) = omega arith

        waiting_left : (v : ℕ) → v < n → 0 < get_or (set waiting x (get_or waiting x 0 - 1)) v 0 → Dec (v ≡ x) → 1024 ≤ p.rank v
        waiting_left v k h (yes q) = rw q (p.waiting_left x below walk_waits)
        waiting_left v k h (no q) = p.waiting_left v k (rw (get_or-set_other waiting x v (get_or waiting x 0 - 1) 0 q) at h)

        undue_left : (v : ℕ) → ((v < n) × (v ≡ x → ⊥) → ⊥) → Dec (v ≡ x) → 1024 ≤ p.rank v
        undue_left v d (yes q) = rw q (p.waiting_left x below walk_waits)
        undue_left v d (no q) = p.undue_left v (λ k. d (k, q))
