-- The walk that finds U and the depths, from the root on: the sources of the rules into an event come after it in the order, and have their turn before it.
--     Turned … w        us holds U(w) and depth its depth; both are small, by the places that are left
--     Pulled … k        the events from place k on have had their turn; the others have m in us
--     pulled_start      at place n none has
--     pulled_arrivals   what is asked before the rules into the event before place k are gone through
--     pulled_other, pulled_root    its turn, where it isn't the root, and where it is
--     pulled_latest, pulled_depths   at place 0
-- The size of U: m takes at most 1024 delays, and along a rule at most one delay comes on top, while the rank falls by one at least.
-- Where there is no m(v), the number that stands for it is greater than every arrival: so the lesser of the two is the arrival. Assumes nothing.
use mathlib.Core.Path.{◌≡◌, refl, sym, ap, subst, ◌∙◌}
use mathlib.Core.Logic.{⊎_elim}
use mathlib.Core.List.{List}
use Prim.Native.Nat.{ℕ, suc, ◌+◌, ◌-◌, ◌*◌, ◌<◌, ◌≤◌}
use native.Mathlib.Omega.{arith}
use lib.IntN.{ℤ, pos, ◌+ℤ◌}
use lib.Signed.{◌≤ℤ◌}
use lib.ListN.{length, get_or, drop, length-set}
use lib.Seq.{get_or-set_same, get_or-set_other, drop-set-lt}
use Rattle.integers.specs.Within.{Within}
use Rattle.integers.proofs.Integer.{linear}
use Rattle.integers.proofs.Word.{within_sum, within_wider}
use Rattle.graphs.specs.Graph.{Graph, graph_of, rules, source, target, most, Greatest}
use Rattle.graphs.specs.Path.{Path, stay, steps, Depth}
use Rattle.graphs.specs.Limits.{CountsKept}
use Rattle.graphs.proofs.Paths.{along, steps_along, LastRule, no_last, last, last_rule, acyclic_stays}
use Rattle.graphs.proofs.Limits.{sound_of}
use Rattle.graphs.proofs.Greatest.{greatest_same, incoming}
use Rattle.executions.specs.Steps.{M, Capped, with_m, without_m, UOf}
use Rattle.analysis.specs.Parts.Order.{Order}
use Rattle.analysis.specs.Parts.Paths.{absent, MHeld, there, none}
use Rattle.analysis.specs.Parts.Latest.{Addable, Deepenable, Arrivals, Settled, UAt, at_root, at_other, LatestFound, LatestReady, DepthsFound}
use Rattle.analysis.proofs.Places.{back_more}
use Rattle.analysis.proofs.MPass.{m_within}

abbrev at : List ℤ → ℕ → ℤ
at xs v = get_or xs v (pos 0)

pub record Turned (g : Graph) (s : ℕ) (rank : ℕ → ℕ) (u : ℕ → ℤ) (depth : ℕ → ℕ) (w : ℕ) : Type 0 where
  pub is_u : UAt g s u w (u w)
  pub bound : ℕ
  pub within : Within bound (u w)
  pub bounded : bound + 1001000 * rank w ≤ 2050048000
  pub is_depth : Depth g w (depth w)
  pub shallow : depth w + rank w < 1024

-- ---- U from another u

u_agrees :
    {g : Graph} {s w : ℕ} {x y : ℤ} (f h : ℕ → ℤ) → ((i : ℕ) → i < rules g → target g i ≡ w → f (source g i) ≡ h (source g i)) → x ≡ y →
    UAt g s f w x → UAt g s h w y
u_agrees {g} {s} {w} f h same e found = subst (UAt g s h w) e (of found)
  where
    of : {x : ℤ} → UAt g s f w x → UAt g s h w x
    of (at_root root m) = at_root root m
    of (at_other other a greatest capped) =
        at_other other a (greatest_same greatest (λ i l to. ap (λ (z : ℤ). z +ℤ most g i) (same i l to))) capped

-- ---- the walk

module _ (n : ℕ) (ss ts : List ℕ) (ds Ds : List ℤ) (heads nexts order : List ℕ) (s : ℕ) (us₀ : List ℤ) (depth₀ : List ℕ) (r : LatestReady n ss ts ds Ds heads nexts order s us₀ depth₀) where
  abbrev g : Graph
  g = graph_of n ss ts ds Ds

  abbrev rank : ℕ → ℕ
  rank = r.arranged.rank

  abbrev o : Order n ss ts order r.arranged.rank
  o = r.arranged.ordered

  few : n ≤ 1024
  few = r.graph.sized.counts.few_events

  pub record Pulled (k : ℕ) (us : List ℤ) (depth : List ℕ) : Type 0 where
    pub place : k ≤ n
    pub us_room : n ≤ length us
    pub depth_room : n ≤ length depth
    pub beyond : drop n us ≡ drop n us₀
    pub root_depth : get_or depth 0 0 ≡ 0
    pub left : (w : ℕ) → w < n → rank w < k → MHeld g s w (at us w)
    pub turned : (w : ℕ) → w < n → k ≤ rank w → Turned g s rank (at us) (λ x. get_or depth x 0) w

  pub pulled_start : Pulled n us₀ depth₀
  pulled_start =
      record {
        place = omega arith;
        us_room = r.us_room;
        depth_room = r.depth_room;
        beyond = refl;
        root_depth = r.root_depth;
        left = λ w l _. r.held w l;
        turned = λ w l h. absurd (let bad : ⊥ = omega (arith, o.rank_below w l) in bad);
      }

  module _ (k : ℕ) (us : List ℤ) (depth : List ℕ) (some : 0 < k) (p : Pulled k us depth) where
    abbrev v : ℕ
    v = get_or order (k - 1) 0

    pub v_known : v < n
    v_known = o.order_below (k - 1) (omega (arith, p.place))

    v_rank : rank v ≡ k - 1
    v_rank = o.rank_order (k - 1) (omega (arith, p.place))

    source_later : (w i : ℕ) → i < length ss → target g i ≡ w → rank w < rank (source g i)
    source_later w i h to = omega (arith, o.targets_first i h, ap rank to)

    source_turned : (i : ℕ) → i < length ss → target g i ≡ v → Turned g s rank (at us) (λ x. get_or depth x 0) (source g i)
    source_turned i h to = p.turned (source g i) (r.graph.sized.ends i h).source_known (omega (arith, source_later v i h to, v_rank))

    v_held : MHeld g s v (at us v)
    v_held = p.left v v_known (omega (arith, v_rank))

    -- ---- what is asked before the rules into v are gone through

    pub pulled_arrivals : (v ≡ 0 → ⊥) → Arrivals n ss ts heads nexts Ds us depth v
    pulled_arrivals other =
        let counts : CountsKept g = r.graph.sized.counts in
        let (i, h, to) = incoming (sound_of r.graph) v_known other in
        record {
          chains = r.arranged.chains;
          known = v_known;
          few_events = few;
          few_rules = counts.few_rules;
          targets_match = counts.targets_match;
          some = (i, (omega (arith, counts.targets_match)), to);
          addable = addable;
          deepenable = deepenable;
        }
      where
        is_rule : (i : ℕ) → i < length ts → i < length ss
        is_rule i h = omega (arith, r.graph.sized.counts.targets_match)

        addable : (i : ℕ) → i < length ts → get_or ts i 0 ≡ v → Addable ss Ds us i
        addable i h to =
            let src = source_turned i (is_rule i h) to in
            let known : source g i < n = (r.graph.sized.ends i (is_rule i h)).source_known in
            record {
              source_listed = is_rule i h;
              most_listed = omega (arith, r.graph.sized.counts.mosts_match, is_rule i h);
              source_known = omega (arith, p.us_room);
              source_within = within_wider (omega (arith, src.bounded)) src.within;
              most_within = (r.graph.sized.delays i (is_rule i h)).most_within;
            }

        deepenable : (i : ℕ) → i < length ts → get_or ts i 0 ≡ v → Deepenable ss depth i
        deepenable i h to =
            let known : source g i < n = (r.graph.sized.ends i (is_rule i h)).source_known in
            record {
              source_listed = is_rule i h;
              source_known = omega (arith, p.depth_room);
              source_small = omega (arith, (source_turned i (is_rule i h) to).shallow);
            }

    -- ---- the turn of another event than the root

    module _ (other : v ≡ 0 → ⊥) (us' : List ℤ) (depth' : List ℕ) (done : Settled n ss ts Ds v us depth us' depth') where
      greatest : Greatest g v (λ i. at us (source g i) +ℤ most g i) done.time
      greatest = done.greatest.arrival ds

      -- the arrival and the lesser of it and what stood there are small
      abbrev b : ℕ
      b = 2050048000 - 1001000 * (k - 1)

      time_within : Within b done.time
      time_within =
          let (i, h, to, e) = greatest.reached in
          let src = source_turned i h to in
          subst (Within b) e
          (within_wider (omega (arith, src.bounded, source_later v i h to, v_rank)) (within_sum src.within (r.graph.sized.delays i h).most_within))

      absent_lesser : at us v ≡ absent → done.latest ≡ done.time
      absent_lesser e =
          ⊎_elim
          (λ q. let low : done.latest ≤ℤ done.time = done.lesser.right in let small : done.time ≤ℤ pos b = time_within.below in absurd (let bad : ⊥ = omega linear in bad))
          (λ q. q)
          done.lesser.one

      capped : MHeld g s v (at us v) → Capped g s v done.time done.latest
      capped (there m) = with_m (at us v) m done.lesser
      capped (none e dead) = without_m dead (absent_lesser e)

      latest_within : MHeld g s v (at us v) → Within b done.latest
      latest_within (there m) =
          ⊎_elim
          (λ e. rw e (within_wider (omega (arith, p.place, few)) (m_within r.graph.sized o m)))
          (λ e. rw e time_within)
          done.lesser.one
      latest_within (none e dead) = rw (absent_lesser e) time_within

      abbrev at_depth : ℕ → ℕ
      at_depth x = get_or depth x 0

      its_depth : Depth g v done.deep
      its_depth = record { reached = longest; bound = λ q. shorter q (last_rule q) }
        where
          deepest : Greatest g v (λ i. pos (at_depth (source g i) + 1)) (pos done.deep)
          deepest = done.greatest.deepest ds

          longest : (q : Path g 0 v) × (steps q ≡ done.deep)
          longest =
              let (i, h, to, e) = deepest.reached in
              let (q, long) = (source_turned i h to).is_depth.reached in
              (along q i h refl to, steps_along q i h refl to ∙ (let more : suc (steps q) ≡ done.deep = omega linear in more))

          shorter : (q : Path g 0 v) → LastRule g 0 v q → steps q ≤ done.deep
          shorter q (no_last same few zero-sum) = absurd (other (sym same))
          shorter q (last i h to q' one_more its-sum) =
              let short : steps q' ≤ at_depth (source g i) = (source_turned i h to).is_depth.bound q' in
              let low : pos (at_depth (source g i) + 1) ≤ℤ pos done.deep = deepest.bound i h to in
              let low' : at_depth (source g i) + 1 ≤ done.deep = omega linear in
              omega arith

      its_shallow : done.deep + rank v < 1024
      its_shallow =
          let (i, h, to, e) = (done.greatest.deepest ds).reached in
          let one : done.deep ≡ at_depth (source g i) + 1 = omega linear in
          omega (arith, (source_turned i h to).shallow, source_later v i h to)

      -- what was found before is neither overwritten nor was it got from v
      unmoved : (w : ℕ) → (w ≡ v → ⊥) → at us w ≡ at us' w
      unmoved w q = sym (rw done.us_set (get_or-set_other us v w done.latest (pos 0) q))

      depth_unmoved : (w : ℕ) → (w ≡ v → ⊥) → get_or depth w 0 ≡ get_or depth' w 0
      depth_unmoved w q = sym (rw done.depth_set (get_or-set_other depth v w done.deep 0 q))

      later_other : (w : ℕ) → k ≤ rank w → w ≡ v → ⊥
      later_other w h e = let same : rank w ≡ rank v = ap rank e in let bad : ⊥ = omega (arith, v_rank) in bad

      written : done.latest ≡ at us' v
      written = sym (rw done.us_set (get_or-set_same us v done.latest (pos 0) (omega (arith, v_known, p.us_room))))

      depth_written : done.deep ≡ get_or depth' v 0
      depth_written = sym (rw done.depth_set (get_or-set_same depth v done.deep 0 (omega (arith, v_known, p.depth_room))))

      here : Turned g s rank (at us') (λ x. get_or depth' x 0) v
      here =
          record {
            is_u = u_agrees (at us) (at us') (λ i h to. unmoved (source g i) (later_other (source g i) (omega (arith, source_later v i h to, v_rank)))) written (at_other other done.time greatest (capped v_held));
            bound = b;
            within = subst (Within b) written (latest_within v_held);
            bounded = omega (arith, v_rank, p.place, few);
            is_depth = subst (Depth g v) depth_written its_depth;
            shallow = subst (λ (x : ℕ). x + rank v < 1024) depth_written its_shallow;
          }

      kept : (w : ℕ) → k ≤ rank w → Turned g s rank (at us) (λ x. get_or depth x 0) w → Turned g s rank (at us') (λ x. get_or depth' x 0) w
      kept w h was =
          let q : w ≡ v → ⊥ = later_other w h in
          record {
            is_u = u_agrees (at us) (at us') (λ i l to. unmoved (source g i) (later_other (source g i) (omega (arith, source_later w i l to)))) (unmoved w q) was.is_u;
            bound = was.bound;
            within = subst (Within was.bound) (unmoved w q) was.within;
            bounded = was.bounded;
            is_depth = subst (Depth g w) (depth_unmoved w q) was.is_depth;
            shallow = subst (λ (x : ℕ). x + rank w < 1024) (depth_unmoved w q) was.shallow;
          }

      pub pulled_other : Pulled (k - 1) us' depth'
      pulled_other =
          record {
            place = omega (arith, p.place);
            us_room = rw (done.us_set, length-set) p.us_room;
            depth_room = rw (done.depth_set, length-set) p.depth_room;
            beyond = (rw done.us_set (drop-set-lt n us v done.latest v_known)) ∙ p.beyond;
            root_depth = sym (depth_unmoved 0 (λ e. other (sym e))) ∙ p.root_depth;
            left = λ w l h. let q : w ≡ v → ⊥ = λ e. (let same : rank w ≡ rank v = ap rank e in let bad : ⊥ = omega (arith, v_rank) in bad) in subst (MHeld g s w) (unmoved w q) (p.left w l (omega arith));
            turned =
                back_more n ss ts order rank o (Turned g s rank (at us) (λ x. get_or depth x 0)) (Turned g s rank (at us') (λ x. get_or depth' x 0)) (k - 1)
                here (omega (arith, p.place)) (λ w l h _. kept w (omega arith)) (λ w l h. p.turned w l (omega arith));
          }

    -- ---- the root's turn

    module _ (root : v ≡ 0) where
      root_m : MHeld g s v (at us v) → M g s v (at us v)
      root_m (there m) = m
      root_m (none e dead) = absurd (dead (subst (λ (x : ℕ). Path g x s) (sym root) (r.graph.reachable s r.source_known)))

      zero_depth : get_or depth v 0 ≡ 0
      zero_depth = rw root p.root_depth

      root_turned : Turned g s rank (at us) (λ x. get_or depth x 0) v
      root_turned =
          record {
            is_u = at_root root (root_m v_held);
            bound = 1025024000;
            within = m_within r.graph.sized o (root_m v_held);
            bounded = omega (arith, v_rank, p.place, few);
            is_depth =
                rw zero_depth
                (subst (λ (x : ℕ). Depth g x 0) (sym root) (record { reached = (stay, refl); bound = λ q. omega (arith, (acyclic_stays r.graph.acyclic q).0) }));
            shallow = omega (arith, zero_depth, v_rank, p.place, few);
          }

      pub pulled_root : Pulled (k - 1) us depth
      pulled_root =
          record {
            place = omega (arith, p.place);
            us_room = p.us_room;
            depth_room = p.depth_room;
            beyond = p.beyond;
            root_depth = p.root_depth;
            left = λ w l h. p.left w l (omega arith);
            turned =
                back_more n ss ts order rank o (Turned g s rank (at us) (λ x. get_or depth x 0)) (Turned g s rank (at us) (λ x. get_or depth x 0)) (k - 1)
                root_turned (omega (arith, p.place)) (λ w l h _ was. was) (λ w l h. p.turned w l (omega arith));
          }

  -- ---- its end

  module _ (k : ℕ) (none : k ≤ 0) (us : List ℤ) (depth : List ℕ) (p : Pulled k us depth) where
    done : (w : ℕ) → w < n → Turned g s rank (at us) (λ x. get_or depth x 0) w
    done w l = p.turned w l (omega arith)

    pub pulled_latest : LatestFound g s us₀ us
    pulled_latest =
        record {
          steps = record { root = of_root (done 0 (omega (arith, r.source_known))).is_u; others = λ v h other. of_other v other (done v h).is_u };
          within = λ v h. within_wider (omega (arith, (done v h).bounded)) (done v h).within;
          beyond = p.beyond;
        }
      where
        of_root : UAt g s (at us) 0 (at us 0) → M g s 0 (at us 0)
        of_root (at_root root m) = m
        of_root (at_other other a greatest capped) = absurd (other refl)

        of_other : (v : ℕ) → (v ≡ 0 → ⊥) → UAt g s (at us) v (at us v) → UOf g s (at us) v
        of_other v other (at_root root m) = absurd (other root)
        of_other v other (at_other _ a greatest capped) = record { arrival = a; arrival_greatest = greatest; capped = capped }

    pub pulled_depths : DepthsFound g depth
    pulled_depths = record { each = λ v l. (done v l).is_depth }
