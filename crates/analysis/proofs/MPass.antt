-- The walk that finds m, from the sinks on: the targets of an event's rules come before the event.
--     path_short, m_within    a path has at most as many rules as there are events, so m is small
--     least_start, least_other    before the walk: m(s) is 0, and no other event has one
--     least_same              only the rules out of the event matter
--     least_held              once every rule out of v is passed, v has its m
--     least_push              rule i is passed: the lesser of what its source had, and m of its target less the least delay
--     least_over              rules whose target has no path to s change nothing
--     absent_dead             where absent stands there is no path
--     pass_begin, pass_walk, pass_rule, pass_done, pass_over, pass_end    the same of all events, turn by turn
-- Why least_push holds. A path from rule i's source u to s whose first rule is passed has passed it before, or begins with rule i and goes on as a path from
-- i's target. So the least −(sum of d) over them is the lesser of the least over the former, which u had, and m(target) − d. Paths of other events don't begin
-- with rule i. Nothing is said of what the list holds for the target: so it doesn't matter that the list changes under the walk.
-- Assumes nothing.
use mathlib.Core.Path.{◌≡◌, refl, sym, ap, subst, ◌∙◌}
use mathlib.Core.Logic.{◌⊎◌, ⊎_elim, inl, inr}
use mathlib.Core.List.{List}
use Prim.Native.Nat.{ℕ, suc, ◌+◌, ◌-◌, ◌*◌, ◌<◌, ◌≤◌}
use native.Mathlib.Decide.{ℕ_discrete, dec_le, dec_lt}
use native.Mathlib.Omega.{arith}
use lib.IntN.{ℤ, pos, neg_ℤ, ◌+ℤ◌, ◌-ℤ◌}
use lib.Signed.{◌≤ℤ◌}
use lib.ListN.{length, get_or, set, drop, length-set}
use lib.Seq.{get_or-set_same, get_or-set_other, drop-set-lt}
use Rattle.integers.specs.Within.{Within}
use Rattle.integers.proofs.Integer.{linear, sum, difference, negation}
use Rattle.integers.proofs.Word.{within_negation, within_wider}
use Rattle.graphs.specs.Graph.{Graph, graph_of, rules, source, target, least}
use Rattle.graphs.specs.Path.{Path, stay, step, steps, least_sum, HasCycle}
use Rattle.graphs.specs.Limits.{Sized}
use Rattle.graphs.proofs.Paths.{start_at, path_rank, ranked_acyclic, acyclic_stays, least_sum_within}
use Rattle.executions.specs.Steps.{M, Lesser}
use Rattle.analysis.specs.Parts.Chains.{Last}
use Rattle.analysis.specs.Parts.Order.{Order}
use Rattle.analysis.specs.Parts.Reach.{Arranged}
use Rattle.analysis.specs.Parts.Paths.{absent, Via, LeastBy, MHeld, there, none, Pushed, MPass, MAll}

-- ---- ranks from the sinks, as ranks from the root

module _ {b : ℕ} {g : Graph} {order : List ℕ} {rank : ℕ → ℕ} (sized : Sized b g) (o : Order g.events g.sources g.targets order rank) where
  higher : (i : ℕ) → i < rules g → g.events - rank (source g i) < g.events - rank (target g i)
  higher i l = omega (arith, o.targets_first i l, o.rank_below (target g i) (sized.ends i l).target_known)

  pub order_acyclic : HasCycle g → ⊥
  order_acyclic = ranked_acyclic (λ v. g.events - rank v) higher

  path_short : {u v : ℕ} (p : Path g u v) → steps p ≤ 1024
  path_short {u} {v} p = omega (arith, path_rank (λ w. g.events - rank w) higher p, sized.counts.few_events)

module _ {g : Graph} {order : List ℕ} {rank : ℕ → ℕ} (sized : Sized 1001000 g) (o : Order g.events g.sources g.targets order rank) where
  sum_within : {u v : ℕ} (p : Path g u v) → Within 1025024000 (neg_ℤ (least_sum p))
  sum_within p =
      let within : Within (1001000 * steps p) (least_sum p) = least_sum_within (λ i l. (sized.delays i l).least_within) p in
      within_negation (within_wider (omega (arith, path_short sized o p)) within)

  pub m_within : {s w : ℕ} {x : ℤ} → M g s w x → Within 1025024000 x
  m_within h = subst (Within 1025024000) h.reached.1 (sum_within h.reached.0)

-- ---- the first rule of a path

via_all : {g : Graph} (Q : ℕ → Type 0) {u w : ℕ} → ((i : ℕ) → i < rules g → source g i ≡ u → Q i) → (p : Path g u w) → Via Q p
via_all Q all stay = tt
via_all Q all (step i h e f p) = all i h e

via_same : {g : Graph} (Q R : ℕ → Type 0) {u w : ℕ} → ((i : ℕ) → i < rules g → source g i ≡ u → Q i → R i) → (p : Path g u w) → Via Q p → Via R p
via_same Q R to stay v = tt
via_same Q R to (step i h e f p) v = to i h e v

via_none : {g : Graph} (Q : ℕ → Type 0) {u w : ℕ} → ((i : ℕ) → i < rules g → Q i → ⊥) → (u ≡ w → ⊥) → (p : Path g u w) → Via Q p → ⊥
via_none Q never other stay v = other refl
via_none Q never other (step i h e f p) v = never i h v

-- a path that begins with a rule j of which Also holds
abbrev Begins : (g : Graph) (Also : ℕ → Type 0) {u w : ℕ} → Path g u w → Type 0
Begins g Also {w = w} p = (j : ℕ) × Also j × (q : Path g (target g j) w) × (least_sum p ≡ least g j +ℤ least_sum q)

via_split :
    {g : Graph} (Q R Also : ℕ → Type 0) {u w : ℕ} → ((j : ℕ) → j < rules g → R j → Q j ⊎ Also j) →
    (p : Path g u w) → Via R p → Via Q p ⊎ Begins g Also p
via_split Q R Also grows stay v = inl tt
via_split {g} Q R Also grows (step j h e f p) v =
    ⊎_elim inl
    (λ also.
    let (q, its-steps, its-sum) = start_at f p in
    inr (j, also, q, omega (linear, sum (least g j) (least_sum p), sum (least g j) (least_sum q))))
    (grows j h v)

-- ---- one event

module _ {g : Graph} {s : ℕ} where
  least_start : {Q : ℕ → Type 0} → (HasCycle g → ⊥) → LeastBy g s Q s (pos 0)
  least_start acyclic = record { reached = inr (stay, tt, refl); bound = λ p _. omega (linear, negation (least_sum p), (acyclic_stays acyclic p).1) }

  least_other : {Q : ℕ → Type 0} {v : ℕ} → ((i : ℕ) → i < rules g → Q i → ⊥) → (v ≡ s → ⊥) → LeastBy g s Q v absent
  least_other {Q} never other = record { reached = inl refl; bound = λ p via. absurd (via_none Q never other p via) }

  least_same :
      {Q R : ℕ → Type 0} {v : ℕ} {x : ℤ} → ((i : ℕ) → i < rules g → source g i ≡ v → Q i → R i) → ((i : ℕ) → i < rules g → source g i ≡ v → R i → Q i) →
      LeastBy g s Q v x → LeastBy g s R v x
  least_same {Q} {R} to from h =
      record {
        reached = ⊎_elim inl (λ w. let (p, via, e) = w in inr (p, via_same Q R to p via, e)) h.reached;
        bound = λ p via. h.bound p (via_same R Q from p via);
      }

  least_held :
      {order : List ℕ} {rank : ℕ → ℕ} {Q : ℕ → Type 0} {v : ℕ} {x : ℤ} → Sized 1001000 g → Order g.events g.sources g.targets order rank →
      ((i : ℕ) → i < rules g → source g i ≡ v → Q i) → LeastBy g s Q v x → MHeld g s v x
  least_held {Q = Q} {v = v} {x = x} sized o all h =
      ⊎_elim
      (λ e. none e (λ p. let low : x ≤ℤ neg_ℤ (least_sum p) = h.bound p (via_all Q all p) in let small = (sum_within sized o p).below in let bad : ⊥ = omega linear in bad))
      (λ w. let (p, via, e) = w in there (record { reached = (p, e); bound = λ q. h.bound q (via_all Q all q) }))
      h.reached

  least_push :
      {Q R : ℕ → Type 0} {u i : ℕ} {x y z : ℤ} → i < rules g → source g i ≡ u →
      ((j : ℕ) → Q j → R j) → R i → ((j : ℕ) → j < rules g → R j → Q j ⊎ (j ≡ i)) →
      M g s (target g i) y → Lesser x (y -ℤ least g i) z → LeastBy g s Q u x → LeastBy g s R u z
  least_push {Q} {R} {u} {i} {x} {y} {z} l out to here grows m lesser h = record { reached = reached lesser.one; bound = λ p via. bound p (via_split Q R (λ j. j ≡ i) grows p via) }
    where
      reached : (z ≡ x) ⊎ (z ≡ y -ℤ least g i) → (z ≡ absent) ⊎ ((p : Path g u s) × Via R p × (neg_ℤ (least_sum p) ≡ z))
      reached (inl e) = ⊎_elim (λ a. inl (e ∙ a)) (λ w. let (p, via, q) = w in inr (p, via_same Q R (λ j _ _. to j) p via, q ∙ sym e)) h.reached
      reached (inr e) =
          let (q, ends) = m.reached in
          inr (
            step i l out refl q,
            here,
            omega (linear, sum (least g i) (least_sum q), negation (least g i +ℤ least_sum q), negation (least_sum q), difference y (least g i)),
          )

      bound : (p : Path g u s) → Via Q p ⊎ Begins g (λ j. j ≡ i) p → z ≤ℤ neg_ℤ (least_sum p)
      bound p (inl via) = let low : x ≤ℤ neg_ℤ (least_sum p) = h.bound p via in let left : z ≤ℤ x = lesser.left in omega linear
      bound p (inr (j, same, q, its-sum)) =
          let (r, its) =
          subst (λ (k : ℕ). (r : Path g (target g k) s) × (least_sum p ≡ least g k +ℤ least_sum r)) same (q, its-sum) in
          let low : y ≤ℤ neg_ℤ (least_sum r) = m.bound r in
          let right : z ≤ℤ (y -ℤ least g i) = lesser.right in
          omega (linear, sum (least g i) (least_sum r), negation (least_sum p), negation (least_sum r), difference y (least g i))

  least_over :
      {Q R : ℕ → Type 0} {u v : ℕ} {x : ℤ} → ((j : ℕ) → Q j → R j) → ((j : ℕ) → j < rules g → R j → Q j ⊎ (target g j ≡ v)) → (Path g v s → ⊥) →
      LeastBy g s Q u x → LeastBy g s R u x
  least_over {Q} {R} {u} {v} {x} to grows dead h =
      record {
        reached = ⊎_elim inl (λ w. let (p, via, e) = w in inr (p, via_same Q R (λ j _ _. to j) p via, e)) h.reached;
        bound = λ p via. bound p (via_split Q R (λ j. target g j ≡ v) grows p via);
      }
    where
      bound : (p : Path g u s) → Via Q p ⊎ Begins g (λ j. target g j ≡ v) p → x ≤ℤ neg_ℤ (least_sum p)
      bound p (inl via) = h.bound p via
      bound p (inr (j, same, q, its-sum)) = absurd (dead (subst (λ (w : ℕ). Path g w s) same q))

-- ---- all events

module _ (n : ℕ) (ss ts : List ℕ) (ds Ds : List ℤ) (heads nexts order : List ℕ) (s : ℕ) (a : Arranged n ss ts heads nexts order) (sized : Sized 1001000 (graph_of n ss ts ds Ds)) where
  abbrev g : Graph
  g = graph_of n ss ts ds Ds

  abbrev rank : ℕ → ℕ
  rank = a.rank

  -- the list after `clear` and with 0 for s
  pub pass_begin :
      (m₀ m : List ℤ) → s < n → n ≤ length m → ((v : ℕ) → v < n → get_or m v (pos 0) ≡ absent) → drop n m ≡ drop n m₀ → length m ≡ length m₀ →
      MPass g s rank 0 5000 m₀ (set m s (pos 0))
  pass_begin m₀ m known room cleared beyond same =
      record {
        each = λ v l. each v l (ℕ_discrete v s);
        beyond = drop-set-lt n m s (pos 0) known ∙ beyond;
        same_length = length-set m s (pos 0) ∙ same;
      }
    where
      each : (v : ℕ) → v < n → Dec (v ≡ s) → LeastBy g s (Pushed g rank 0 5000) v (get_or (set m s (pos 0)) v (pos 0))
      each v l (yes e) = rw (e, get_or-set_same m s (pos 0) (pos 0) (omega arith)) (least_start (order_acyclic sized a.ordered))
      each v l (no e) =
          rw (get_or-set_other m s v (pos 0) (pos 0) e, cleared v l)
          (least_other (λ i h q. let bad : ⊥ = omega (arith, a.kept.few_rules) in bad) e)

  -- the turn of the event at place k
  module _ (k v : ℕ) (place : k < n) (here : get_or order k 0 ≡ v) where
    rank_here : rank v ≡ k
    rank_here = subst (λ (w : ℕ). rank w ≡ k) here (a.ordered.rank_order k place)

    pub v_known : v < n
    v_known = subst (λ (w : ℕ). w < n) here (a.ordered.order_below k place)

    -- a rule whose target has rank k leads into v
    rank_into : (j : ℕ) → j < length ss → rank (target g j) ≡ k → target g j ≡ v
    rank_into j l e =
        let known : target g j < n = (sized.ends j l).target_known in
        sym (subst (λ (x : ℕ). get_or order x 0 ≡ target g j) e (a.ordered.order_rank (target g j) known)) ∙ here

    pub pass_held : (m₀ m : List ℤ) → MPass g s rank k 5000 m₀ m → MHeld g s v (get_or m v (pos 0))
    pass_held m₀ m p =
        least_held sized a.ordered (λ i l out. omega (arith, a.ordered.targets_first i l, ap rank out, rank_here)) (p.each v v_known)

    pub pass_walk : (m₀ m : List ℤ) → MPass g s rank k 5000 m₀ m → MPass g s rank k (get_or heads v 0) m₀ m
    pass_walk m₀ m p =
        let last : Last ts v (length ts) (get_or heads v 0) = a.chains.chained.heads_last v (omega (arith, a.chains.heads_room, v_known)) in
        record {
          each = λ w l. least_same (λ i h _ q. omega (arith, last.within, a.kept.few_rules, a.kept.targets_match)) (λ i h _ q. from last i h q (dec_le (rank (target g i) * 5000 + 5000) (k * 5000 + i))) (p.each w l);
          beyond = p.beyond;
          same_length = p.same_length;
        }
      where
        from :
            Last ts v (length ts) (get_or heads v 0) → (i : ℕ) → i < length ss → Pushed g rank k (get_or heads v 0) i →
            Dec (Pushed g rank k 5000 i) → Pushed g rank k 5000 i
        from last i h q (yes e) = e
        from last i h q (no e) =
            let same : rank (target g i) ≡ k = omega (arith, a.kept.few_rules) in
            absurd (last.none i (omega arith) (omega (arith, a.kept.targets_match)) (rank_into i h same))

    pub pass_rule :
        (m₀ m : List ℤ) (i : ℕ) (y z : ℤ) → i < length ss → target g i ≡ v → M g s v y →
        Lesser (get_or m (source g i) (pos 0)) (y -ℤ least g i) z → n ≤ length m →
        MPass g s rank k (suc i) m₀ m → MPass g s rank k (get_or nexts i 0) m₀ (set m (source g i) z)
    pass_rule m₀ m i y z l to held lesser room p =
        record {
          each = λ w h. each w h (ℕ_discrete w (source g i));
          beyond = drop-set-lt n m (source g i) z u_known ∙ p.beyond;
          same_length = length-set m (source g i) z ∙ p.same_length;
        }
      where
        u_known : source g i < n
        u_known = (sized.ends i l).source_known

        last : Last ts v i (get_or nexts i 0)
        last = subst (λ (x : ℕ). Last ts x i (get_or nexts i 0)) to (a.chains.chained.nexts_last i (omega (arith, a.kept.targets_match)))

        more : (j : ℕ) → Pushed g rank k (suc i) j → Pushed g rank k (get_or nexts i 0) j
        more j q = omega (arith, last.within)

        only : (j : ℕ) → j < length ss → Pushed g rank k (get_or nexts i 0) j → Pushed g rank k (suc i) j ⊎ (j ≡ i)
        only j h q = by (dec_le (rank (target g j) * 5000 + suc i) (k * 5000 + j)) (dec_lt j i)
          where
            by : Dec (Pushed g rank k (suc i) j) → Dec (j < i) → Pushed g rank k (suc i) j ⊎ (j ≡ i)
            by (yes e) d = inl e
            by (no e) (yes d) =
                let same : rank (target g j) ≡ k = omega (arith, a.kept.few_rules) in
                absurd (last.none j (omega arith) d (rank_into j h same))
            by (no e) (no d) = inr (let same : j ≡ i = omega (arith, a.kept.few_rules) in same)

        now_pushed : Pushed g rank k (get_or nexts i 0) i
        now_pushed = omega (arith, ap rank to, rank_here, last.within)

        each : (w : ℕ) → w < n → Dec (w ≡ source g i) → LeastBy g s (Pushed g rank k (get_or nexts i 0)) w (get_or (set m (source g i) z) w (pos 0))
        each w h (yes e) =
            rw (e, get_or-set_same m (source g i) z (pos 0) (omega (arith, u_known)))
            (least_push l refl more now_pushed only (subst (λ (x : ℕ). M g s x y) (sym to) held) lesser (p.each (source g i) u_known))
        each w h (no e) =
            rw (get_or-set_other m (source g i) w z (pos 0) e)
            (least_same (λ j _ _. more j) (λ j b out q. ⊎_elim (λ x. x) (λ same. absurd (e (sym out ∙ ap (source g) same))) (only j b q)) (p.each w h))

    pub pass_done : (m₀ m : List ℤ) → MPass g s rank k 0 m₀ m → MPass g s rank (k + 1) 5000 m₀ m
    pass_done m₀ m p =
        record {
          each = λ w l. least_same (λ i h _ q. omega arith) (λ i h _ q. omega arith) (p.each w l);
          beyond = p.beyond;
          same_length = p.same_length;
        }

    pub pass_over : (m₀ m : List ℤ) → (Path g v s → ⊥) → MPass g s rank k 5000 m₀ m → MPass g s rank (k + 1) 5000 m₀ m
    pass_over m₀ m dead p =
        record {
          each = λ w l. least_over (λ j q. omega arith) (λ j h q. by j h q (dec_le (rank (target g j) * 5000 + 5000) (k * 5000 + j))) dead (p.each w l);
          beyond = p.beyond;
          same_length = p.same_length;
        }
      where
        by : (j : ℕ) → j < length ss → Pushed g rank (k + 1) 5000 j → Dec (Pushed g rank k 5000 j) → Pushed g rank k 5000 j ⊎ (target g j ≡ v)
        by j h q (yes e) = inl e
        by j h q (no e) = inr (rank_into j h (let same : rank (target g j) ≡ k = omega (arith, a.kept.few_rules) in same))

  pub pass_end : (m₀ m : List ℤ) (k : ℕ) → n ≤ k → MPass g s rank k 5000 m₀ m → MAll g s m₀ m
  pass_end m₀ m k all p =
      record {
        each = λ v l. least_held sized a.ordered (λ i h out. omega (arith, a.ordered.targets_first i h, ap rank out, a.ordered.rank_below v l)) (p.each v l);
        beyond = p.beyond;
        same_length = p.same_length;
      }

-- where the number for "none" stands there is none: m itself is less
pub absent_dead :
    {g : Graph} {order : List ℕ} {rank : ℕ → ℕ} {s v : ℕ} {x : ℤ} → Sized 1001000 g → Order g.events g.sources g.targets order rank →
    x ≡ absent → MHeld g s v x → Path g v s → ⊥
absent_dead sized o e (there m) = absurd (let small = (m_within sized o m).below in let bad : ⊥ = omega linear in bad)
absent_dead sized o e (none _ dead) = dead
