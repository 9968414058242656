-- The walk of `push` through the rules into event v, whose m is y.
--     Pushing … y … e     == the walk stands at e: if it is 1 + i, rule i is next; and the rules into v from e on have been pushed along
--     pushing_begins      at heads[v] none has been
--     RuleHere, rule_here   what is known of rule i: so the code may look it up, and its difference fits
--     pushing_rule        rule i is pushed along: its source takes the lesser
--     pushing_ends        at 0 all have been
-- Assumes nothing.
use mathlib.Core.Path.{◌≡◌, subst}
use mathlib.Core.List.{List}
use Prim.Native.Nat.{ℕ, suc, ◌<◌, ◌≤◌}
use native.Mathlib.Omega.{arith}
use lib.IntN.{ℤ, pos, ◌-ℤ◌}
use lib.ListN.{length, get_or, set, length-set}
use Rattle.integers.specs.Within.{Within}
use Rattle.graphs.specs.Graph.{graph_of}
use Rattle.executions.specs.Steps.{M, Lesser}
use Rattle.analysis.specs.Parts.Chains.{Last}
use Rattle.analysis.specs.Parts.Paths.{MHeld, there, none, MPass, PushReady}
use Rattle.analysis.proofs.MPass.{m_within, v_known, pass_held, pass_walk, pass_rule}

pub record Pushing (n : ℕ) (ss ts : List ℕ) (ds Ds : List ℤ) (s : ℕ) (rank : ℕ → ℕ) (k v : ℕ) (y : ℤ) (m₀ m : List ℤ) (e : ℕ) : Type 0 where
  pub pass : MPass (graph_of n ss ts ds Ds) s rank k e m₀ m
  pub its_m : M (graph_of n ss ts ds Ds) s v y
  pub room : n ≤ length m
  pub within : e ≤ length ts
  pub own : (i : ℕ) → e ≡ suc i → get_or ts i 0 ≡ v

pub record RuleHere (ss : List ℕ) (ds : List ℤ) (m : List ℤ) (y : ℤ) (i : ℕ) : Type 0 where
  pub few_rules : length ss ≤ 4096
  pub in_sources : i < length ss
  pub in_leasts : i < length ds
  pub in_m : get_or ss i 0 < length m
  pub small : get_or ss i 0 < 1024
  pub y_within : Within 1025024000 y
  pub least_within : Within 1001000 (get_or ds i (pos 0))

module _ (n : ℕ) (ss ts : List ℕ) (ds Ds : List ℤ) (heads nexts order : List ℕ) (s k v : ℕ) (m₀ m₁ : List ℤ) (r : PushReady n ss ts ds Ds heads nexts order s k v m₀ m₁) where
  abbrev rank : ℕ → ℕ
  rank = r.ready.arranged.rank

  has_m : M (graph_of n ss ts ds Ds) s v (get_or m₁ v (pos 0))
  has_m = by (pass_held n ss ts ds Ds heads nexts order s r.ready.arranged r.ready.sized k v r.place r.here m₀ m₁ r.pass)
    where
      by : MHeld (graph_of n ss ts ds Ds) s v (get_or m₁ v (pos 0)) → M (graph_of n ss ts ds Ds) s v (get_or m₁ v (pos 0))
      by (there h) = h
      by (none e dead) = absurd (r.some e)

  pub event_known : (v < length m₁) × (v < length heads) × (v < 1024)
  event_known =
      let l : v < n = v_known n ss ts ds Ds heads nexts order s r.ready.arranged r.ready.sized k v r.place r.here in
      (omega (arith, r.ready.room), omega (arith, r.ready.arranged.chains.heads_room), omega (arith, r.ready.arranged.kept.few_events))

  pub pushing_begins : Pushing n ss ts ds Ds s rank k v (get_or m₁ v (pos 0)) m₀ m₁ (get_or heads v 0)
  pushing_begins =
      let last : Last ts v (length ts) (get_or heads v 0) = r.ready.arranged.chains.chained.heads_last v event_known.1 in
      record {
        pass = pass_walk n ss ts ds Ds heads nexts order s r.ready.arranged r.ready.sized k v r.place r.here m₀ m₁ r.pass;
        its_m = has_m;
        room = r.ready.room;
        within = last.within;
        own = last.hit;
      }

  module _ (y : ℤ) (m : List ℤ) (e : ℕ) (p : Pushing n ss ts ds Ds s rank k v y m₀ m e) where
    module _ (i : ℕ) (next : e ≡ suc i) where
      is_rule : i < length ss
      is_rule = omega (arith, p.within, r.ready.arranged.kept.targets_match)

      last : Last ts v i (get_or nexts i 0)
      last =
          subst (λ (x : ℕ). Last ts x i (get_or nexts i 0)) (p.own i next)
          (r.ready.arranged.chains.chained.nexts_last i (omega (arith, p.within)))

      pub rule_here : RuleHere ss ds m y i
      rule_here =
          let u : get_or ss i 0 < n = (r.ready.sized.ends i is_rule).source_known in
          let counts = r.ready.sized.counts in
          record {
            few_rules = counts.few_rules;
            in_sources = is_rule;
            in_leasts = omega (arith, counts.leasts_match, is_rule);
            in_m = omega (arith, p.room);
            small = omega (arith, counts.few_events);
            y_within = m_within r.ready.sized r.ready.arranged.ordered p.its_m;
            least_within = (r.ready.sized.delays i is_rule).least_within;
          }

      pub pushing_rule :
          (a x z z' : ℤ) → a ≡ get_or m (get_or ss i 0) (pos 0) → x ≡ y -ℤ get_or ds i (pos 0) → z' ≡ z → Lesser a x z →
          Pushing n ss ts ds Ds s rank k v y m₀ (set m (get_or ss i 0) z') (get_or nexts i 0)
      pushing_rule a x z z' was is kept lesser =
          record {
            pass =
                pass_rule n ss ts ds Ds heads nexts order s r.ready.arranged r.ready.sized k v r.place r.here m₀ m i y z' is_rule
                (p.own i next) p.its_m (rw kept (rw (was, is) at lesser)) p.room
                (subst (λ (j : ℕ). MPass (graph_of n ss ts ds Ds) s rank k j m₀ m) next p.pass);
            its_m = p.its_m;
            room = rw length-set p.room;
            within = omega (arith, last.within, p.within);
            own = last.hit;
          }

    pub pushing_ends : e ≡ 0 → MPass (graph_of n ss ts ds Ds) s rank k 0 m₀ m
    pushing_ends done = subst (λ (j : ℕ). MPass (graph_of n ss ts ds Ds) s rank k j m₀ m) done p.pass
