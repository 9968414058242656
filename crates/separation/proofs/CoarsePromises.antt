-- What the promise of the coarse form says of its answers.
--     step_first              a step outside is refused with 9, whatever the paths are
--     coarse_answer_unique    two answers to one question are equal
--     coarse_costs            demand 3, second sentence: never below the exact maximum, and at most (q − 1) × (depth of s + depth of t) above it
--     answers_cost            the same of two answers, a coarse one and an exact one
--     coarse_depths_same      both carry the same depths
--     coarse_within           a coarse answer stays within 2,048,043,954 either side of zero
--     coarse_accepted         the coarse form accepts exactly what the exact form accepts, where q is from 1 to 1,000
--     coarse_one              with q = 1 the coarse answer is the exact one, refusals too
-- Assumes nothing.
use mathlib.Core.Path.{◌≡◌}
use mathlib.Core.Logic.{◌↔◌}
use mathlib.Core.List.{[], ◌∷◌}
use Prim.Native.Nat.{ℕ, ◌<◌, ◌≤◌}
use native.Mathlib.Omega.{arith}
use lib.IntN.{ℤ}
use Rattle.integers.specs.Within.{Within}
use Rattle.graphs.specs.Graph.{Graph}
use Rattle.graphs.specs.Limits.{Sized, EventGraph}
use Rattle.verdicts.specs.Verdict.{check, given, passed, FirstOf}
use Rattle.verdicts.proofs.Verdicts.{then_unique, one_verdict, then_more, rest_of, passed_all, none_accepted}
use Rattle.graphs.specs.Refusal.{question_checks, path_checks}
use Rattle.graphs.proofs.Refusals.{question_places, path_places, question_none, path_none}
use Rattle.graphs.proofs.Unique.{depth_unique}
use Rattle.executions.specs.Separation.{Separation}
use Rattle.rounding.specs.Rounding.{Costs}
use Rattle.graphs.proofs.Limits.{sound_of}
use Rattle.rounding.specs.Promise.{StepOutside}
use Rattle.rounding.proofs.Promises.{step_places, step_kept}
use Rattle.rounding.proofs.Costs.{costs_at_most, coarse_size, coarse_unique, step_one}
use Rattle.separation.specs.declared.Answer.{Answer}
use Rattle.separation.specs.Promise.{InputVerdict, PathVerdict, Answered}
use Rattle.separation.specs.Coarse.{CoarseVerdict, CoarseAnswered}
use Rattle.separation.proofs.Promises.{answered_exactly, answers_agree}

-- "1, 2, 3, 4, 9 (coarse form only), 5, 6": of a question that is kept a step outside is refused with 9, whatever the paths are
pub step_first : {g : Graph} {q s t p : ℕ} → Sized 1000000 g → s < g.events → t < g.events → StepOutside q p → CoarseVerdict g q s t 9 p
step_first {g} {q} {s} {t} {p} sized hs ht outside = passed_all (question_checks g s t ⊥) _ 9 p (question_none (λ none. none) sized hs ht) (given outside)

coarse_verdict_unique : {g : Graph} {r s t : ℕ} {i p j q : ℕ} → CoarseVerdict g r s t i p → CoarseVerdict g r s t j q → (i ≡ j) × (p ≡ q)
coarse_verdict_unique {g} {r} {s} {t} {i} {p} {j} {q} v w =
    then_unique (question_checks g s t ⊥) (question_places g s t ⊥) (one_verdict (check 9 (StepOutside r) ∷ path_checks g) (step_places, path_places g)) i p j q v w

-- an event graph with s and t among its events is not refused, where nothing but its paths is looked at after
not_refused : {g : Graph} {s t : ℕ} {Short : Type 0} {Rest : ℕ → ℕ → Type 0} → EventGraph 1000000 g → s < g.events → t < g.events → (Short → ⊥) → (PathVerdict g 0 0 → Rest 0 0) → InputVerdict g s t Short Rest 0 0
not_refused {g} {s} {t} {Short} {Rest} eg hs ht room after =
    passed_all (question_checks g s t Short) Rest 0 0 (question_none room eg.sized hs ht) (after (none_accepted (path_checks g) (path_none eg.acyclic eg.reachable)))

module _ {g : Graph} {q s t : ℕ} where
  pub coarse_answer_unique : {a b : Answer} → CoarseAnswered g q s t a → CoarseAnswered g q s t b → a ≡ b
  coarse_answer_unique pa pb =
      answers_agree (coarse_verdict_unique pa.verdict pb.verdict)
      (λ e f.
      let x = pa.found e in
      let y = pb.found f in
      record {
        separations = coarse_unique x.greatest y.greatest;
        source_depths = depth_unique x.depth_of_source y.depth_of_source;
        target_depths = depth_unique x.depth_of_target y.depth_of_target;
      })
      pa.nothing
      pb.nothing

  -- the depths are those that the answer carries
  pub coarse_costs : {a : Answer} {x : ℤ} → CoarseAnswered g q s t a → a.refusal ≡ 0 → Separation g s t x → Costs q a.source_depth a.target_depth x a.separation
  coarse_costs p e exact =
      let f = p.found e in
      costs_at_most (sound_of f.graph) f.source_known f.target_known f.depth_of_source f.depth_of_target exact f.greatest

  pub answers_cost : {Short : Type 0} {a b : Answer} → Answered g s t Short a → a.refusal ≡ 0 → CoarseAnswered g q s t b → b.refusal ≡ 0 → Costs q b.source_depth b.target_depth a.separation b.separation
  answers_cost pa e pb f = coarse_costs pb f (pa.found e).greatest

  pub coarse_depths_same : {Short : Type 0} {a b : Answer} → Answered g s t Short a → a.refusal ≡ 0 → CoarseAnswered g q s t b → b.refusal ≡ 0 → (a.source_depth ≡ b.source_depth) × (a.target_depth ≡ b.target_depth)
  coarse_depths_same pa e pb f =
      let x = pa.found e in
      let y = pb.found f in
      (depth_unique x.depth_of_source y.depth_of_source, depth_unique x.depth_of_target y.depth_of_target)

  pub coarse_within : {a : Answer} → CoarseAnswered g q s t a → a.refusal ≡ 0 → Within 2048043954 a.separation
  coarse_within p e =
      let f = p.found e in
      coarse_size f.graph f.step_small f.source_known f.target_known f.greatest

  -- where the exact form is lent lists, they are long enough
  pub coarse_accepted : {Short : Type 0} {a b : Answer} → (Short → ⊥) → Answered g s t Short a → CoarseAnswered g q s t b → (b.refusal ≡ 0) ↔ ((a.refusal ≡ 0) × (1 ≤ q) × (q ≤ 1000))
  coarse_accepted {Short} {a} {b} room pa pb = (exact, coarse)
    where
      exact : b.refusal ≡ 0 → (a.refusal ≡ 0) × (1 ≤ q) × (q ≤ 1000)
      exact e =
          let f = pb.found e in
          ((answered_exactly pa (not_refused f.graph f.source_known f.target_known room (λ v. v))).0, f.step_positive, f.step_small)

      coarse : (a.refusal ≡ 0) × (1 ≤ q) × (q ≤ 1000) → b.refusal ≡ 0
      coarse h =
          let f = pa.found h.0 in
          (coarse_verdict_unique pb.verdict (not_refused f.graph f.source_known f.target_known (λ none. none) (passed (step_kept h.1 h.2)))).0

pub coarse_one : {g : Graph} {s t : ℕ} {a : Answer} → CoarseAnswered g 1 s t a → Answered g s t ⊥ a
coarse_one {g} {s} {t} {a} p =
    record {
      verdict =
          then_more (question_checks g s t ⊥) (FirstOf (check 9 (StepOutside 1) ∷ path_checks g)) (PathVerdict g) a.refusal a.place
          (rest_of (check 9 (StepOutside 1) ∷ []) (PathVerdict g) a.refusal a.place (step_kept (omega arith) (omega arith), tt)) p.verdict;
      found = λ e.
          let f = p.found e in
          record {
            graph = f.graph;
            source_known = f.source_known;
            target_known = f.target_known;
            greatest = step_one f.greatest;
            depth_of_source = f.depth_of_source;
            depth_of_target = f.depth_of_target;
          };
      nothing = p.nothing;
    }
