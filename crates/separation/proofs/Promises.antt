-- The promises of the public functions fix their results: two results allowed for one input are equal, lists included.
--     answers_agree      two answers that agree in number, place and values are equal
--     answer_unique      two answers to one question
--     answered_exactly   a refusal is given exactly when its rule says: whatever number and place the verdict allows, the answer has them
--     times_unique       what two runs leave in the time list
--     delays_unique      and in the delay list
--     told_by_numbers, result_unique    the numbers tell the result, so two results of one question are equal
--     exact_within, least_of_exchanged, answers_near    the sizes, the least value, and demand 3's first sentence, of answers
--     schedule_unique    all of it: two results of `schedule` are equal
-- Assumes nothing.
use Rattle.std.proofs.Common.{Result, Ok, Err, ap}
use mathlib.Core.Path.{◌≡◌, sym, subst, ◌∙◌}
use mathlib.Core.List.{List}
use Prim.Native.Nat.{ℕ, ◌+◌, ◌*◌}
use native.Mathlib.Decide.{ℕ_discrete}
use lib.IntN.{ℤ, pos, neg_ℤ}
use Rattle.sequences.proofs.Same.{same_places}
use Rattle.graphs.specs.Graph.{Graph, rules}
use Rattle.graphs.proofs.Limits.{sound_of}
use Rattle.graphs.proofs.Unique.{depth_unique}
use Rattle.integers.specs.Within.{Within}
use Rattle.sequences.proofs.Same.{same_places}
use Rattle.executions.specs.Separation.{LeastSeparation, SameRules, Near, DelaysNear}
use Rattle.executions.proofs.Nearness.{maxima_near}
use Rattle.executions.proofs.Sizes.{exact_size}
use Rattle.executions.proofs.Unique.{separation_unique, least_is_exchanged, latest_unique, greatest_delays_unique}
use Rattle.refusals.specs.declared.Refusal.{Refusal}
use Rattle.refusals.proofs.Unique.{same_refusal, some_number}
use Rattle.separation.specs.declared.Separated.{Separated}
use Rattle.separation.specs.declared.Answer.{Answer}
use Rattle.separation.specs.Numbers.{answer_numbers}
use Rattle.separation.specs.Promise.{Verdict, Answered, Nothing, Written}
use Rattle.separation.proofs.Verdicts.{verdict_unique}

-- an answer is its five numbers
same_answer : {a b : Answer} → a.refusal ≡ b.refusal → a.place ≡ b.place → a.separation ≡ b.separation → a.source_depth ≡ b.source_depth → a.target_depth ≡ b.target_depth → a ≡ b
same_answer e f h k l = λ i. record { refusal = e i; place = f i; separation = h i; source_depth = k i; target_depth = l i }

pub record SameValues (a b : Answer) : Type 0 where
  pub separations : a.separation ≡ b.separation
  pub source_depths : a.source_depth ≡ b.source_depth
  pub target_depths : a.target_depth ≡ b.target_depth

pub answered_exactly : {g : Graph} {s t : ℕ} {Short : Type 0} {a : Answer} → Answered g s t Short a → {j p : ℕ} → Verdict g s t Short j p → (a.refusal ≡ j) × (a.place ≡ p)
answered_exactly x v = verdict_unique x.verdict v

-- two answers with one number and place, whose values agree where there are values, are equal
pub answers_agree : {a b : Answer} → (a.refusal ≡ b.refusal) × (a.place ≡ b.place) → (a.refusal ≡ 0 → b.refusal ≡ 0 → SameValues a b) → ((a.refusal ≡ 0 → ⊥) → Nothing a) → ((b.refusal ≡ 0 → ⊥) → Nothing b) → a ≡ b
answers_agree {a} {b} same found nothing-a nothing-b = go (ℕ_discrete a.refusal 0)
  where
    alike : SameValues a b → a ≡ b
    alike v = same_answer same.0 same.1 v.separations v.source_depths v.target_depths

    both_nothing : Nothing a → Nothing b → SameValues a b
    both_nothing x y =
        record {
          separations = x.no_separation ∙ sym y.no_separation;
          source_depths = x.no_source_depth ∙ sym y.no_source_depth;
          target_depths = x.no_target_depth ∙ sym y.no_target_depth;
        }

    go : Dec (a.refusal ≡ 0) → a ≡ b
    go (yes e) = alike (found e (sym same.0 ∙ e))
    go (no n) = alike (both_nothing (nothing-a n) (nothing-b (λ e. n (same.0 ∙ e))))

pub answer_unique : {g : Graph} {s t : ℕ} {Short : Type 0} {a b : Answer} → Answered g s t Short a → Answered g s t Short b → a ≡ b
answer_unique pa pb =
    answers_agree (verdict_unique pa.verdict pb.verdict)
    (λ e f.
    let x = pa.found e in
    let y = pb.found f in
    record {
      separations = separation_unique x.greatest y.greatest;
      source_depths = depth_unique x.depth_of_source y.depth_of_source;
      target_depths = depth_unique x.depth_of_target y.depth_of_target;
    })
    pa.nothing
    pb.nothing

module _ {g : Graph} {s t : ℕ} {Short : Type 0} {a : Answer} (p : Answered g s t Short a) {times₀ delays₀ times delays times' delays' : List ℤ} (w : Written g s a times₀ delays₀ times delays) (w' : Written g s a times₀ delays₀ times' delays') where
  pub times_unique : times ≡ times'
  times_unique = go (ℕ_discrete a.refusal 0)
    where
      go : Dec (a.refusal ≡ 0) → times ≡ times'
      go (yes e) =
          same_places g.events times times' (pos 0) (w.times_length ∙ sym w'.times_length)
          (latest_unique (sound_of (p.found e).graph) (p.found e).source_known (w.schedule e).times (w'.schedule e).times)
          (w.times_beyond e ∙ sym (w'.times_beyond e))
      go (no n) = w.times_kept n ∙ sym (w'.times_kept n)

  pub delays_unique : delays ≡ delays'
  delays_unique = go (ℕ_discrete a.refusal 0)
    where
      go : Dec (a.refusal ≡ 0) → delays ≡ delays'
      go (yes e) =
          same_places (rules g) delays delays' (pos 0) (w.delays_length ∙ sym w'.delays_length)
          (greatest_delays_unique (sound_of (p.found e).graph) (p.found e).source_known (w.schedule e).times (w'.schedule e).times (w.schedule e).delays (w'.schedule e).delays)
          (w.delays_beyond e ∙ sym (w'.delays_beyond e))
      go (no n) = w.delays_kept n ∙ sym (w'.delays_kept n)

pub schedule_unique : {g : Graph} {s t : ℕ} {Short : Type 0} {a b : Answer} {times₀ delays₀ times delays times' delays' : List ℤ} →
    Answered g s t Short a → Written g s a times₀ delays₀ times delays →
    Answered g s t Short b → Written g s b times₀ delays₀ times' delays' →
    (a ≡ b) × (times ≡ times') × (delays ≡ delays')
schedule_unique {g} {s} {times₀ = times₀} {delays₀ = delays₀} {times' = times'} {delays' = delays'} pa wa pb wb =
    let same = answer_unique pa pb in
    let w = subst (λ (x : Answer). Written g s x times₀ delays₀ times' delays') (sym same) wb in
    (same, times_unique pa wa w, delays_unique pa wa w)

-- ---- results

-- the numbers of a result tell the result
pub told_by_numbers : (x y : Result Separated Refusal) → answer_numbers x ≡ answer_numbers y → x ≡ y
told_by_numbers (Ok x) (Ok y) e = ap Ok (λ i. record { separation = (e i).separation; source_depth = (e i).source_depth; target_depth = (e i).target_depth })
told_by_numbers (Ok x) (Err r) e = absurd (some_number r (λ i. (sym e i).refusal))
told_by_numbers (Err r) (Ok y) e = absurd (some_number r (λ i. (e i).refusal))
told_by_numbers (Err r) (Err q) e = ap Err (same_refusal r q (λ i. (e i).refusal) (λ i. (e i).place))

pub result_unique : {g : Graph} {s t : ℕ} {Short : Type 0} (x y : Result Separated Refusal) → Answered g s t Short (answer_numbers x) → Answered g s t Short (answer_numbers y) → x ≡ y
result_unique x y p q = told_by_numbers x y (answer_unique p q)

-- ---- what the promises say of answers

module _ {g : Graph} {s t : ℕ} {Short : Type 0} {a : Answer} (pa : Answered g s t Short a) (accepted : a.refusal ≡ 0) where
  -- "An exact answer lies between −2,046,000,000 and 2,046,000,000"
  pub exact_within : Within 2046000000 a.separation
  exact_within =
      let f = pa.found accepted in
      exact_size f.graph f.source_known f.target_known f.greatest

  -- "The least value is minus the answer for s and t exchanged"
  pub least_of_exchanged : LeastSeparation g t s (neg_ℤ a.separation)
  least_of_exchanged = least_is_exchanged (pa.found accepted).greatest

  -- demand 3, first sentence, of two answers
  pub answers_near : {h : Graph} {Short' : Type 0} {b : Answer} → Answered h s t Short' b → b.refusal ≡ 0 → SameRules g h → (e : ℕ) → DelaysNear e g h → Near (e * (a.source_depth + a.target_depth)) a.separation b.separation
  answers_near pb accepted' same e near =
      let f = pa.found accepted in
      let h = pb.found accepted' in
      maxima_near (sound_of f.graph) (sound_of h.graph) same e near f.source_known f.target_known f.depth_of_source f.depth_of_target f.greatest h.greatest
