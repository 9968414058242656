-- The promises under hard deadlines fix their results, and what they say of answers.
--     hard_answered_exactly   a refusal is given exactly when its rule says
--     hard_answer_unique      two answers to one question are equal
--     hard_schedule_unique    two results of `hard_schedule` are equal, lists included
--     hard_numbers_unique     what the numbers of a result may be is one
--     hard_told_by_numbers    and they tell the result
--     hard_result_unique, hard_schedule_result_unique    so two results of one question are equal, lists included
--     refused_exactly         10 is given, place 0, exactly where the analysis refuses nothing and no times meet all rules
--     ends_ordered            the least is never above the most
--     within_ordinary         the most is never above the ordinary maximum, and the least never below the ordinary least
--     hard_answers_near, hard_leasts_near    "the maxima differ by at most e × (n − 1)", and the least ones
-- Assumes nothing.
use Rattle.std.proofs.Common.{Result, Ok, Err, ap}
use mathlib.Core.Path.{◌≡◌, sym, subst, ◌∙◌}
use mathlib.Core.Logic.{◌↔◌}
use mathlib.Core.List.{List}
use Prim.Native.Nat.{ℕ, ◌<◌}
use native.Mathlib.Decide.{ℕ_discrete}
use native.Mathlib.Omega.{arith}
use lib.IntN.{ℤ, pos}
use lib.Signed.{◌≤ℤ◌}
use Rattle.integers.proofs.Integer.{linear}
use Rattle.sequences.proofs.Same.{same_places}
use Rattle.graphs.specs.Graph.{Graph, rules}
use Rattle.graphs.specs.Limits.{EventGraph}
use Rattle.graphs.proofs.Limits.{sound_of}
use Rattle.graphs.proofs.Unique.{depth_unique}
use Rattle.executions.specs.Separation.{Separation, LeastSeparation, SameRules, Near, DelaysNear}
use Rattle.hardtimes.specs.HardTimes.{NoHardTimes, hard_limit}
use Rattle.hardtimes.proofs.Rules.{hard_not_above, delays_of, hard_executes}
use Rattle.hardtimes.proofs.Nearness.{hard_near, hard_least_near}
use Rattle.hardtimes.proofs.Unique.{hard_separation_unique, least_hard_unique, least_not_above, hard_times_unique, hard_delays_unique}
use Rattle.refusals.specs.declared.Refusal.{Refusal}
use Rattle.refusals.proofs.Unique.{same_refusal, some_number}
use Rattle.deadlines.specs.declared.HardSeparated.{HardSeparated}
use Rattle.deadlines.specs.declared.HardAnswer.{HardAnswer}
use Rattle.deadlines.specs.Numbers.{hard_numbers}
use Rattle.deadlines.specs.Promise.{HardVerdict, HardNothing, HardAnswered, HardWritten}
use Rattle.deadlines.proofs.Verdicts.{hard_verdict_unique, refused_10, accepted_0}

pub hard_answered_exactly : {g : Graph} {s t : ℕ} {Short : Type 0} {a : HardAnswer} → HardAnswered g s t Short a → {j p : ℕ} → HardVerdict g s t Short j p → (a.refusal ≡ j) × (a.place ≡ p)
hard_answered_exactly x v = hard_verdict_unique x.verdict v

-- an answer is its six numbers
record SameValues (a b : HardAnswer) : Type 0 where
  leasts : a.least ≡ b.least
  mosts : a.most ≡ b.most
  source_depths : a.source_depth ≡ b.source_depth
  target_depths : a.target_depth ≡ b.target_depth

same_answer : {a b : HardAnswer} → (a.refusal ≡ b.refusal) × (a.place ≡ b.place) → SameValues a b → a ≡ b
same_answer (e, f) v = λ i. record { refusal = e i; place = f i; least = v.leasts i; most = v.mosts i; source_depth = v.source_depths i; target_depth = v.target_depths i }

both_nothing : {a b : HardAnswer} → HardNothing a → HardNothing b → SameValues a b
both_nothing x y =
    record {
      leasts = x.no_least ∙ sym y.no_least;
      mosts = x.no_most ∙ sym y.no_most;
      source_depths = x.no_source_depth ∙ sym y.no_source_depth;
      target_depths = x.no_target_depth ∙ sym y.no_target_depth;
    }

pub hard_answer_unique : {g : Graph} {s t : ℕ} {Short : Type 0} {a b : HardAnswer} → HardAnswered g s t Short a → HardAnswered g s t Short b → a ≡ b
hard_answer_unique {a = a} {b = b} pa pb = same_answer same (values (ℕ_discrete a.refusal 0))
  where
    same : (a.refusal ≡ b.refusal) × (a.place ≡ b.place)
    same = hard_verdict_unique pa.verdict pb.verdict

    values : Dec (a.refusal ≡ 0) → SameValues a b
    values (yes e) =
        let x = pa.found e in
        let y = pb.found (sym same.0 ∙ e) in
        record {
          leasts = least_hard_unique x.lowest y.lowest;
          mosts = hard_separation_unique x.greatest y.greatest;
          source_depths = depth_unique x.depth_of_source y.depth_of_source;
          target_depths = depth_unique x.depth_of_target y.depth_of_target;
        }
    values (no n) = both_nothing (pa.nothing n) (pb.nothing (λ e. n (same.0 ∙ e)))

module _ {g : Graph} {s t : ℕ} {Short : Type 0} {a : HardAnswer} (p : HardAnswered g s t Short a) {times₀ delays₀ times delays times' delays' : List ℤ} (w : HardWritten g s a times₀ delays₀ times delays) (w' : HardWritten g s a times₀ delays₀ times' delays') where
  times_unique : times ≡ times'
  times_unique = go (ℕ_discrete a.refusal 0)
    where
      go : Dec (a.refusal ≡ 0) → times ≡ times'
      go (yes e) =
          same_places g.events times times' (pos 0) (w.times_length ∙ sym w'.times_length)
          (hard_times_unique (sound_of (p.found e).graph) (w.schedule e) (w'.schedule e))
          (w.times_beyond e ∙ sym (w'.times_beyond e))
      go (no n) = w.times_kept n ∙ sym (w'.times_kept n)

  delays_unique : delays ≡ delays'
  delays_unique = go (ℕ_discrete a.refusal 0)
    where
      go : Dec (a.refusal ≡ 0) → delays ≡ delays'
      go (yes e) =
          same_places (rules g) delays delays' (pos 0) (w.delays_length ∙ sym w'.delays_length)
          (hard_delays_unique (sound_of (p.found e).graph) (w.schedule e) (w'.schedule e))
          (w.delays_beyond e ∙ sym (w'.delays_beyond e))
      go (no n) = w.delays_kept n ∙ sym (w'.delays_kept n)

pub hard_schedule_unique : {g : Graph} {s t : ℕ} {Short : Type 0} {a b : HardAnswer} {times₀ delays₀ times delays times' delays' : List ℤ} →
    HardAnswered g s t Short a → HardWritten g s a times₀ delays₀ times delays →
    HardAnswered g s t Short b → HardWritten g s b times₀ delays₀ times' delays' →
    (a ≡ b) × (times ≡ times') × (delays ≡ delays')
hard_schedule_unique {g} {s} {times₀ = times₀} {delays₀ = delays₀} {times' = times'} {delays' = delays'} pa wa pb wb =
    let same = hard_answer_unique pa pb in
    let w = subst (λ (x : HardAnswer). HardWritten g s x times₀ delays₀ times' delays') (sym same) wb in
    (same, times_unique pa wa w, delays_unique pa wa w)

-- ---- results

pub hard_numbers_unique : (x : Result HardSeparated Refusal) {a b : HardAnswer} → a ≡ hard_numbers x → b ≡ hard_numbers x → a ≡ b
hard_numbers_unique x e f = e ∙ sym f

-- the numbers of a result tell the result
pub hard_told_by_numbers : (x y : Result HardSeparated Refusal) → hard_numbers x ≡ hard_numbers y → x ≡ y
hard_told_by_numbers (Ok x) (Ok y) e =
    ap Ok (λ i. record { least = (e i).least; most = (e i).most; source_depth = (e i).source_depth; target_depth = (e i).target_depth })
hard_told_by_numbers (Ok x) (Err r) e = absurd (some_number r (λ i. (sym e i).refusal))
hard_told_by_numbers (Err r) (Ok y) e = absurd (some_number r (λ i. (e i).refusal))
hard_told_by_numbers (Err r) (Err q) e = ap Err (same_refusal r q (λ i. (e i).refusal) (λ i. (e i).place))

pub hard_result_unique : {g : Graph} {s t : ℕ} {Short : Type 0} (x y : Result HardSeparated Refusal) →
    HardAnswered g s t Short (hard_numbers x) →
    HardAnswered g s t Short (hard_numbers y) →
    x ≡ y
hard_result_unique x y p q = hard_told_by_numbers x y (hard_answer_unique p q)

pub hard_schedule_result_unique : {g : Graph} {s t : ℕ} {Short : Type 0} (x y : Result HardSeparated Refusal) {times₀ delays₀ times delays times' delays' : List ℤ} →
    HardAnswered g s t Short (hard_numbers x) → HardWritten g s (hard_numbers x) times₀ delays₀ times delays →
    HardAnswered g s t Short (hard_numbers y) → HardWritten g s (hard_numbers y) times₀ delays₀ times' delays' →
    (x ≡ y) × (times ≡ times') × (delays ≡ delays')
hard_schedule_result_unique x y p w q v = let same = hard_schedule_unique p w q v in (hard_told_by_numbers x y same.0, same.1, same.2)

-- ---- what the promises say of answers

-- "10, place 0, exactly if no times meet all rules"
pub refused_exactly : {g : Graph} {s t : ℕ} {a : HardAnswer} → EventGraph 1000000 g → s < g.events → t < g.events → HardAnswered g s t ⊥ a → NoHardTimes g ↔ ((a.refusal ≡ 10) × (a.place ≡ 0))
refused_exactly {g} {s} {t} {a} eg hs ht x = (λ none. hard_answered_exactly x (refused_10 eg hs ht none), back)
  where
    back : (a.refusal ≡ 10) × (a.place ≡ 0) → NoHardTimes g
    back (ten, zero) time hard = absurd (let no : ⊥ = omega (arith, ten, (hard_answered_exactly x (accepted_0 eg hs ht hard)).0) in no)

module _ {g : Graph} {s t : ℕ} {Short : Type 0} {a : HardAnswer} (pa : HardAnswered g s t Short a) (accepted : a.refusal ≡ 0) where
  pub ends_ordered : a.least ≤ℤ a.most
  ends_ordered = least_not_above (pa.found accepted).lowest (pa.found accepted).greatest

  -- "Such times are an execution": the ordinary ends hold them
  pub within_ordinary : {x y : ℤ} → LeastSeparation g s t x → Separation g s t y → (x ≤ℤ a.least) × (a.most ≤ℤ y)
  within_ordinary {x} {y} low high =
      let f = pa.found accepted in
      let (time, hard, same) = f.lowest.reached in (
        omega (linear, same, low.bound (delays_of g time) time (hard_executes (sound_of f.graph) hard)),
        hard_not_above (sound_of f.graph) f.greatest high,
      )

  module _ {h : Graph} {Short' : Type 0} {b : HardAnswer} (pb : HardAnswered h s t Short' b) (accepted' : b.refusal ≡ 0) (same : SameRules g h) (e : ℕ) (near : DelaysNear e g h) where
    pub hard_answers_near : Near (hard_limit e g.events) a.most b.most
    hard_answers_near =
        let f = pa.found accepted in
        let k = pb.found accepted' in
        hard_near f.graph k.graph same e near f.source_known f.target_known f.greatest k.greatest

    pub hard_leasts_near : Near (hard_limit e g.events) a.least b.least
    hard_leasts_near =
        let f = pa.found accepted in
        let k = pb.found accepted' in
        hard_least_near f.graph k.graph same e near f.source_known f.target_known f.lowest k.lowest
