-- Two results that an entry's promise allows for one input are equal: the number returned, those put where the caller says, and the lent lists.
--     exact_entry_unique       of crankforest_exact
--     schedule_entry_unique    of crankforest_schedule
--     coarse_entry_unique      of crankforest_coarse
--     hard_entry_unique        of crankforest_hard
--     hard_schedule_entry_unique    of crankforest_hard_schedule
--     unfold_entry_unique      of crankforest_unfold
--     pairs_entry_unique       of crankforest_pairs
--     judge_entry_unique       of crankforest_judge
-- Assumes nothing.
use mathlib.Core.Path.{◌≡◌, ap}
use mathlib.Core.List.{List}
use Prim.Native.Nat.{ℕ}
use lib.IntN.{ℤ}
use Rattle.graphs.specs.Graph.{Graph}
use Rattle.separation.specs.Promise.{Answered, Written}
use Rattle.separation.specs.Coarse.{CoarseAnswered}
use Rattle.separation.specs.declared.Answer.{Answer}
use Rattle.separation.proofs.Promises.{answer_unique, schedule_unique}
use Rattle.separation.proofs.CoarsePromises.{coarse_answer_unique}
use Rattle.deadlines.specs.Promise.{HardAnswered, HardWritten}
use Rattle.deadlines.specs.declared.HardAnswer.{HardAnswer}
use Rattle.deadlines.proofs.Promises.{hard_answer_unique, hard_schedule_unique}
use Rattle.processes.specs.Process.{ProcessGraph}
use Rattle.processes.specs.Unfolding.{UnfoldingAnswered, UnfoldingWritten}
use Rattle.processes.specs.declared.Unfolded.{Unfolded}
use Rattle.processes.proofs.Unique.{SameRuleLists, unfold_unique}
use Rattle.claims.specs.Claim.{JudgedAs}
use Rattle.claims.specs.declared.Numbers.{Numbers}
use Rattle.claims.proofs.Promises.{judged_as_unique}
use Rattle.text.specs.Output.{PairsWritten}
use Rattle.text.specs.declared.PairsAnswer.{PairsAnswer}
use Rattle.text.proofs.Answered.{pairs_unique}
use Rattle.crankforest.specs.Entries.{answer_of, hard_answer_of, unfolded_of, pairs_answer_of, judged_of}

-- equal answers have equal numbers
pub record SameAnswer (k p : ℕ) (x : ℤ) (d e : ℕ) (k' p' : ℕ) (x' : ℤ) (d' e' : ℕ) : Type 0 where
  pub refusal_same : k ≡ k'
  pub place_same : p ≡ p'
  pub separation_same : x ≡ x'
  pub source_depth_same : d ≡ d'
  pub target_depth_same : e ≡ e'

pub record SameHardAnswer (k p : ℕ) (x y : ℤ) (d e : ℕ) (k' p' : ℕ) (x' y' : ℤ) (d' e' : ℕ) : Type 0 where
  pub refusal_same : k ≡ k'
  pub place_same : p ≡ p'
  pub least_same : x ≡ x'
  pub most_same : y ≡ y'
  pub source_depth_same : d ≡ d'
  pub target_depth_same : e ≡ e'

pub record SameUnfolded (k p n r k' p' n' r' : ℕ) : Type 0 where
  pub refusal_same : k ≡ k'
  pub place_same : p ≡ p'
  pub events_same : n ≡ n'
  pub rules_same : r ≡ r'

pub record SamePairs (k p b k' p' b' : ℕ) : Type 0 where
  pub refusal_same : k ≡ k'
  pub place_same : p ≡ p'
  pub bytes_same : b ≡ b'

pub record SameJudged (k p v e k' p' v' e' : ℕ) : Type 0 where
  pub refusal_same : k ≡ k'
  pub place_same : p ≡ p'
  pub verdict_same : v ≡ v'
  pub event_same : e ≡ e'

same_answer : {k p d e k' p' d' e' : ℕ} {x x' : ℤ} → answer_of k p x d e ≡ answer_of k' p' x' d' e' → SameAnswer k p x d e k' p' x' d' e'
same_answer q =
    record {
      refusal_same = ap (λ (a : Answer). a.refusal) q;
      place_same = ap (λ (a : Answer). a.place) q;
      separation_same = ap (λ (a : Answer). a.separation) q;
      source_depth_same = ap (λ (a : Answer). a.source_depth) q;
      target_depth_same = ap (λ (a : Answer). a.target_depth) q;
    }

same_hard_answer : {k p d e k' p' d' e' : ℕ} {x y x' y' : ℤ} → hard_answer_of k p x y d e ≡ hard_answer_of k' p' x' y' d' e' → SameHardAnswer k p x y d e k' p' x' y' d' e'
same_hard_answer q =
    record {
      refusal_same = ap (λ (a : HardAnswer). a.refusal) q;
      place_same = ap (λ (a : HardAnswer). a.place) q;
      least_same = ap (λ (a : HardAnswer). a.least) q;
      most_same = ap (λ (a : HardAnswer). a.most) q;
      source_depth_same = ap (λ (a : HardAnswer). a.source_depth) q;
      target_depth_same = ap (λ (a : HardAnswer). a.target_depth) q;
    }

same_unfolded : {k p n r k' p' n' r' : ℕ} → unfolded_of k p n r ≡ unfolded_of k' p' n' r' → SameUnfolded k p n r k' p' n' r'
same_unfolded q =
    record {
      refusal_same = ap (λ (a : Unfolded). a.refusal) q;
      place_same = ap (λ (a : Unfolded). a.place) q;
      events_same = ap (λ (a : Unfolded). a.events) q;
      rules_same = ap (λ (a : Unfolded). a.rules) q;
    }

same_pairs : {k p b k' p' b' : ℕ} → pairs_answer_of k p b ≡ pairs_answer_of k' p' b' → SamePairs k p b k' p' b'
same_pairs q =
    record {
      refusal_same = ap (λ (a : PairsAnswer). a.refusal) q;
      place_same = ap (λ (a : PairsAnswer). a.place) q;
      bytes_same = ap (λ (a : PairsAnswer). a.bytes) q;
    }

pub exact_entry_unique : {g : Graph} {s t k p d e k' p' d' e' : ℕ} {x x' : ℤ}
    → Answered g s t ⊥ (answer_of k p x d e) → Answered g s t ⊥ (answer_of k' p' x' d' e')
    → SameAnswer k p x d e k' p' x' d' e'
exact_entry_unique a b = same_answer (answer_unique a b)

pub coarse_entry_unique : {g : Graph} {q s t k p d e k' p' d' e' : ℕ} {x x' : ℤ}
    → CoarseAnswered g q s t (answer_of k p x d e) → CoarseAnswered g q s t (answer_of k' p' x' d' e')
    → SameAnswer k p x d e k' p' x' d' e'
coarse_entry_unique a b = same_answer (coarse_answer_unique a b)

pub schedule_entry_unique : {g : Graph} {s t k p d e k' p' d' e' : ℕ} {x x' : ℤ} {Short : Type 0} {times₀ delays₀ times delays times' delays' : List ℤ}
    → Answered g s t Short (answer_of k p x d e) → Written g s (answer_of k p x d e) times₀ delays₀ times delays
    → Answered g s t Short (answer_of k' p' x' d' e') → Written g s (answer_of k' p' x' d' e') times₀ delays₀ times' delays'
    → SameAnswer k p x d e k' p' x' d' e' × (times ≡ times') × (delays ≡ delays')
schedule_entry_unique a w b v = let same = schedule_unique a w b v in (same_answer same.0, same.1, same.2)

pub hard_entry_unique : {g : Graph} {s t k p d e k' p' d' e' : ℕ} {x y x' y' : ℤ}
    → HardAnswered g s t ⊥ (hard_answer_of k p x y d e) → HardAnswered g s t ⊥ (hard_answer_of k' p' x' y' d' e')
    → SameHardAnswer k p x y d e k' p' x' y' d' e'
hard_entry_unique a b = same_hard_answer (hard_answer_unique a b)

pub hard_schedule_entry_unique : {g : Graph} {s t k p d e k' p' d' e' : ℕ} {x y x' y' : ℤ} {Short : Type 0} {times₀ delays₀ times delays times' delays' : List ℤ}
    → HardAnswered g s t Short (hard_answer_of k p x y d e) → HardWritten g s (hard_answer_of k p x y d e) times₀ delays₀ times delays
    → HardAnswered g s t Short (hard_answer_of k' p' x' y' d' e') → HardWritten g s (hard_answer_of k' p' x' y' d' e') times₀ delays₀ times' delays'
    → SameHardAnswer k p x y d e k' p' x' y' d' e' × (times ≡ times') × (delays ≡ delays')
hard_schedule_entry_unique a w b v = let same = hard_schedule_unique a w b v in (same_hard_answer same.0, same.1, same.2)

pub unfold_entry_unique : {g : ProcessGraph} {K k p n r k' p' n' r' : ℕ} {Short : Type 0} {ss₀ ts₀ : List ℕ} {ds₀ Ds₀ : List ℤ} {ss ss' ts ts' : List ℕ} {ds ds' Ds Ds' : List ℤ}
    → UnfoldingAnswered g K Short (unfolded_of k p n r) → UnfoldingWritten g K (unfolded_of k p n r) ss₀ ts₀ ds₀ Ds₀ ss ts ds Ds
    → UnfoldingAnswered g K Short (unfolded_of k' p' n' r') → UnfoldingWritten g K (unfolded_of k' p' n' r') ss₀ ts₀ ds₀ Ds₀ ss' ts' ds' Ds'
    → SameUnfolded k p n r k' p' n' r' × SameRuleLists ss ss' ts ts' ds ds' Ds Ds'
unfold_entry_unique a w b v = let same = unfold_unique a w b v in (same_unfolded same.0, same.1)

pub pairs_entry_unique : {bs : List ℕ} {k p b k' p' b' : ℕ} {out₀ out out' : List ℕ}
    → PairsWritten bs out₀ (pairs_answer_of k p b) out → PairsWritten bs out₀ (pairs_answer_of k' p' b') out'
    → SamePairs k p b k' p' b' × (out ≡ out')
pairs_entry_unique x y = let same = pairs_unique x y in (same_pairs same.0, same.1)

pub judge_entry_unique : {g : Graph} {s t : ℕ} {claimed : ℤ} {times delays : List ℤ} {k p v e k' p' v' e' : ℕ}
    → JudgedAs g s t claimed times delays (judged_of k p v e) → JudgedAs g s t claimed times delays (judged_of k' p' v' e')
    → SameJudged k p v e k' p' v' e'
judge_entry_unique a b =
    let q = judged_as_unique a b in
    record {
      refusal_same = ap (λ (n : Numbers). n.refusal) q;
      place_same = ap (λ (n : Numbers). n.place) q;
      verdict_same = ap (λ (n : Numbers). n.verdict) q;
      event_same = ap (λ (n : Numbers). n.event) q;
    }
