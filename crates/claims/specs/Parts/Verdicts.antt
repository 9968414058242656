-- What is said of one rule of a claim, and of the claimed number.
--     ArrivalJudged z end r           == r says how z stands to end
--     KeptBy d D x start end          == a rule from d to D that takes x has its source at start not arrive past its target at end
--     RuleJudged d D x start end v r  == r is the verdict of such a rule, with target v
--     RuleKept g delay time i, RuleMeets …, RuleVerdictAt …  == the same of rule i
--     NumberJudged gap x top r        == r says how the claimed number x stands to the gap of the times and to the maximum
-- Assumes nothing.
use Rattle.std.specs.Prelude.{◌≡◌, ℕ, ℤ, ◌+ℤ◌, ◌≤ℤ◌, ◌<ℤ◌}
use Rattle.std.specs.declared.cmp.Ordering.{Ordering}
use Rattle.std.specs.Ordering.{MatchOrdering}
use Rattle.graphs.specs.Graph.{Graph, source, target, least, most}
use Rattle.claims.specs.declared.Judgement.{Judgement}
use Rattle.claims.specs.declared.Judgement.TheVariants.{Maximum, Below, Differs}
use Rattle.claims.specs.declared.Judgement.TheVariants as judgement
use Rattle.claims.specs.declared.rules.RuleVerdict.{RuleVerdict}
use Rattle.claims.specs.declared.rules.RuleVerdict.TheVariants.{Meets, Early, Broken}

abbrev pub ArrivalJudged : ℤ → ℤ → Ordering → Type 0
ArrivalJudged z end r = MatchOrdering r (z <ℤ end) (z ≡ end) (end <ℤ z)

pub record KeptBy (d D x start end : ℤ) : Type 0 where
  pub from_least : d ≤ℤ x
  pub to_most : x ≤ℤ D
  pub in_time : (start +ℤ x) ≤ℤ end

abbrev pub RuleJudged : ℤ → ℤ → ℤ → ℤ → ℤ → ℕ → RuleVerdict → Type 0
RuleJudged d D x start end v Meets = KeptBy d D x start end × (start +ℤ x ≡ end)
RuleJudged d D x start end v Early = KeptBy d D x start end × (start +ℤ x ≡ end → ⊥)
RuleJudged d D x start end v (Broken e) = (e ≡ v) × (KeptBy d D x start end → ⊥)

abbrev pub RuleKept : Graph → (ℕ → ℤ) → (ℕ → ℤ) → ℕ → Type 0
RuleKept g delay time i = KeptBy (least g i) (most g i) (delay i) (time (source g i)) (time (target g i))

abbrev pub RuleMeets : Graph → (ℕ → ℤ) → (ℕ → ℤ) → ℕ → Type 0
RuleMeets g delay time i = RuleKept g delay time i × (time (source g i) +ℤ delay i ≡ time (target g i))

abbrev pub RuleVerdictAt : Graph → (ℕ → ℤ) → (ℕ → ℤ) → ℕ → RuleVerdict → Type 0
RuleVerdictAt g delay time i = RuleJudged (least g i) (most g i) (delay i) (time (source g i)) (time (target g i)) (target g i)

abbrev pub NumberJudged : ℤ → ℤ → ℤ → Judgement → Type 0
NumberJudged gap claimed top (judgement.Broken v) = ⊥
NumberJudged gap claimed top Differs = gap ≡ claimed → ⊥
NumberJudged gap claimed top Below = (gap ≡ claimed) × (claimed <ℤ top)
NumberJudged gap claimed top Maximum = (gap ≡ claimed) × (top ≤ℤ claimed)
