-- What the parts say to one another, said of a graph whose rules are chained. A word that ends in `In` is the word before it, of the lists of `c`.
--     CycleRefused g r        == r is refusal 5, and its place is the lowest event on a cycle
--     ArrangedOr c order x    == x is no refusal, and order holds an order of the events; or it is such a refusal
-- Assumes nothing.
use Rattle.std.specs.Prelude.{Result, Ok, Err, Bool, List, ℕ, ℤ}
use Rattle.verdicts.specs.Verdict.{Lowest}
use Rattle.graphs.specs.Graph.{Graph}
use Rattle.graphs.specs.Lists.{graph_in}
use Rattle.graphs.specs.Path.{OnCycle}
use Rattle.refusals.specs.declared.Refusal.{Refusal}
use Rattle.refusals.specs.declared.Refusal.TheVariants.{Cycle}
use Rattle.analysis.specs.declared.chains.Chains.{Chains}
use Rattle.analysis.specs.Parts.Order.{Ordered}
use Rattle.analysis.specs.Parts.Placing.{FirstReady, Serving}
use Rattle.analysis.specs.Parts.Cycles.{Marked, LiesOn, LiesOff, CycleAt}
use Rattle.analysis.specs.Parts.Reach.{Arranged, SourceMarked, MarkOf, AllMarked}
use Rattle.analysis.specs.Parts.Paths.{MReady, PassReady, PushReady}
use Rattle.analysis.specs.Parts.Latest.{arrival_by, depth_by, Addable, Deepenable, Arrivals, GreatestArrival, Settled, LatestReady}

abbrev pub FirstReadyIn : Chains → List ℕ → List ℕ → Type 0
FirstReadyIn c waiting order = FirstReady c.lists.events c.lists.sources.now c.lists.targets.now waiting order

abbrev pub ServingIn : Chains → List ℕ → List ℕ → ℕ → ℕ → Type 0
ServingIn c waiting order tail head = Serving c.lists.events c.lists.sources.now c.lists.targets.now waiting order tail head

abbrev pub OrderedIn : Chains → List ℕ → Bool → Type 0
OrderedIn c order b = Ordered c.lists.events c.lists.sources.now c.lists.targets.now order b

abbrev pub ArrangedIn : Chains → List ℕ → Type 0
ArrangedIn c order = Arranged c.lists.events c.lists.sources.now c.lists.targets.now c.heads.now c.nexts.now order

abbrev pub CycleRefused : Graph → Refusal → Type 0
CycleRefused g (Cycle v) = Lowest (OnCycle g) v
CycleRefused g _ = ⊥

abbrev pub ArrangedOr : Chains → List ℕ → Result (Unit {0}) Refusal → Type 0
ArrangedOr c order (Ok _) = ArrangedIn c order
ArrangedOr c order (Err r) = CycleRefused (graph_in c.lists) r

abbrev pub MarkedIn : Chains → ℕ → List Bool → List ℕ → ℕ → List Bool → List ℕ → ℕ → Type 0
MarkedIn c event seen₀ list₀ end₀ seen list end = Marked c.lists.sources.now c.lists.targets.now event seen₀ list₀ end₀ seen list end

abbrev pub LiesOnIn : Chains → ℕ → Type 0
LiesOnIn c v = LiesOn c.lists.sources.now c.lists.targets.now v

abbrev pub LiesOffIn : Chains → ℕ → Type 0
LiesOffIn c v = LiesOff c.lists.sources.now c.lists.targets.now v

abbrev pub CycleAtIn : Chains → ℕ → Bool → Type 0
CycleAtIn c v b = CycleAt c.lists.sources.now c.lists.targets.now v b

abbrev pub SourceMarkedIn : Chains → List ℕ → ℕ → Bool → Type 0
SourceMarkedIn c marks v b = SourceMarked c.lists.sources.now c.lists.targets.now marks v b

abbrev pub MarkOfIn : Chains → List ℕ → ℕ → ℕ → Type 0
MarkOfIn c marks v r = MarkOf c.lists.sources.now c.lists.targets.now marks v r

abbrev pub AllMarkedIn : Chains → List ℕ → Type 0
AllMarkedIn c marks = AllMarked c.lists.events c.lists.sources.now c.lists.targets.now marks

abbrev pub MReadyIn : Chains → List ℕ → ℕ → List ℤ → Type 0
MReadyIn c order s m = MReady c.lists.events c.lists.sources.now c.lists.targets.now c.lists.leasts.now c.lists.mosts.now c.heads.now c.nexts.now order s m

abbrev pub PassReadyIn : Chains → List ℕ → ℕ → List ℤ → List ℤ → Type 0
PassReadyIn c order s m₀ m = PassReady c.lists.events c.lists.sources.now c.lists.targets.now c.lists.leasts.now c.lists.mosts.now c.heads.now c.nexts.now order s m₀ m

abbrev pub PushReadyIn : Chains → List ℕ → ℕ → ℕ → ℕ → List ℤ → List ℤ → Type 0
PushReadyIn c order s k v m₀ m = PushReady c.lists.events c.lists.sources.now c.lists.targets.now c.lists.leasts.now c.lists.mosts.now c.heads.now c.nexts.now order s k v m₀ m

abbrev pub arrival_in : Chains → List ℤ → ℕ → ℤ
arrival_in c us i = arrival_by c.lists.sources.now c.lists.mosts.now us i

abbrev pub depth_in : Chains → List ℕ → ℕ → ℤ
depth_in c depth i = depth_by c.lists.sources.now depth i

abbrev pub AddableIn : Chains → List ℤ → ℕ → Type 0
AddableIn c us i = Addable c.lists.sources.now c.lists.mosts.now us i

abbrev pub DeepenableIn : Chains → List ℕ → ℕ → Type 0
DeepenableIn c depth i = Deepenable c.lists.sources.now depth i

abbrev pub ArrivalsIn : Chains → List ℤ → List ℕ → ℕ → Type 0
ArrivalsIn c us depth v = Arrivals c.lists.events c.lists.sources.now c.lists.targets.now c.heads.now c.nexts.now c.lists.mosts.now us depth v

abbrev pub GreatestArrivalIn : Chains → List ℤ → List ℕ → ℕ → ℤ → ℕ → Type 0
GreatestArrivalIn c us depth v time deep = GreatestArrival c.lists.events c.lists.sources.now c.lists.targets.now c.lists.mosts.now us depth v time deep

abbrev pub SettledIn : Chains → ℕ → List ℤ → List ℕ → List ℤ → List ℕ → Type 0
SettledIn c v us depth us' depth' = Settled c.lists.events c.lists.sources.now c.lists.targets.now c.lists.mosts.now v us depth us' depth'

abbrev pub LatestReadyIn : Chains → List ℕ → ℕ → List ℤ → List ℕ → Type 0
LatestReadyIn c order s us depth = LatestReady c.lists.events c.lists.sources.now c.lists.targets.now c.lists.leasts.now c.lists.mosts.now c.heads.now c.nexts.now order s us depth
