-- The figures hold: one claim for all of them.
--     figures_hold      every figure of specs/Figures.antt's list holds
--     lowest_on_cycle_holds    and so does that of 02, wish 3
-- Each figure has its certificate: for every event its depth, its m where it has one, and its U. The tests of Certificate.antt compute that the
-- certificate is right, and `passed` says that the figure then holds. An unfolding needs no certificate: its test reads none. Under hard deadlines there are times and a way instead of m and U. Assumes nothing.
use mathlib.Core.Bool.{true, false}
use mathlib.Core.List.{List, [], ◌∷◌}
use Prim.Native.Nat.{ℕ}
use lib.IntN.{ℤ, pos, neg_ℤ}
use Rattle.figures.specs.Figures.{P1, P2, P3, P4, P5, P6, P7, P8, P9, P10, P11, P11-started, hard_fork, Holds, looped, LowestOnCycle, figures, AllHold}
use Rattle.figures.proofs.Certificate.{Certificate, MaybeM}
use Rattle.figures.proofs.Certificate.MaybeM.{absent, m_is}
use Rattle.figures.proofs.Passed.{separation_passed, limit_passed, passed}
use Rattle.figures.proofs.HardWays.{on, hard_passed}
use Rattle.figures.proofs.Unfoldings.{unfolds_to_lem}
use Rattle.figures.proofs.Loops.{cycle_passed}

abbrev certificate : List ℕ → List MaybeM → List ℤ → Certificate
certificate depths ms us = record { depths = depths; ms = ms; us = us }

-- m as it stands in the lists, above and below zero
abbrev m : ℕ → MaybeM
m n = m_is (pos n)

abbrev m_ : ℕ → MaybeM
m_ n = m_is (neg_ℤ (pos n))

P1-holds : Holds P1
P1-holds = passed (certificate (0 ∷ []) (m 0 ∷ []) (pos 0 ∷ [])) P1 tt

P2-holds : Holds P2
P2-holds = passed (certificate (0 ∷ 1 ∷ 2 ∷ 2 ∷ []) (m_ 1 ∷ m_ 1 ∷ m 0 ∷ absent ∷ []) (neg_ℤ (pos 1) ∷ neg_ℤ (pos 1) ∷ pos 0 ∷ pos 6 ∷ [])) P2 tt

P3-holds : Holds P3
P3-holds = passed (certificate (0 ∷ 1 ∷ 1 ∷ 2 ∷ []) (m_ 2 ∷ m 0 ∷ absent ∷ absent ∷ []) (neg_ℤ (pos 2) ∷ pos 0 ∷ pos 1 ∷ pos 1 ∷ [])) P3 tt

P4-holds : Holds P4
P4-holds = passed (certificate (0 ∷ 1 ∷ 1 ∷ 2 ∷ []) (m_ 1 ∷ absent ∷ m 0 ∷ absent ∷ []) (neg_ℤ (pos 1) ∷ pos 4 ∷ pos 0 ∷ pos 4 ∷ [])) P4 tt

P5-holds : Holds P5
P5-holds = passed (certificate (0 ∷ 1 ∷ 1 ∷ 2 ∷ []) (m_ 2 ∷ m 0 ∷ m 0 ∷ m 0 ∷ []) (neg_ℤ (pos 2) ∷ pos 0 ∷ pos 0 ∷ pos 0 ∷ [])) P5 tt

P6-holds : Holds P6
P6-holds = passed (certificate (0 ∷ 1 ∷ []) (m 0 ∷ absent ∷ []) (pos 0 ∷ pos 5 ∷ [])) P6 tt

P7-holds : Holds P7
P7-holds = passed (certificate (0 ∷ 1 ∷ []) (m_ 1 ∷ m 0 ∷ []) (neg_ℤ (pos 1) ∷ pos 0 ∷ [])) P7 tt

-- below and the graph that it is rounded to have a certificate each
P8-holds : Holds P8
P8-holds =
    let exact = certificate (0 ∷ 1 ∷ []) (m 0 ∷ absent ∷ []) (pos 0 ∷ neg_ℤ (pos 1) ∷ []) in
    let coarse = certificate (0 ∷ 1 ∷ []) (m 0 ∷ absent ∷ []) (pos 0 ∷ pos 0 ∷ []) in
    limit_passed exact coarse _ _ _ _ _ _ _ _ _ _ tt

P9-holds : Holds P9
P9-holds =
    let exact = certificate (0 ∷ 1 ∷ []) (m 3 ∷ m 0 ∷ []) (pos 3 ∷ pos 0 ∷ []) in
    let coarse = certificate (0 ∷ 1 ∷ []) (m 4 ∷ m 0 ∷ []) (pos 4 ∷ pos 0 ∷ []) in
    limit_passed exact coarse _ _ _ _ _ _ _ _ _ _ tt

P10-holds : Holds P10
P10-holds = passed (certificate (0 ∷ 1 ∷ 2 ∷ 2 ∷ []) (m 0 ∷ m 0 ∷ m 0 ∷ absent ∷ []) (pos 0 ∷ pos 0 ∷ pos 0 ∷ pos 8 ∷ [])) P10 tt

-- fig 1 unfolded has a certificate against each of 1, 3 and 5, the three occurrences of a; its depths are one chain, 0 to 6
abbrev fig1_certificate : List MaybeM → List ℤ → Certificate
fig1_certificate = certificate (0 ∷ 1 ∷ 2 ∷ 3 ∷ 4 ∷ 5 ∷ 6 ∷ [])

abbrev against_1 : Certificate
against_1 =
    fig1_certificate (m 0 ∷ m 0 ∷ absent ∷ absent ∷ absent ∷ absent ∷ absent ∷ [])
    (pos 0 ∷ pos 0 ∷ pos 1 ∷ pos 10 ∷ pos 21 ∷ pos 22 ∷ pos 41 ∷ [])

abbrev against_3 : Certificate
against_3 =
    fig1_certificate (m_ 4 ∷ m_ 4 ∷ m_ 1 ∷ m 0 ∷ absent ∷ absent ∷ absent ∷ [])
    (neg_ℤ (pos 4) ∷ neg_ℤ (pos 4) ∷ neg_ℤ (pos 3) ∷ pos 0 ∷ pos 17 ∷ pos 18 ∷ pos 37 ∷ [])

abbrev against_5 : Certificate
against_5 =
    fig1_certificate (m_ 8 ∷ m_ 8 ∷ m_ 6 ∷ m_ 4 ∷ m_ 1 ∷ m 0 ∷ absent ∷ [])
    (neg_ℤ (pos 8) ∷ neg_ℤ (pos 8) ∷ neg_ℤ (pos 7) ∷ neg_ℤ (pos 4) ∷ neg_ℤ (pos 1) ∷ pos 0 ∷ pos 19 ∷ [])

P11-holds : Holds P11
P11-holds =
    (unfolds_to_lem _ _ _ tt, (separation_passed against_1 _ _ _ _ tt, (separation_passed against_3 _ _ _ _ tt, separation_passed against_5 _ _ _ _ tt)))

-- with the start interval [21, 21] on b→b the rules are as many, between the same events, and the depths too
abbrev started_against_1 : Certificate
started_against_1 =
    fig1_certificate (m 0 ∷ m 0 ∷ absent ∷ absent ∷ absent ∷ absent ∷ absent ∷ [])
    (pos 0 ∷ pos 0 ∷ pos 21 ∷ pos 22 ∷ pos 41 ∷ pos 42 ∷ pos 61 ∷ [])

abbrev started_against_3 : Certificate
started_against_3 =
    fig1_certificate (m_ 22 ∷ m_ 4 ∷ m_ 1 ∷ m 0 ∷ absent ∷ absent ∷ absent ∷ [])
    (neg_ℤ (pos 22) ∷ neg_ℤ (pos 22) ∷ neg_ℤ (pos 1) ∷ pos 0 ∷ pos 19 ∷ pos 20 ∷ pos 39 ∷ [])

abbrev started_against_5 : Certificate
started_against_5 =
    fig1_certificate (m_ 27 ∷ m_ 8 ∷ m_ 6 ∷ m_ 4 ∷ m_ 1 ∷ m 0 ∷ absent ∷ [])
    (neg_ℤ (pos 27) ∷ neg_ℤ (pos 27) ∷ neg_ℤ (pos 6) ∷ neg_ℤ (pos 5) ∷ neg_ℤ (pos 1) ∷ pos 0 ∷ pos 19 ∷ [])

P11-started-holds : Holds P11-started
P11-started-holds = (
  unfolds_to_lem _ _ _ tt,
  (separation_passed started_against_1 _ _ _ _ tt, (separation_passed started_against_3 _ _ _ _ tt, separation_passed started_against_5 _ _ _ _ tt)),
)

-- times 0, 3, 3, 3; along 0→2 and 2→3 no hard times exceed 3 + 0
hard_fork_holds : Holds hard_fork
hard_fork_holds =
    hard_passed (certificate (0 ∷ 1 ∷ 1 ∷ 2 ∷ []) [] []) (pos 0 ∷ pos 3 ∷ pos 3 ∷ pos 3 ∷ []) (on 1 ∷ on 3 ∷ []) _ _ _ _ tt

-- the cycle 3→4→3; from 0 one comes to every other event, from 1 and 2 to none
pub lowest_on_cycle_holds : LowestOnCycle
lowest_on_cycle_holds = cycle_passed looped _ (4 ∷ []) ((false ∷ true ∷ true ∷ true ∷ true ∷ []) ∷ [] ∷ [] ∷ []) tt

pub figures_hold : AllHold figures
figures_hold = (
  P1-holds,
  (P2-holds, (P3-holds, (P4-holds, (P5-holds, (P6-holds, (P7-holds, (P8-holds, (P9-holds, (P10-holds, (P11-holds, (P11-started-holds, (hard_fork_holds, tt)))))))))))),
)
