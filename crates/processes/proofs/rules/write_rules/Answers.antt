use mathlib.Core.Path.{◌≡◌, refl}
use mir.Syntax.{w64}
use mir.Val.{to_z, of_z}
use mir.ValLaws.{to_z-of_z}
use Rattle.processes.proofs.Writing.{writing_more}
use Rattle.processes.proofs.rules.write_rules.Goals as goal

pub loop-j-preserved : goal.loop-j-preserved
loop-j-preserved c =
    let least : to_z w64 (of_z w64 c.rule_at-rule.result.least) ≡ c.rule_at-rule.result.least = to_z-of_z w64 c.rule_at-rule.result.least (search) in
    let most : to_z w64 (of_z w64 c.rule_at-rule.result.most) ≡ c.rule_at-rule.result.most = to_z-of_z w64 c.rule_at-rule.result.most (search) in
    rw (least, most)
    (writing_more c.requires.copies_in_bounds c.loop-j.invariant refl c.loop-k-test.true c.loop-j-test.true c.rule_at-rule.ensures
    (c.requires.process_kept.marked c.loop-j.j c.loop-j-test.true))
