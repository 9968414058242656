-- `header_stands` meets its contract. Assumes nothing.
use Rattle.std.proofs.lemmas.Bool.Decides.{Decides-eqb}
use Rattle.std.proofs.lemmas.Slice.Eq.{starts_is}
use Rattle.text.specs.Grammar.{header}
use Rattle.text.proofs.Progress.{header_found}
use Rattle.text.proofs.scan.header_stands.Goals as goal

pub returns-then-starts_with : goal.returns-then-starts_with
returns-then-starts_with c =
    header_found ((starts_is Decides-eqb _ header _ c.starts_with.ensures.value).0 c.if-starts_with.true) c.end_at.ensures.right c.end_at.ensures.wrong
