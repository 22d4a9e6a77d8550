-- `exports_assembly::format_of` names the format. Assumes nothing.
use Rattle.picks.proofs.Rules.{picks}
use Rattle.exports_assembly.specs.Format.{format_of}
use Rattle.exports_assembly.proofs.format_of.Goals as goal

pub returns-then-number-eq0 : goal.returns-then-number-eq0
unfolding format_of
returns-then-number-eq0 c =
    search picks depth 5

pub returns : goal.returns
unfolding format_of
returns c =
    search picks depth 5
