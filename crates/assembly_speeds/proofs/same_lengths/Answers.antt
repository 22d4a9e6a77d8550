-- `assembly_speeds::same_lengths` compares one by one. Assumes nothing.
use Rattle.picks.proofs.Rules.{picks}
use Rattle.assembly_speeds.specs.AssembledSpeeds.{same_lengths}
use Rattle.assembly_speeds.proofs.same_lengths.Goals as goal

pub returns-then-beats-ratios : goal.returns-then-beats-ratios
unfolding same_lengths
returns-then-beats-ratios c = search picks

pub returns-then-beats-delays : goal.returns-then-beats-delays
unfolding same_lengths
returns-then-beats-delays c = search picks

pub returns : goal.returns
unfolding same_lengths
returns c = search picks
