-- `process::process_bpms_and_stops` puts 60 at beat 0 where no tempos are given. Assumes nothing.
use lib.Ieee.{of_bits}
use borrow.Author.Rules.{rules}
use Rattle.process.proofs.FormatLists.{as_given, as_sixty}
use Rattle.process.proofs.process_bpms_and_stops.Goals as goal
use Rattle.process.proofs.process_bpms_and_stops.Goals.{then-tempo_beats-eq0+else-tempo_values-eq0, else-tempo_beats-eq0}

-- src/lib.rt:72:13
pub returns-then-tempo_values-eq0 : goal.returns-then-tempo_values-eq0
unfolding of_bits
returns-then-tempo_values-eq0 c = as_sixty c.args.format c.args.tempo_beats.now c.args.tempo_values.now c.args.stop_beats.now c.args.stop_values.now c.if-tempo_beats-eq0.true c.if-tempo_values-eq0.true c.process_given.ensures

-- src/lib.rt:55:1
pub returns : goal.returns
returns c = as_given c.args.format c.args.tempo_beats.now c.args.tempo_values.now c.args.stop_beats.now c.args.stop_values.now (elim c.if-tempo_beats-eq0.branch [ then-tempo_beats-eq0+else-tempo_values-eq0 w ↦ λ h k. w.if-tempo_values-eq0.false k | else-tempo_beats-eq0 w ↦ λ h k. w.if-tempo_beats-eq0.false h ]) c.process_given-2.ensures
