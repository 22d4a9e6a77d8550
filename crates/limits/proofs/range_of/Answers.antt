-- `limits::range_of` is the table of ranges. Assumes nothing.
use lib.Ieee.{of_bits}
use Rattle.limits.proofs.range_of.Goals as goal

pub returns-in-Beat : goal.returns-in-Beat
unfolding of_bits
returns-in-Beat c = rw c.in-Beat.is

pub returns-in-RawBeat : goal.returns-in-RawBeat
unfolding of_bits
returns-in-RawBeat c = rw c.in-RawBeat.is

pub returns-in-RawTempo : goal.returns-in-RawTempo
unfolding of_bits
returns-in-RawTempo c = rw c.in-RawTempo.is

pub returns-in-TidyTempo : goal.returns-in-TidyTempo
unfolding of_bits
returns-in-TidyTempo c = rw c.in-TidyTempo.is

pub returns-in-Tempo : goal.returns-in-Tempo
unfolding of_bits
returns-in-Tempo c = rw c.in-Tempo.is

pub returns-in-Pause : goal.returns-in-Pause
unfolding of_bits
returns-in-Pause c = rw c.in-Pause.is

pub returns-in-Value : goal.returns-in-Value
unfolding of_bits
returns-in-Value c = rw c.in-Value.is

pub returns-in-Offset : goal.returns-in-Offset
unfolding of_bits
returns-in-Offset c = rw c.in-Offset.is
