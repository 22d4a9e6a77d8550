-- The part of an outcome that tempos, stops and warps have. Definitions only.
use Rattle.assembly_tempos.specs.declared.AssembledTempos.{AssembledTempos}
use Rattle.assembly.specs.declared.Assembled.{Assembled}

abbrev pub processed_part : Assembled → AssembledTempos
processed_part outcome = record { number = outcome.number; tempos = outcome.tempos; stops = outcome.stops; warps = outcome.warps; offset = outcome.offset; moved = outcome.moved.warps }
