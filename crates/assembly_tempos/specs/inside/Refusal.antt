-- What a refusal answers. Definitions only.
use Rattle.std.specs.Prelude.{ℕ}
use Rattle.ieee.specs.Constants.{plus_zero}
use Rattle.assembly_tempos.specs.declared.AssembledTempos.{AssembledTempos}

-- the outcome of a refusal
abbrev pub nothing_assembled : ℕ → AssembledTempos
nothing_assembled number = record { number = number; tempos = 0; stops = 0; warps = 0; offset = plus_zero; moved = 0 }
