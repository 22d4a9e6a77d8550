-- `assembly_tempos::narrow_values` casts f32s and narrows the rest. Assumes nothing.
use mathlib.Core.Path.{◌∙◌}
use Rattle.assembly_tempos.proofs.OnRows.{held-laid}
use Rattle.assembly_tempos.proofs.narrow_values.Goals as goal

pub cast_column-requires : goal.cast_column-requires
cast_column-requires c = c.requires c.in-Sm.is

pub returns-in-Sm : goal.returns-in-Sm
returns-in-Sm c = c.cast_column.ensures ∙ held-laid c.args.from.now c.args.to.now (c.requires c.in-Sm.is)
