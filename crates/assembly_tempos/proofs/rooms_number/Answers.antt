-- `assembly_tempos::rooms_number` asks each list for its room. Assumes nothing.
use mathlib.Core.Path.{◌∙◌}
use Rattle.process_raw.specs.LentLists.{three_columns}
use Rattle.assembly_tempos.proofs.ProcessedColumns.{rooms-are}
use Rattle.assembly_tempos.proofs.rooms_number.Goals as goal

pub returns : goal.returns
returns c = λ offset. c.lower_of-2.ensures ∙ rw (c.lower_of.ensures, c.no_room-tempos.ensures, c.no_room-stops.ensures, c.no_room-warps.ensures, c.rows_fit.ensures, c.rows_fit-2.ensures) (rooms-are (three_columns c.args.tempo_beats.now c.args.tempo_values.now c.args.stop_beats.now c.args.stop_values.now c.args.warp_beats.now c.args.warp_lengths.now) offset c.requires.0 c.requires.1 c.args.tempo_room c.args.stop_room c.args.warp_room)
