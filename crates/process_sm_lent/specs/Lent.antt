-- The one outcome of processing by way of lent work columns. Definitions only.
use Rattle.std.specs.Prelude.{◌≡◌, ℕ}
use Rattle.order.specs.Entries.{first, second}
use Rattle.columns.specs.Laying.{column_laid}
use Rattle.process_raw.specs.declared.Processed.{Processed}
use Rattle.process_raw.specs.LentLists.{TwoColumns, ThreeColumns}
use Rattle.process_sm_walk.specs.Chart.{Output}
use Rattle.process_sm_walk.specs.Columns.{Columns}
use Rattle.process_sm_walk_raw.specs.RawWalk.{walked_number_of, sm_written_of}
use Rattle.process_sm_lent.specs.Sm.{SmListsLaid}

-- what the walk writes stands in the fronts of the work columns
pub record WorkLaid (number : ℕ) (out : Output) (old new : Columns) : Type 0 where
  pub tempo_beats : new.tempo_beats ≡ column_laid first number out.tempos old.tempo_beats
  pub tempo_values : new.tempo_values ≡ column_laid second number out.tempos old.tempo_values
  pub stop_beats : new.stop_beats ≡ column_laid first number out.stops old.stop_beats
  pub stop_values : new.stop_values ≡ column_laid second number out.stops old.stop_values
  pub warp_beats : new.warp_beats ≡ column_laid first number out.warps old.warp_beats
  pub warp_lengths : new.warp_lengths ≡ column_laid second number out.warps old.warp_lengths

-- the tests are those of both lists, then 7 for the room of the work columns
pub record LentLaid (raw : TwoColumns) (outcome : Processed) (work_old work_new : Columns) (old new : ThreeColumns) : Type 0 where
  pub lists : SmListsLaid (walked_number_of raw work_old) raw outcome old new
  pub work : WorkLaid (walked_number_of raw work_old) (sm_written_of raw) work_old work_new
