-- How processing lays its three lists, in either format. Definitions only.
use Rattle.std.specs.Prelude.{ℕ, List, ◌≡◌, eqb, length, Float}
use Rattle.ieee.specs.Constants.{plus_zero}
use Rattle.picks.specs.Pick.{pick}
use Rattle.columns.specs.Laying.{room_number, LaidList}
use Rattle.chart.specs.ChartColumns.{ListColumns}
use Rattle.process_raw.specs.declared.Processed.{Processed}
use Rattle.process_raw.specs.LentLists.{ThreeColumns}
use Rattle.process_raw.specs.RawLists.{list_room}

-- one list under the call's number, its columns as the call begins and as it ends
abbrev pub ListLaidIn : (number : ℕ) (result : List (Float × Float)) (count : ℕ) (old new : ListColumns) → Type 0
ListLaidIn number result count old new = LaidList number result count old.beats new.beats old.values new.values

-- Three lists and an offset under one number: that of the tests, then 7 where a list is longer than its room. After a refusal the offset is 0.
pub record ProcessedLaid (tests : ℕ) (tempos stops warps : List (Float × Float)) (offset : Float) (outcome : Processed) (old new : ThreeColumns) : Type 0 where
  pub number :
      outcome.number
      ≡ room_number
      (room_number (room_number tests (length stops) (list_room old.stops)) (length warps) (list_room old.warps))
      (length tempos) (list_room old.tempos)
  pub tempos_laid : ListLaidIn outcome.number tempos outcome.tempos old.tempos new.tempos
  pub stops_laid : ListLaidIn outcome.number stops outcome.stops old.stops new.stops
  pub warps_laid : ListLaidIn outcome.number warps outcome.warps old.warps new.warps
  pub offset_is : outcome.offset ≡ pick (eqb outcome.number 0) offset plus_zero
