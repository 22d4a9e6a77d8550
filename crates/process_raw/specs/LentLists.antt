-- The columns of raw lists, and of the rooms for what processing makes of them. Definitions only.
use Rattle.std.specs.Prelude.{List, Float}
use Rattle.chart.specs.ChartColumns.{ListColumns, list_columns, Lent, LentColumns, lent_columns, list_before, list_after}

-- tempos and stops
pub record TwoColumns : Type 0 where
  pub tempos : ListColumns
  pub stops : ListColumns

abbrev pub two_columns : (tempo_beats tempo_values stop_beats stop_values : List Float) → TwoColumns
two_columns tempo_beats tempo_values stop_beats stop_values = record {
  tempos = list_columns tempo_beats tempo_values;
  stops = list_columns stop_beats stop_values;
}

-- tempos, stops and warps
pub record ThreeColumns : Type 0 where
  pub tempos : ListColumns
  pub stops : ListColumns
  pub warps : ListColumns

abbrev pub three_columns : (tempo_beats tempo_values stop_beats stop_values warp_beats warp_lengths : List Float) → ThreeColumns
three_columns tempo_beats tempo_values stop_beats stop_values warp_beats warp_lengths = record {
  tempos = list_columns tempo_beats tempo_values;
  stops = list_columns stop_beats stop_values;
  warps = list_columns warp_beats warp_lengths;
}

-- ---- lent to a call: as it begins, and as it ends

pub record LentTwo : Type 0 where
  pub tempos : LentColumns
  pub stops : LentColumns

abbrev pub lent_two : (tempo_beats tempo_values stop_beats stop_values : Lent Float) → LentTwo
lent_two tempo_beats tempo_values stop_beats stop_values = record {
  tempos = lent_columns tempo_beats tempo_values;
  stops = lent_columns stop_beats stop_values;
}

abbrev pub two_before : LentTwo → TwoColumns
two_before l = record { tempos = list_before l.tempos; stops = list_before l.stops }

abbrev pub two_after : LentTwo → TwoColumns
two_after l = record { tempos = list_after l.tempos; stops = list_after l.stops }

pub record LentThree : Type 0 where
  pub tempos : LentColumns
  pub stops : LentColumns
  pub warps : LentColumns

abbrev pub lent_three : (tempo_beats tempo_values stop_beats stop_values warp_beats warp_lengths : Lent Float) → LentThree
lent_three tempo_beats tempo_values stop_beats stop_values warp_beats warp_lengths = record {
  tempos = lent_columns tempo_beats tempo_values;
  stops = lent_columns stop_beats stop_values;
  warps = lent_columns warp_beats warp_lengths;
}

abbrev pub three_before : LentThree → ThreeColumns
three_before l = record { tempos = list_before l.tempos; stops = list_before l.stops; warps = list_before l.warps }

abbrev pub three_after : LentThree → ThreeColumns
three_after l = record { tempos = list_after l.tempos; stops = list_after l.stops; warps = list_after l.warps }
