-- The lists that lookups take. Definitions only.
use Rattle.std.specs.Prelude.{List, Float}
pub use Rattle.chart.specs.ChartColumns.{ListColumns, list_columns}

-- what a question about warps takes
pub record WarpLists : Type 0 where
  pub stops : ListColumns
  pub delays : ListColumns
  pub warps : ListColumns

-- and one about notes
pub record LookupLists : Type 0 where
  pub stops : ListColumns
  pub delays : ListColumns
  pub warps : ListColumns
  pub fakes : ListColumns

-- of columns, in the order in which a call takes them
abbrev pub warp_lists : (stop_beats stop_values delay_beats delay_values warp_beats warp_lengths : List Float) → WarpLists
warp_lists stop_beats stop_values delay_beats delay_values warp_beats warp_lengths = record {
  stops = list_columns stop_beats stop_values;
  delays = list_columns delay_beats delay_values;
  warps = list_columns warp_beats warp_lengths;
}

abbrev pub lookup_lists : (stop_beats stop_values delay_beats delay_values warp_beats warp_lengths fake_beats fake_lengths : List Float) → LookupLists
lookup_lists stop_beats stop_values delay_beats delay_values warp_beats warp_lengths fake_beats fake_lengths = record {
  stops = list_columns stop_beats stop_values;
  delays = list_columns delay_beats delay_values;
  warps = list_columns warp_beats warp_lengths;
  fakes = list_columns fake_beats fake_lengths;
}

-- all but the fakes
abbrev pub but_fakes : LookupLists → WarpLists
but_fakes lists = record { stops = lists.stops; delays = lists.delays; warps = lists.warps }
