-- What an input's bytes leave in columns that were empty, and how many entries each list has. Definitions only.
use Rattle.std.specs.Prelude.{ℕ, List, get_or, replicate, Float}
use Rattle.ieee.specs.Constants.{plus_zero}
use Rattle.chart.specs.ChartColumns.{ListColumns, list_columns, speed_columns, ChartColumns}
use Rattle.report_form.specs.Form.{start}
use Rattle.report_form.specs.Stores.{number_in, unit_in, count_in, column_after}

-- how many entries a list has, by its number (2 bpm .. 8 fake)
abbrev pub entries_counted : List ℕ → ℕ → ℕ
entries_counted counts list = get_or counts list 0

-- the numbers of a part of a list (1 is the beat), read into a column of 256 zeros
abbrev pub numbers_read : ℕ → ℕ → List ℕ → List Float
numbers_read list part input = column_after (number_in list part) start input (replicate 256 plus_zero)

abbrev pub units_read : List ℕ → List ℕ
units_read input = column_after (unit_in 6 4) start input (replicate 256 0)

abbrev pub counts_read : List ℕ → List ℕ
counts_read input = column_after count_in start input (replicate 9 0)

-- a list of two columns, by its number
abbrev pub list_read : ℕ → List ℕ → ListColumns
list_read list input = list_columns (numbers_read list 1 input) (numbers_read list 2 input)

abbrev pub chart_read : List ℕ → ChartColumns
chart_read input = record {
  tempos = list_read 2 input;
  stops = list_read 3 input;
  delays = list_read 4 input;
  warps = list_read 5 input;
  speeds = speed_columns (numbers_read 6 1 input) (numbers_read 6 2 input) (numbers_read 6 3 input) (units_read input);
  scrolls = list_read 7 input;
  fakes = list_read 8 input;
}
