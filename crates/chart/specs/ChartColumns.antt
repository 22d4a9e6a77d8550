-- A chart's seven lists as columns: as they are given, as the rooms for a timing, and as those rooms are left. Definitions only.
use Rattle.std.specs.Prelude.{ℕ, List, Float}
use Rattle.std.specs.Borrow.{MutBor}
use denote.Triple.Both.{Both}

-- ---- lists

-- a list of two columns: beats, with a value or a length each
pub record ListColumns : Type 0 where
  pub beats : List Float
  pub values : List Float

abbrev pub list_columns : (beats values : List Float) → ListColumns
list_columns beats values = record { beats = beats; values = values }

-- a list of speeds
pub record SpeedColumns : Type 0 where
  pub beats : List Float
  pub ratios : List Float
  pub delays : List Float
  pub units : List ℕ

abbrev pub speed_columns : (beats ratios delays : List Float) (units : List ℕ) → SpeedColumns
speed_columns beats ratios delays units = record { beats = beats; ratios = ratios; delays = delays; units = units }

-- the seven lists of a chart
pub record ChartColumns : Type 0 where
  pub tempos : ListColumns
  pub stops : ListColumns
  pub delays : ListColumns
  pub warps : ListColumns
  pub speeds : SpeedColumns
  pub scrolls : ListColumns
  pub fakes : ListColumns

abbrev pub chart_columns : (tempos stops delays warps : ListColumns) (speeds : SpeedColumns) (scrolls fakes : ListColumns) → ChartColumns
chart_columns tempos stops delays warps speeds scrolls fakes = record {
  tempos = tempos;
  stops = stops;
  delays = delays;
  warps = warps;
  speeds = speeds;
  scrolls = scrolls;
  fakes = fakes;
}

-- how many entries of each list there is room for
pub record ChartRoom : Type 0 where
  pub tempos : ℕ
  pub stops : ℕ
  pub delays : ℕ
  pub warps : ℕ
  pub speeds : ℕ
  pub scrolls : ℕ
  pub fakes : ℕ

-- the same for each
abbrev pub room_for_each : ℕ → ChartRoom
room_for_each n = record { tempos = n; stops = n; delays = n; warps = n; speeds = n; scrolls = n; fakes = n }

-- ---- lists whose columns are lent to a call, as its contract names them

-- a lent column: `.entry .now` is the list as the call begins, `.exit .now` as it ends
abbrev pub Lent : Type 0 → Type 0
Lent A = Both (MutBor (List A)) (MutBor (List A))

pub record LentColumns : Type 0 where
  pub beats : Lent Float
  pub values : Lent Float

abbrev pub lent_columns : (beats values : Lent Float) → LentColumns
lent_columns beats values = record { beats = beats; values = values }

pub record LentSpeeds : Type 0 where
  pub beats : Lent Float
  pub ratios : Lent Float
  pub delays : Lent Float
  pub units : Lent ℕ

abbrev pub lent_speeds : (beats ratios delays : Lent Float) (units : Lent ℕ) → LentSpeeds
lent_speeds beats ratios delays units = record { beats = beats; ratios = ratios; delays = delays; units = units }

pub record LentChart : Type 0 where
  pub tempos : LentColumns
  pub stops : LentColumns
  pub delays : LentColumns
  pub warps : LentColumns
  pub speeds : LentSpeeds
  pub scrolls : LentColumns
  pub fakes : LentColumns

-- one list as the call begins, and as it ends
abbrev pub list_before : LentColumns → ListColumns
list_before l = list_columns l.beats.entry.now l.values.entry.now

abbrev pub list_after : LentColumns → ListColumns
list_after l = list_columns l.beats.exit.now l.values.exit.now

abbrev pub speeds_before : LentSpeeds → SpeedColumns
speeds_before l = speed_columns l.beats.entry.now l.ratios.entry.now l.delays.entry.now l.units.entry.now

abbrev pub speeds_after : LentSpeeds → SpeedColumns
speeds_after l = speed_columns l.beats.exit.now l.ratios.exit.now l.delays.exit.now l.units.exit.now

-- all seven as the call begins, and as it ends
abbrev pub before : LentChart → ChartColumns
before l = record {
  tempos = list_before l.tempos;
  stops = list_before l.stops;
  delays = list_before l.delays;
  warps = list_before l.warps;
  speeds = speeds_before l.speeds;
  scrolls = list_before l.scrolls;
  fakes = list_before l.fakes;
}

abbrev pub after : LentChart → ChartColumns
after l = record {
  tempos = list_after l.tempos;
  stops = list_after l.stops;
  delays = list_after l.delays;
  warps = list_after l.warps;
  speeds = speeds_after l.speeds;
  scrolls = list_after l.scrolls;
  fakes = list_after l.fakes;
}
