-- What is asked of a sheet. Definitions only.
--
-- No row of it is refused; each time is the time that a fresh cursor gives for that row's beat, bit for bit; each mark is what the lookup answers of that row
-- by itself; and all steps together are at most one round of events and one for each row: tempos, stops and delays, warps twice, and the number of rows.
use Rattle.std.specs.Prelude.{ℕ, ◌+◌, ◌≤◌, List, map, ◌≡◌, ℤ, length, Float}
use Rattle.std.specs.Float.{binary64}
use Rattle.rows.specs.Rows.{beat_of}
use Rattle.order.specs.Entries.{total}
use Rattle.limits.specs.Numbers.{row_in}
use Rattle.lookup_tests.specs.Refused.{judgable_number}
use Rattle.lookup.specs.Lookups.{is_judgable, byte, looked}
use Rattle.clock.specs.History.{number_of, time_of, count_of}
use Rattle.clock_histories.specs.Costs.{events}
use Rattle.clock_histories.specs.Demand.{alone}
use Rattle.note_sheet.specs.Sheet.{Song, notes_of, sheet_answers, judged_of}

-- the answers of one question, to a fresh cursor and to the lookup
abbrev pub time_alone : Song → ℤ → Float
time_alone s row = (alone s.timing s.offset s.global (beat_of binary64 row)).time

abbrev pub judged_alone : Song → ℤ → ℕ
judged_alone s row = byte (looked (judgable_number (notes_of s) (row_in row)) (is_judgable (notes_of s) row)).yes

pub record SheetKept (s : Song) (rows : List ℤ) : Type 0 where
  pub numbers : map number_of (sheet_answers s rows) ≡ map (λ (row : ℤ). 0) rows
  pub times : map time_of (sheet_answers s rows) ≡ map (time_alone s) rows
  pub marks : map (judged_of s) rows ≡ map (judged_alone s) rows
  pub steps : total (map count_of (sheet_answers s rows)) ≤ events s.timing + length rows
