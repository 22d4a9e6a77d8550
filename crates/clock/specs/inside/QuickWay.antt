-- Where a cursor may answer by the quick way: it has passed a tempo, and up to the asked row nothing but tempos is due. Definitions only.
use Rattle.std.specs.Prelude.{ℕ, ◌≤◌, true, false, List, ◌≡◌, eqb, ℤ, pos, length, Float}
use Rattle.std.specs.Int.Signed.{lt_z}
use Rattle.picks.specs.Pick.{pick}
use Rattle.clock_walk.specs.Quiet.{only_tempos}
use Rattle.clock_tests.specs.CursorNumbers.{time_and_end_in, cursor_number}
use Rattle.clock.specs.declared.Cursor.{Cursor}

-- past a tempo of so many, its rows from 0 on and within the limit, its time and its warp's end not refused
pub record PastTempo (c : Cursor) (tempos : ℕ) : Type 0 where
  pub asked_from_zero : lt_z c.asked (pos 0) ≡ false
  pub row_from_zero : lt_z c.state.row (pos 0) ≡ false
  pub row_within : lt_z (pos 3145728) c.state.row ≡ false
  pub passed : eqb c.state.tempos 0 ≡ false
  pub within : c.state.tempos ≤ tempos
  pub numbers_in : time_and_end_in c.state.time c.state.end ≡ true

-- not refused, and the walk to the row goes on from here, past a tempo and over the tempos as they are
pub record NearRow (c : Cursor) (row : ℤ) (tempo_beats stop_beats delay_beats warp_beats : List Float) : Type 0 where
  pub later : lt_z row c.asked ≡ false
  pub some : eqb (length tempo_beats) 0 ≡ false
  pub passed : eqb c.state.tempos 0 ≡ false
  pub only : only_tempos stop_beats delay_beats warp_beats c.state row ≡ true
  pub taken : cursor_number (pick (eqb (length tempo_beats) 0) 1 (length tempo_beats)) (length stop_beats) (length delay_beats) (length warp_beats) c.state c.asked ≡ 0
