-- A cursor whose places, rows, time and warp's end each pass their test is not refused. Assumes nothing.
use Rattle.std.proofs.Common.{◌≡◌, ℕ, ◌≤◌, Bool, true, false, ℤ, nat_abs, sym, refl, le-leb}
use lib.Signed.{le_z}
use lib.Ieee.{Float}
use lib.Ieee.Scale.{finite}
use Rattle.picks.specs.Pick.{pick}
use Rattle.limits.specs.Numbers.{row_in}
use Rattle.chart.specs.declared.State.{State}
use Rattle.clock_tests.specs.CursorNumbers.{fresh_mark, places_in, rows_in, end_in, time_and_end_in, cursor_number}

-- the last two tests made as one
pub together : (time end : Float) (found : Bool) → found ≡ time_and_end_in time end → ◌≡◌ {A = ℕ} (pick found 0 9) (pick (finite time) (pick (end_in end) 0 9) 9)
unfolding time_and_end_in
together time end found h = rw h (go (finite time) (end_in end))
  where
    go : (f e : Bool) → ◌≡◌ {A = ℕ} (pick (pick f e false) 0 9) (pick f (pick e 0 9) 9)
    go true e = refl
    go false e = refl

pub cursor-taken : (tempos stops delays warps : ℕ) (s : State) (asked : ℤ)
    → s.tempos ≤ tempos → s.stops ≤ stops → s.delays ≤ delays → s.warps ≤ warps
    → nat_abs s.row ≤ 3145728 → pick (row_in asked) true (le_z asked fresh_mark) ≡ true → time_and_end_in s.time s.end ≡ true
    → cursor_number tempos stops delays warps s asked ≡ 0
unfolding cursor_number places_in rows_in row_in
cursor-taken tempos stops delays warps s asked p q u v near mark fine =
    rw (
      le-leb s.tempos tempos p,
      le-leb s.stops stops q,
      le-leb s.delays delays u,
      le-leb s.warps warps v,
      le-leb (nat_abs s.row) 3145728 near,
      mark,
    ) (sym (together s.time s.end true (sym fine)))
