-- The cursor test refuses nothing of a state that is fine. Assumes nothing.
use Prim.Native.Nat.{ℕ}
use mathlib.Core.Bool.{true}
use mathlib.Core.Path.{◌≡◌}
use lib.ListN.{length}
use lib.IntN.{ℤ}
use lib.Signed.{le_z}
use lib.Ieee.Bits.{is_true}
use lib.Ieee.Scale.{finite}
use Rattle.picks.specs.Pick.{pick}
use Rattle.ieee.proofs.SizesAddUp.{at_most_finite}
use Rattle.limits.specs.Numbers.{row_in}
use Rattle.chart.specs.Timing.{Timing}
use Rattle.chart.specs.declared.State.{State}
use Rattle.clock_tests.specs.CursorNumbers.{fresh_mark, time_and_end_in, cursor_number}
use Rattle.clock_tests.proofs.CursorTaken.{cursor-taken}
use Rattle.clock_histories.proofs.WarpEnds.{end_in_lem}
use Rattle.clock_histories.proofs.EachEventKeeps.{Fine}

pub fine-passes : (t : Timing) (s : State) (n : ℕ) (asked : ℤ) → Fine t s n → pick (row_in asked) true (le_z asked fresh_mark) ≡ true
    → cursor_number (length t.tempo_beats) (length t.stop_beats) (length t.delay_beats) (length t.warp_beats) s asked ≡ 0
unfolding time_and_end_in
fine-passes t s n asked f mark =
    let p = f.places in
    cursor-taken (length t.tempo_beats) (length t.stop_beats) (length t.delay_beats) (length t.warp_beats) s asked p.tempos p.stops p.delays p.warps f.near mark
    (rw (is_true (finite s.time) (at_most_finite f.time)) (end_in_lem s.end f.end))
