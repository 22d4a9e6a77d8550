-- The offset of beat 0 is at most 2 ^ 40 in size: at most 1,024 stops are taken off, each of at most 2 ^ 30. Assumes nothing.
use Prim.Native.Nat.{ℕ, suc, ◌+◌, ◌*◌, ◌^◌, ◌≤◌, ◌<◌}
use mathlib.Core.Bool.{false}
use mathlib.Core.List.{List, [], ◌∷◌}
use mathlib.Core.Path.{◌≡◌, refl}
use native.Mathlib.Nat.{zero-lt-suc}
use native.Mathlib.Omega.{arith}
use lib.Dec.{lit≤, lit<}
use lib.ListN.{length}
use lib.Ieee.{Float, binary32, sub, lt, of_bits}
use Rattle.ieee.specs.Constants.{plus_zero32}
use Rattle.ieee.proofs.Magnitude.{AtMost, Sized}
use Rattle.ieee.proofs.SizesAddUp.{digits_of_format, at_most_wider, sub_at_most}
use Rattle.limits.proofs.TempoSizes.{tempo_at_most}
use Rattle.process_raw.specs.RawLists.{raw_number}
use Rattle.process_sm_machine.proofs.Either.{either}
use Rattle.process_sm_changes.specs.SmChanges.{sm_changes}
use Rattle.process_sm_walk.specs.Chart.{taken_off, offset_of}
use Rattle.process_sm_laws.proofs.ChangesTaken.{IsTempo, changes-most, tempos_in}
use Rattle.process_sm_laws.proofs.WalkWithin.{Values}

-- so many times 2 ^ 30
abbrev pauses : ℕ → ℕ
pauses n = n * 2 ^ 30

taken-off : (m : ℕ) → m < 2 ^ 24 → (stops : List (Float × Float)) (offset : Float) (n : ℕ) → n + length stops ≤ m → AtMost (pauses n) offset → Values IsTempo stops → AtMost (pauses m) (taken_off offset stops)
unfolding taken_off
taken-off m few [] offset n h o v = at_most_wider (omega arith) o
taken-off m few (stop ∷ stops) offset n h o v =
    either (AtMost (pauses m)) (lt stop.0 plus_zero32) _ _
    (taken-off m few stops (sub binary32 offset stop.1) (suc n) (omega arith)
    (sub_at_most binary32 (digits_of_format binary32 (suc n) 30 (omega arith) (lit≤ tt)) offset stop.1 o (tempo_at_most false stop.1 v.0) (omega arith)) v.1)
    (at_most_wider (omega arith) o)

none-off : AtMost (pauses 0) plus_zero32
unfolding of_bits
none-off = record { negative = false; num = 0; den = 1; den_pos = zero-lt-suc 0; value = (refl, refl); small = omega arith }

pub offset_at_most : (stop_beats stop_values : List Float) → raw_number stop_beats stop_values ≡ 0 → Sized 40 (offset_of (sm_changes stop_beats stop_values))
offset_at_most stop_beats stop_values taken =
    at_most_wider (lit≤ tt) (taken-off 1024 (lit< tt) (sm_changes stop_beats stop_values) plus_zero32 0 (omega (arith, changes-most stop_beats stop_values taken)) none-off (tempos_in stop_beats stop_values taken))
