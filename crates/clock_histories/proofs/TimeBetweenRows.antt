-- From one row within the limit to another at most 2 ^ 43 seconds pass, at a tempo that is taken. Assumes nothing.
use Prim.Native.Nat.{ℕ, ◌+◌, ◌-◌, ◌^◌, ◌≤◌}
use mathlib.Core.List.{List}
use mathlib.Core.Bool.{Bool, true, false}
use mathlib.Core.Path.{refl, sym, subst}
use native.Mathlib.Nat.{zero-lt-suc}
use native.Mathlib.Omega.{arith}
use lib.Dec.{lit≤}
use lib.IntN.{ℤ, nat_abs, ◌-ℤ◌}
use lib.Ieee.{Float, binary64, div}
use Rattle.ieee.specs.Constants.{plus_zero, sixty}
use Rattle.picks.specs.Pick.{pick}
use Rattle.ieee.proofs.SignedSizes.{negative}
use Rattle.ieee.proofs.Magnitude.{AtMost}
use Rattle.ieee.proofs.SizesAddUp.{AtLeast, power_of_format, at_most_finite, round_at_most, div_at_most, div_at_least}
use Rattle.limits.specs.Numbers.{most_row}
use Rattle.rows.specs.Rows.{beat_of}
use Rattle.rows.proofs.RowValue.{beat-rounded}
use Rattle.limits.proofs.TempoSizes.{tempo_at_most, tempo_at_least}
use Rattle.clock_walk.specs.Passing.{in_force, time_to}
use Rattle.chart.specs.declared.State.{State}
use Rattle.rows.proofs.RowsApart.{apart}
use Rattle.clock_histories.proofs.TempoInForce.{IsTempo}

-- ---- the beats between two rows
pub beats-between : (d : ℤ) → nat_abs d ≤ most_row + most_row → AtMost (2 ^ 17) (beat_of binary64 d)
beats-between d h =
    subst (AtMost (2 ^ 17)) (sym (beat-rounded binary64 d (omega arith)))
    (round_at_most binary64 (power_of_format binary64 17 (lit≤ tt)) (negative d) (nat_abs d) 48 (zero-lt-suc 47) (omega arith))

-- ---- beats a second
sixty_at_most : AtMost 60 sixty
sixty_at_most = record { negative = false; num = 60; den = 1; den_pos = zero-lt-suc 0; value = (refl, refl); small = lit≤ tt }

sixty_at_least : AtLeast 0 sixty
sixty_at_least = record { negative = false; num = 60; den = 1; den_pos = zero-lt-suc 0; value = (refl, refl); large = lit≤ tt }

pub pace_at_least : (tempo : Float) → IsTempo tempo → AtLeast 26 (div binary64 tempo sixty)
unfolding sixty_at_most
pace_at_least tempo h =
    let finite = at_most_finite (div_at_most binary64 (power_of_format binary64 30 (lit≤ tt)) tempo sixty (tempo_at_most false tempo h) sixty_at_least (lit≤ tt)) in
    div_at_least binary64 _ (lit≤ tt) (lit≤ tt) tempo sixty (tempo_at_least tempo h) sixty_at_most (zero-lt-suc 59) finite

none_at_most : {bound : ℕ} → AtMost bound plus_zero
none_at_most = record { negative = false; num = 0; den = 1; den_pos = zero-lt-suc 0; value = (refl, refl); small = omega arith }

-- ---- the time between two rows
pub time-between : (early : Float) (values : List Float) (s : State) (at : ℤ) → nat_abs s.row ≤ most_row → nat_abs at ≤ most_row → IsTempo (in_force early values s.tempos) → AtMost (2 ^ 43) (time_to early values s at)
unfolding time_to
time-between early values s at near there tempo = go s.warping
  where
    go : (b : Bool) → AtMost (2 ^ 43) (pick b plus_zero (div binary64 (beat_of binary64 (at -ℤ s.row)) (div binary64 (in_force early values s.tempos) sixty)))
    go true = none_at_most
    go false =
        div_at_most binary64 (power_of_format binary64 43 (lit≤ tt)) (beat_of binary64 (at -ℤ s.row)) (div binary64 (in_force early values s.tempos) sixty)
        (beats-between (at -ℤ s.row) (omega (arith, apart at s.row)))
        (pace_at_least (in_force early values s.tempos) tempo)
        (lit≤ tt)
