-- An allowed beat is one that is taken, and of at most 2 ^ 16 in size. Assumes nothing.
use Rattle.std.proofs.Common.{◌≡◌, ℕ, ◌<◌, Bool, true, false, not, T, List, length, get_or, sym, refl, subst}
use lib.Ieee.{Float, nan, is_nan}
use lib.Ieee.Scale.{finite}
use Rattle.ieee.specs.Magnitude.{within_power}
use Rattle.ieee.proofs.Magnitude.{Sized, sized, within-finite}
use Rattle.ieee.proofs.Values.{finite_number}
use Rattle.limits.specs.declared.Kind.TheVariants.{Beat}
use Rattle.limits.specs.Numbers.{in_range, range_of, all_in}
use Rattle.limits.proofs.Every.{every-at}
use Rattle.limits.proofs.TakenWithin.{taken-within, within-taken}
use Rattle.rows.specs.Rows.{allowed_beat}

pub taken-allowed : (beat : Float) → in_range (range_of Beat) beat ≡ true → T (allowed_beat beat)
taken-allowed beat h = subst T (sym h) tt

pub allowed-taken : (beat : Float) → T (allowed_beat beat) → in_range (range_of Beat) beat ≡ true
allowed-taken beat h = go (allowed_beat beat) h
  where
    go : (t : Bool) → T t → t ≡ true
    go true h = refl
    go false h = absurd h

pub allowed-within : (beat : Float) → T (allowed_beat beat) → T (within_power 16 beat)
allowed-within beat h = taken-within 16 beat (allowed-taken beat h)

pub within-allowed : (beat : Float) → T (within_power 16 beat) → T (allowed_beat beat)
within-allowed beat h = taken-allowed beat (within-taken 16 beat h)

pub allowed-sized : (beat : Float) → T (allowed_beat beat) → Sized 16 beat
allowed-sized beat h = sized 16 beat (allowed-within beat h)

pub allowed-finite : (beat : Float) → T (allowed_beat beat) → T (finite beat)
allowed-finite beat h = within-finite 16 beat (allowed-within beat h)

pub allowed-number : (beat : Float) → T (allowed_beat beat) → T (not (is_nan beat))
allowed-number beat h = finite_number beat (allowed-finite beat h)

-- each beat of a list whose beats are taken
pub allowed_at : (beats : List Float) (i : ℕ) → all_in (range_of Beat) beats ≡ true → i < length beats → T (allowed_beat (get_or beats i nan))
allowed_at beats i h inside = taken-allowed (get_or beats i nan) (every-at (in_range (range_of Beat)) beats i nan h inside)
