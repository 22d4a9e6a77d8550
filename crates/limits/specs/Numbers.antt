-- Which numbers are taken, by kind. Definitions only.
use Rattle.std.specs.Prelude.{ℕ, ◌+◌, Bool, true, false, List, [], ◌∷◌, leb, ℤ, pos, negsuc, nat_abs, Float}
use Rattle.std.specs.Float.{inf, fin}
use Rattle.std.specs.Float.Ieee.{le, lt, eq, neg}
use Rattle.ieee.specs.Constants.{plus_zero}
use Rattle.picks.specs.Pick.{pick}
use Rattle.limits.specs.declared.Kind.{Kind}
use Rattle.limits.specs.declared.Kind.TheVariants.{Beat, RawBeat, RawTempo, TidyTempo, Tempo, Pause, Value, Offset}
use Rattle.limits.specs.declared.Range.{Range}

abbrev pub power : ℤ → Float
power k = fin false 1 k

-- finite, and at most 2 ^ k in size
abbrev pub up_to : ℕ → Range
up_to k = record { least = plus_zero; most = power (pos k); zeros = true; dropped = false }

-- from 2 ^ -20 to 2 ^ 30 in size, and 0 where it is taken too
abbrev pub tempo : Bool → Range
tempo zero_too = record { least = power (negsuc 19); most = power (pos 30); zeros = zero_too; dropped = false }

-- and what is not finite passes, to be dropped later
abbrev pub or_dropped : Range → Range
or_dropped range = record { least = range.least; most = range.most; zeros = range.zeros; dropped = true }

-- The ranges. A raw tempo or stop may have a number that is not finite: processing drops the entry.
abbrev pub range_of : Kind → Range
range_of Beat = up_to 16
range_of RawBeat = or_dropped (up_to 16)
range_of RawTempo = or_dropped (tempo true)
range_of TidyTempo = tempo true
range_of Tempo = tempo false
range_of Pause = up_to 50
range_of Value = up_to 30
range_of Offset = up_to 20

abbrev pub size_of : Float → Float
size_of x = pick (lt x plus_zero) (neg x) x

-- by size: at most the most, and at least the least or a 0 that is taken; beyond the most only what is not finite can pass
unfoldable pub in_range : Range → Float → Bool
in_range range x =
    pick (le (size_of x) range.most)
    (pick (le range.least (size_of x)) true (pick (eq (size_of x) plus_zero) range.zeros false))
    (pick (lt (size_of x) (inf false)) false range.dropped)

-- every number of a list passes a test
unfoldable pub every : {A : Type 0} → (A → Bool) → List A → Bool
every test [] = true
every test (x ∷ list) = pick (test x) (every test list) false

-- 1 for a number that fails it
abbrev pub miss : {A : Type 0} → (A → Bool) → A → ℕ
miss test x = pick (test x) 0 1

-- how many of a list fail it
unfoldable pub misses : {A : Type 0} → (A → Bool) → List A → ℕ
misses test [] = 0
misses test (x ∷ list) = miss test x + misses test list

abbrev pub all_in : Range → List Float → Bool
all_in range column = every (in_range range) column

-- a speed's unit: 0 is beats, 1 is seconds
abbrev pub is_unit : ℕ → Bool
is_unit unit = leb unit 1

abbrev pub units_in : List ℕ → Bool
units_in units = every is_unit units

-- how far from 0 a row may be: 65,536 beats of 48 rows
abbrev pub most_row : ℕ
most_row = 3145728

unfoldable pub row_in : ℤ → Bool
row_in row = leb (nat_abs row) most_row
