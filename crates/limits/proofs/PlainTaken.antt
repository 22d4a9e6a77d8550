-- A number that is in the range of its kind by its size alone is taken, and so is a column of them. Assumes nothing.
use Prim.Native.Nat.{ℕ}
use mathlib.Core.Path.{◌≡◌, refl, sym, subst, ◌∙◌}
use mathlib.Core.Bool.{Bool, true, false, ◌&&◌}
use mathlib.Core.List.{List}
use lib.Dec.{T}
use lib.IntN.{pos}
use lib.Ieee.{Float, nan, inf, fin, neg, le, lt, eq}
use Rattle.ieee.specs.Constants.{plus_zero}
use Rattle.picks.specs.Pick.{pick}
use Rattle.ieee.specs.Magnitude.{within_power}
use Rattle.ieee.proofs.Magnitude.{sized}
use Rattle.limits.specs.declared.Kind.{Kind}
use Rattle.limits.specs.declared.Kind.TheVariants.{Beat, RawBeat, RawTempo, TidyTempo, Tempo, Pause, Value, Offset}
use Rattle.limits.specs.declared.Range.{Range}
use Rattle.limits.specs.Numbers.{in_range, range_of, up_to, tempo, or_dropped, power, size_of, every, all_in}
use Rattle.limits.specs.Plain.{inside, within, plain}
use Rattle.limits.proofs.Every.{every_more}
use Rattle.limits.proofs.TakenWithin.{first-test, within-taken}
use Rattle.limits.proofs.TempoSizes.{least, outside-reaches}

both-tests : (t u : Bool) → pick t false u ≡ true → (t ≡ false) × (u ≡ true)
both-tests true u h = absurd (subst T (sym h) tt)
both-tests false u h = (refl, h)

plain-parts : (range : Range) (x : Float) → plain range x ≡ true → (inside range.least x ≡ false) × (within range.most x ≡ true)
unfolding plain
plain-parts range x h = both-tests (inside range.least x) (within range.most x) h

-- ---- up to a power of two
and_is : (t u : Bool) → (t && u) ≡ pick t u false
and_is true u = refl
and_is false u = refl

within-power : (k : ℕ) (x : Float) → within (power (pos k)) x ≡ true → T (within_power k x)
unfolding within within_power neg
within-power k x h = subst T (sym (and_is (le (neg (power (pos k))) x) (le x (power (pos k))) ∙ h)) tt

plain_up_to : (k : ℕ) (x : Float) → plain (up_to k) x ≡ true → in_range (up_to k) x ≡ true
plain_up_to k x h = within-taken k x (within-power k x (plain-parts (up_to k) x h).1)

-- ---- tempos
yes : (t : Bool) → T t → t ≡ true
yes true h = refl
yes false h = absurd h

plain-tempo : (zero_too : Bool) (x : Float) → plain (tempo zero_too) x ≡ true → in_range (tempo zero_too) x ≡ true
unfolding in_range
plain-tempo zero_too x h = go x p.0 (within-power 30 x p.1)
  where
    p : (inside least x ≡ false) × (within (power (pos 30)) x ≡ true)
    p = plain-parts (tempo zero_too) x h

    go : (x : Float) → inside least x ≡ false → T (within_power 30 x) → in_range (tempo zero_too) x ≡ true
    go nan i w = absurd (sized 30 nan w).value
    go (inf s) i w = absurd (sized 30 (inf s) w).value
    go (fin s m e) i w =
        let size = size_of (fin s m e) in
        let most = first-test 30 (le size (power (pos 30))) (pick (le plus_zero size) true (pick (eq size plus_zero) true false)) (lt size (inf false)) (within-taken 30 (fin s m e) w) in
        rw (yes (le size (power (pos 30))) most, yes (le least size) (outside-reaches m e s i))

-- ---- every kind
or_dropped_lem : (range : Range) (x : Float) → in_range range x ≡ true → in_range (or_dropped range) x ≡ true
unfolding in_range
or_dropped_lem range x h = go (le (size_of x) range.most) _ (lt (size_of x) (inf false)) h
  where
    go : (most rest finite : Bool) → pick most rest (pick finite false range.dropped) ≡ true → pick most rest (pick finite false true) ≡ true
    go true rest finite h = h
    go false rest true h = h
    go false rest false h = refl

plain-taken : (kind : Kind) (x : Float) → plain (range_of kind) x ≡ true → in_range (range_of kind) x ≡ true
unfolding plain
plain-taken Beat x h = plain_up_to 16 x h
plain-taken RawBeat x h = or_dropped_lem (up_to 16) x (plain_up_to 16 x h)
plain-taken RawTempo x h = or_dropped_lem (tempo true) x (plain-tempo true x h)
plain-taken TidyTempo x h = plain-tempo true x h
plain-taken Tempo x h = plain-tempo false x h
plain-taken Pause x h = plain_up_to 50 x h
plain-taken Value x h = plain_up_to 30 x h
plain-taken Offset x h = plain_up_to 20 x h

pub all_plain_taken : (kind : Kind) (column : List Float) → every (plain (range_of kind)) column ≡ true → all_in (range_of kind) column ≡ true
all_plain_taken kind column h = every_more (plain (range_of kind)) (in_range (range_of kind)) (plain-taken kind) column h
