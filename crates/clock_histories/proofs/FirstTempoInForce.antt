-- Up to row 0 the tempo at a row is the first one, where tempos start at beat 0 and rise. Assumes nothing.
use Prim.Native.Nat.{◌≤◌}
use mathlib.Core.List.{List, [], ◌∷◌}
use mathlib.Core.Bool.{Bool, true, false}
use mathlib.Core.Path.{◌≡◌, refl, sym, ◌∙◌, subst}
use borrow.Author.Tests.{leb-true, le-ltb}
use lib.Dec.{T}
use lib.IntN.{ℤ, pos, negsuc, nat_abs}
use lib.Signed.{lt_z, le_z}
use lib.Ieee.{Float, binary64, le}
use Rattle.ieee.specs.Constants.{sixty}
use Rattle.picks.specs.Pick.{pick}
use Rattle.rows.specs.Rows.{row, beat_of, allowed_beat}
use Rattle.rows.proofs.RowsKeepOrder.{row_mono}
use Rattle.rows.proofs.RowOfBeat.{row_of_beat}
use Rattle.rows.proofs.RowOfZero.{row_of_zero}
use Rattle.rows.proofs.BeatsRise.{beat-allowed}
use Rattle.limits.specs.Numbers.{range_of, in_range, all_in, every, most_row}
use Rattle.limits.specs.declared.Kind.TheVariants.{Beat}
use Rattle.clock_walk.specs.Passing.{first_or, last_up_to, tempo_at}
use Rattle.rows.proofs.RowOrder.{no, lt_le}
use Rattle.clock_walk.proofs.BeforeAnyTempo.{Low}
use Rattle.clock_tests.specs.TimingNumbers.{rises_from, rises, starts_at_zero}
use Rattle.rows.proofs.Allowed.{taken-allowed}

le_not : (a b : ℤ) → T (le_z a b) → lt_z b a ≡ false
le_not (pos a) (pos b) h = le-ltb b a (leb-true a b (truth _ h))
  where
    truth : (x : Bool) → T x → x ≡ true
    truth true t = refl
    truth false t = absurd t
le_not (pos a) (negsuc b) h = absurd h
le_not (negsuc a) (pos b) h = refl
le_not (negsuc a) (negsuc b) h = le-ltb a b (leb-true b a (truth _ h))
  where
    truth : (x : Bool) → T x → x ≡ true
    truth true t = refl
    truth false t = absurd t

-- a tempo above row 0 is later than any row up to 0
later : (b : Float) (r : ℤ) → T (allowed_beat b) → nat_abs r ≤ most_row → lt_z (pos 0) (row binary64 b) ≡ true → Low r → le b (beat_of binary64 r) ≡ false
later b r allowed near above low = go (le b (beat_of binary64 r)) refl
  where
    go : (x : Bool) → le b (beat_of binary64 r) ≡ x → x ≡ false
    go false e = refl
    go true e =
        let m = row_mono binary64 b (beat_of binary64 r) allowed (beat-allowed binary64 r near) (subst T (sym e) tt) in
        let k : T (le_z (row binary64 b) r) = subst (λ (z : ℤ). T (le_z (row binary64 b) z)) (row_of_beat binary64 binary64 r near) m in
        no (sym low ∙ lt_le (pos 0) (row binary64 b) r above (le_not (row binary64 b) r k))

first_two : (b c : Bool) → pick b c false ≡ true → (b ≡ true) × (c ≡ true)
first_two true c h = (refl, h)
first_two false c h = no h

-- the second tempo is later
second-later : (beats values : List Float) (v : Float) (r : ℤ) → all_in (range_of Beat) beats ≡ true → rises_from (pos 0) beats ≡ true → nat_abs r ≤ most_row → Low r
    → last_up_to (beat_of binary64 r) v beats values ≡ v
unfolding last_up_to rises_from every
second-later [] values v r all rise near low = refl
second-later (b ∷ beats) [] v r all rise near low = refl
second-later (b ∷ beats) (w ∷ values) v r all rise near low =
    rw (later b r (taken-allowed b (first_two (in_range (range_of Beat) b) (all_in (range_of Beat) beats) all).0) near (first_two (lt_z (pos 0) (row binary64 b)) (rises_from (row binary64 b) beats) rise).0 low)

picked : (x : Bool) (v w : Float) → w ≡ v → pick x w v ≡ v
picked true v w e = e
picked false v w e = refl

pub first_in_force : (beats values : List Float) (r : ℤ) → all_in (range_of Beat) beats ≡ true → starts_at_zero beats ≡ true → rises beats ≡ true → nat_abs r ≤ most_row → Low r
    → tempo_at beats values r ≡ first_or sixty values
unfolding tempo_at last_up_to starts_at_zero rises every
first_in_force [] values r all starts rise near low = refl
first_in_force (b ∷ beats) [] r all starts rise near low = refl
first_in_force (b ∷ beats) (v ∷ values) r all starts rise near low =
    picked (le b (beat_of binary64 r)) v (last_up_to (beat_of binary64 r) v beats values)
    (second-later beats values v r (first_two (in_range (range_of Beat) b) (all_in (range_of Beat) beats) all).1 (subst (λ (z : ℤ). rises_from z beats ≡ true) (row_of_zero binary64 b starts) rise) near low)
