-- The colours of the 48 places, and the remainder of a row that may be negative. Assumes nothing.
use Prim.Native.Nat.{ℕ, zero, suc, ◌-◌, ◌/◌, ◌%◌, ◌<◌}
use mathlib.Core.Path.{◌≡◌, refl, sym, ap, ◌∙◌}
use mathlib.Core.Bool.{Bool, true, false}
use mathlib.Core.List.{List, [], ◌∷◌}
use mathlib.Core.Logic.{inl, inr}
use native.Mathlib.Omega.{arith}
use lib.Dec.{eqb}
use lib.IntN.{ℤ, pos, negsuc, neg_ℤ, ◌+ℤ◌}
use lib.Signed.{mag, lt_z, quot_z, rem_z}
use mir.Syntax.{w32}
use mir.Val.{SFits}
use types.Run.{OneOf}
use borrow.Author.Tests.{ne_eqb, ltb-true, le-ltb}
use native.Mathlib.Nat.{eq-or-lt_of_le, le_of_suc-le-suc}
use Rattle.picks.specs.Pick.{pick}
use Rattle.note_sheet.specs.Snap.{place_in_beat, first_rule, snap_number}
use Rattle.note_sheet.specs.declared.Snap.{Snap}
use Rattle.note_sheet.specs.declared.Snap.TheVariants.{Fourth, Eighth, Twelfth, Sixteenth, TwentyFourth, ThirtySecond, FortyEighth, SixtyFourth, OneNinetySecond}

-- ---- an arm of grouped places: the colour of each is the arm's
abbrev pub AllAre : Snap → List ℕ → Type 0
AllAre snap [] = Unit {0}
AllAre snap (k ∷ ks) = (snap ≡ first_rule k) × AllAre snap ks

pub one_of : (snap : Snap) (ks : List ℕ) (place : ℕ) → AllAre snap ks → OneOf ks place → snap ≡ first_rule place
one_of snap [] place all h = absurd h
one_of snap (k ∷ []) place all h = all.0 ∙ ap first_rule (sym h)
one_of snap (k ∷ j ∷ ks) place all h = elim h [ inl e ↦ all.0 ∙ ap first_rule (sym e) | inr l ↦ one_of snap (j ∷ ks) place all.1 l ]

-- ---- every other place
pub is_one : List ℕ → ℕ → Bool
is_one [] place = false
is_one (k ∷ ks) place = pick (eqb place k) true (is_one ks place)

none_of : (ks : List ℕ) (place : ℕ) → (OneOf ks place → ⊥) → is_one ks place ≡ false
unfolding is_one
none_of [] place other = refl
none_of (k ∷ []) place other = rw (ne_eqb place k other)
none_of (k ∷ j ∷ ks) place other = rw (ne_eqb place k (λ e. other (inl e))) (none_of (j ∷ ks) place (λ l. other (inr l)))

all_below : (ℕ → Bool) → ℕ → Bool
all_below test zero = true
all_below test (suc n) = pick (test n) (all_below test n) false

at-below : (test : ℕ → Bool) (n : ℕ) → all_below test n ≡ true → (place : ℕ) → place < n → test place ≡ true
unfolding all_below
at-below test zero all place h = absurd (omega arith)
at-below test (suc n) all place h = go (test n) refl all (λ k less. at-below test n k place less)
  where
    go : (t : Bool) → test n ≡ t → pick t (all_below test n) false ≡ true → (all_below test n ≡ true → place < n → test place ≡ true) → test place ≡ true
    go false e k earlier = let z : ◌≡◌ {A = ℕ} 0 1 = cc in absurd (omega arith)
    go true e k earlier = elim (eq-or-lt_of_le (le_of_suc-le-suc h)) [ inl same ↦ ap test same ∙ e | inr less ↦ earlier k less ]

-- each of the 48 places is in a group or a 192nd
tested : ℕ → Bool
tested place =
    pick (is_one (0 ∷ []) place) true
    (pick (is_one (24 ∷ []) place) true
    (pick (is_one (16 ∷ 32 ∷ []) place) true
    (pick (is_one (12 ∷ 36 ∷ []) place) true
    (pick (is_one (8 ∷ 40 ∷ []) place) true
    (pick (is_one (6 ∷ 18 ∷ 30 ∷ 42 ∷ []) place) true
    (pick (is_one (4 ∷ 20 ∷ 28 ∷ 44 ∷ []) place) true
    (pick (is_one (3 ∷ 9 ∷ 15 ∷ 21 ∷ 27 ∷ 33 ∷ 39 ∷ 45 ∷ []) place) true
    (eqb (snap_number (first_rule place)) 8))))))))

last_colour : (snap : Snap) → eqb (snap_number snap) 8 ≡ true → OneNinetySecond ≡ snap
unfolding snap_number
last_colour Fourth h = let z : ◌≡◌ {A = ℕ} 0 1 = cc in absurd (omega arith)
last_colour Eighth h = let z : ◌≡◌ {A = ℕ} 0 1 = cc in absurd (omega arith)
last_colour Twelfth h = let z : ◌≡◌ {A = ℕ} 0 1 = cc in absurd (omega arith)
last_colour Sixteenth h = let z : ◌≡◌ {A = ℕ} 0 1 = cc in absurd (omega arith)
last_colour TwentyFourth h = let z : ◌≡◌ {A = ℕ} 0 1 = cc in absurd (omega arith)
last_colour ThirtySecond h = let z : ◌≡◌ {A = ℕ} 0 1 = cc in absurd (omega arith)
last_colour FortyEighth h = let z : ◌≡◌ {A = ℕ} 0 1 = cc in absurd (omega arith)
last_colour SixtyFourth h = let z : ◌≡◌ {A = ℕ} 0 1 = cc in absurd (omega arith)
last_colour OneNinetySecond h = refl

all_tested : all_below tested 48 ≡ true
unfolding all_below tested is_one first_rule snap_number
all_tested = refl

pub rest_of : (place : ℕ) → place < 48 → (OneOf (0 ∷ []) place → ⊥) → (OneOf (24 ∷ []) place → ⊥) → (OneOf (16 ∷ 32 ∷ []) place → ⊥)
    → (OneOf (12 ∷ 36 ∷ []) place → ⊥) → (OneOf (8 ∷ 40 ∷ []) place → ⊥) → (OneOf (6 ∷ 18 ∷ 30 ∷ 42 ∷ []) place → ⊥)
    → (OneOf (4 ∷ 20 ∷ 28 ∷ 44 ∷ []) place → ⊥) → (OneOf (3 ∷ 9 ∷ 15 ∷ 21 ∷ 27 ∷ 33 ∷ 39 ∷ 45 ∷ []) place → ⊥)
    → OneNinetySecond ≡ first_rule place
unfolding tested
rest_of place h a b c d e f g i =
    last_colour (first_rule place)
    (rw (none_of _ place a, none_of _ place b, none_of _ place c, none_of _ place d, none_of _ place e, none_of _ place f, none_of _ place g, none_of _ place i) at (at-below tested 48 all_tested place h))

-- ---- the remainder, and 48 more where it is negative
neg_mag : (m : ℕ) → m < 2147483648 → mag (neg_ℤ (pos m)) < 2147483648
neg_mag zero h = omega arith
neg_mag (suc m) h = omega arith

pub quot_fits : (row : ℤ) → SFits w32 row → SFits w32 (quot_z row (pos 48))
quot_fits (pos n) f = record { sfits = omega (arith, f.sfits) }
quot_fits (negsuc n) f = record { sfits = neg_mag (suc n / 48) (omega (arith, f.sfits)) }

pub rest-fits : (row : ℤ) → SFits w32 (rem_z row (pos 48))
rest-fits (pos n) = record { sfits = omega arith }
rest-fits (negsuc n) = record { sfits = neg_mag (suc n % 48) (omega arith) }

pub negative-rest : (row : ℤ) → lt_z (rem_z row (pos 48)) (pos 0) ≡ true → rem_z row (pos 48) +ℤ pos 48 ≡ pos (place_in_beat row)
unfolding place_in_beat
negative-rest (pos n) h = absurd (omega (arith, ltb-true (n % 48) 0 h))
negative-rest (negsuc n) h = go (suc n % 48) refl h
  where
    go : (m : ℕ) → suc n % 48 ≡ m → lt_z (neg_ℤ (pos m)) (pos 0) ≡ true → neg_ℤ (pos m) +ℤ pos 48 ≡ pos (47 - n % 48)
    go zero e k = let z : ◌≡◌ {A = ℕ} 0 1 = cc in absurd (omega arith)
    go (suc m) e k = rw (le-ltb 48 (suc m) (omega arith)) (ap pos (omega arith))

pub other-rest : (row : ℤ) → lt_z (rem_z row (pos 48)) (pos 0) ≡ false → rem_z row (pos 48) ≡ pos (place_in_beat row)
unfolding place_in_beat
other-rest (pos n) h = refl
other-rest (negsuc n) h = go (suc n % 48) refl h
  where
    go : (m : ℕ) → suc n % 48 ≡ m → lt_z (neg_ℤ (pos m)) (pos 0) ≡ false → neg_ℤ (pos m) ≡ pos (47 - n % 48)
    go zero e k = ap pos (omega arith)
    go (suc m) e k = let z : ◌≡◌ {A = ℕ} 0 1 = cc in absurd (omega arith)
