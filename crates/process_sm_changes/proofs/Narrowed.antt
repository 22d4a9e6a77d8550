-- What stays of a list that is taken, narrowed: beats are allowed f32, and values have the size of a tempo. Assumes nothing.
use Prim.Native.Nat.{ℕ, ◌+◌, ◌*◌, ◌<◌}
use mathlib.Core.Path.{◌≡◌, refl, sym, ◌∙◌, subst}
use mathlib.Core.Bool.{Bool, true, false, not}
use mathlib.Core.Logic.{⊎_elim}
use native.Mathlib.Omega.{arith}
use borrow.Author.Tests.{ltb-true, ltb-false, eq-eqb, ne_eqb}
use lib.Ieee.Fits.{down_pos}
use Rattle.ieee.specs.Constants.{plus_zero}
use Rattle.order.proofs.Compare.{same?}
use lib.Dec.{T}
use lib.IntN.{ℤ, pos, negsuc}
use lib.Ieee.{Float, nan, inf, fin, up, down, neg, lt, eq, le, fits}
use lib.Ieee.Bits.{is_true}
use lib.Ieee.Scale.{finite}
use Rattle.picks.specs.Pick.{pick}
use Rattle.ieee.specs.Narrowing.{narrow}
use Rattle.ieee.specs.inside.Spacing.{with_sign}
use Rattle.ieee.proofs.Narrow.{narrow-own, narrow_keeps_order, narrow_signed}
use Rattle.ieee.proofs.FloatOrder.{le_sizes}
use Rattle.rows.specs.Rows.{allowed_beat}
use Rattle.rows.proofs.Quantizing.{narrow-allowed}
use Rattle.limits.specs.declared.Kind.TheVariants.{RawBeat, RawTempo, TidyTempo}
use Rattle.limits.specs.Numbers.{range_of, in_range, size_of, power, up_to, tempo}
use Rattle.limits.proofs.TakenWithin.{finite-taken}
use Rattle.rows.proofs.Allowed.{taken-allowed}
use Rattle.process_sm_changes.specs.SmChanges.{stays_sm}

-- ---- what stays
pub record Stayed (beat value : Float) : Type 0 where
  pub beat_finite : T (finite beat)
  pub value_finite : T (finite value)
  pub other : eq value plus_zero ≡ false

pub stays_says : (beat value : Float) → stays_sm (beat, value) ≡ true → Stayed beat value
unfolding stays_sm
stays_says nan value h = let z : ◌≡◌ {A = ℕ} 0 1 = cc in absurd (omega arith)
stays_says (inf s) value h = let z : ◌≡◌ {A = ℕ} 0 1 = cc in absurd (omega arith)
stays_says (fin s m e) nan h = let z : ◌≡◌ {A = ℕ} 0 1 = cc in absurd (omega arith)
stays_says (fin s m e) (inf t) h = let z : ◌≡◌ {A = ℕ} 0 1 = cc in absurd (omega arith)
stays_says (fin s m e) (fin t n d) h = record { beat_finite = tt; value_finite = tt; other = go (eq (fin t n d) plus_zero) h }
  where
    go : (b : Bool) → not b ≡ true → b ≡ false
    go false k = refl
    go true k = let z : ◌≡◌ {A = ℕ} 0 1 = cc in absurd (omega arith)

pub beat-allowed : (beat : Float) → T (finite beat) → in_range (range_of RawBeat) beat ≡ true → T (allowed_beat (narrow beat))
beat-allowed beat f h = narrow-allowed beat (taken-allowed beat (sym (finite-taken (up_to 16) beat f) ∙ h))

-- ---- the size of a number that is not 0: its own, with the sign clear
size_is : (s : Bool) (m : ℕ) (e : ℤ) → 0 < m * up e → size_of (fin s m e) ≡ fin false m e
unfolding lt neg
size_is s m e p = go s (lt (fin s m e) plus_zero) refl
  where
    go : (s t : Bool) → lt (fin s m e) plus_zero ≡ t → pick t (neg (fin s m e)) (fin s m e) ≡ fin false m e
    go false true q = absurd (omega (arith, ltb-true (m * up e * 1) (0 * 1 * down e) q))
    go false false q = refl
    go true true q = refl
    go true false q = absurd (omega (arith, ltb-false 0 (m * up e * 1 + 0 * 1 * down e) q))

some : (s : Bool) (m : ℕ) (e : ℤ) → eq (fin s m e) plus_zero ≡ false → 0 < m * up e
unfolding eq
some s m e h = ⊎_elim (λ z. absurd (none s z h)) (λ n. omega arith) (same? (m * up e) 0)
  where
    none : (s : Bool) → m * up e ≡ 0 → eq (fin s m e) plus_zero ≡ false → ⊥
    none true z k = let w = rw (eq-eqb (m * up e * 1) (0 * 1 * down e) (omega arith), eq-eqb (m * up e * 1) 0 (omega arith)) at k in let q : ◌≡◌ {A = ℕ} 0 1 = cc in omega arith
    none false z k = let w = rw (eq-eqb (m * up e * 1) (0 * 1 * down e) (omega arith)) at k in let q : ◌≡◌ {A = ℕ} 0 1 = cc in omega arith

-- ---- between the least and the most, narrowing stays between
record Between (x : Float) : Type 0 where
  least : T (le (power (negsuc 19)) x)
  most : T (le x (power (pos 30)))

narrow-between : (x : Float) → Between x → Between (narrow x)
unfolding fits
narrow-between x b = record {
  least = subst (λ (p : Float). T (le p (narrow x))) (narrow-own (power (negsuc 19)) tt) (narrow_keeps_order (power (negsuc 19)) x b.least);
  most = subst (λ (p : Float). T (le (narrow x) p)) (narrow-own (power (pos 30)) tt) (narrow_keeps_order x (power (pos 30)) b.most);
}

-- so that it is taken whether 0 is or not
between-taken : (zero_too : Bool) (s : Bool) (y : Float) → Between y → in_range (tempo zero_too) (with_sign s y) ≡ true
unfolding with_sign in_range le lt eq
between-taken zero_too s nan b = absurd b.least
between-taken zero_too s (inf true) b = absurd b.least
between-taken zero_too s (inf false) b = absurd b.most
between-taken zero_too s (fin true n d) b = absurd (omega (arith, down_pos d, (le_sizes (power (negsuc 19)) (fin true n d) false true 1 1048576 (n * up d) (down d) (refl, refl) (refl, refl) b.least).0))
between-taken zero_too s (fin false n d) b =
    let some_left : 0 < n * up d = omega (arith, down_pos d, le_sizes (power (negsuc 19)) (fin false n d) false false 1 1048576 (n * up d) (down d) (refl, refl) (refl, refl) b.least) in
    rw (size_is s n d some_left, is_true (le (fin false n d) (power (pos 30))) b.most, is_true (le (power (negsuc 19)) (fin false n d)) b.least)

taken-between : (m : ℕ) (e : ℤ) → 0 < m * up e → (most least level beyond : Bool) → level ≡ false → pick most (pick least true (pick level true false)) (pick beyond false false) ≡ true → T most × T least
taken-between m e p true true level beyond l h = (tt, tt)
taken-between m e p true false true beyond l h = let z : ◌≡◌ {A = ℕ} 0 1 = cc in absurd (omega arith)
taken-between m e p true false false beyond l h = let z : ◌≡◌ {A = ℕ} 0 1 = cc in absurd (omega arith)
taken-between m e p false least level true l h = let z : ◌≡◌ {A = ℕ} 0 1 = cc in absurd (omega arith)
taken-between m e p false least level false l h = let z : ◌≡◌ {A = ℕ} 0 1 = cc in absurd (omega arith)

clear-other : (m : ℕ) (e : ℤ) → 0 < m * up e → eq (fin false m e) plus_zero ≡ false
unfolding eq
clear-other m e p = rw (ne_eqb (m * up e * 1) (0 * 1 * down e) (λ z. omega arith))

between : (s : Bool) (m : ℕ) (e : ℤ) → 0 < m * up e → in_range (range_of TidyTempo) (fin s m e) ≡ true → Between (fin false m e)
unfolding in_range
between s m e p h =
    let both = taken-between m e p (le (fin false m e) (power (pos 30))) (le (power (negsuc 19)) (fin false m e)) (eq (fin false m e) plus_zero) (lt (fin false m e) (inf false)) (clear-other m e p) (rw (size_is s m e p) at h) in
    record { most = both.0; least = both.1 }

signed : (s : Bool) (m : ℕ) (e : ℤ) → narrow (fin s m e) ≡ with_sign s (narrow (fin false m e))
unfolding with_sign
signed s m e = narrow_signed s (fin false m e)

-- a value that stays: one that tempo tidying takes, and one that is not 0
pub value_taken : (zero_too : Bool) (value : Float) → T (finite value) → eq value plus_zero ≡ false → in_range (range_of RawTempo) value ≡ true → in_range (tempo zero_too) (narrow value) ≡ true
value_taken zero_too nan f o h = absurd f
value_taken zero_too (inf s) f o h = absurd f
value_taken zero_too (fin s m e) f o h =
    let p = some s m e o in
    let y = narrow (fin false m e) in
    let is : narrow (fin s m e) ≡ with_sign s y = signed s m e in
    rw is (between-taken zero_too s y (narrow-between (fin false m e) (between s m e p (sym (finite-taken (tempo true) (fin s m e) f) ∙ h))))
