-- An f32 that its f64 rounds up to has an f32 below it: the pattern one less, or one more where the sign is set, is a number's, and its key is one less. Assumes nothing.
use Rattle.std.proofs.Common.{◌≡◌, ℕ, ◌+◌, ◌-◌, ◌*◌, ◌%◌, ◌<◌, ◌≤◌, true, false, not, T, ℤ, sym, refl, ap, ◌∙◌, subst, inl, inr, mul-pos, arith, pow_pos, le-ltb, le-leb}
use borrow.Author.Tests.{lt-leb}
use lib.Ieee.{Float, nan, inf, fin, binary32, prec, hid, ones, top, up, down, fits, is_nan, lt, to_bits, of_bits, nan_bits}
use lib.Ieee.Bits.{to_bits-of_bits, nan_bits_is, nan_bits_above}
use lib.Ieee.Fits.{two}
use Rattle.ieee.specs.Nearest.{sign_of}
use Rattle.ieee.specs.Narrowing.{narrow}
use Rattle.ieee.specs.inside.Spacing.{with_sign}
use Rattle.ieee.proofs.Narrow.{narrow-fits, narrow-number, narrow_by_size}
use Rattle.ieee.proofs.Signs.{sign-is, sign-number}
use Rattle.order.specs.FloatKey.{float_key}
use Rattle.order.proofs.Compare.{below?}
use Rattle.order.proofs.FloatPattern.{key_set, key-clear}
use Rattle.order.proofs.PatternsGrow.{shape, shape-lt, shape-zero, steps, steps-kept, pattern-small, pattern-is, infinity_small}
use Rattle.order_search.specs.F32UpTo.{next_below}

-- the pattern of an infinity, without the sign
abbrev most : ℕ
most = ones binary32 * hid binary32

-- what can be lowered: not -inf, and not +0
pub record Lowered (x : Float) : Type 0 where
  pub number : T (not (is_nan x))
  pub set : top binary32 ≤ to_bits binary32 x → to_bits binary32 x < top binary32 + most
  pub clear : to_bits binary32 x < top binary32 → (0 < to_bits binary32 x) × (to_bits binary32 x ≤ most)

-- ---- what nothing is below
none_below_nan : (x : Float) → lt x nan ≡ false
unfolding lt
none_below_nan nan = refl
none_below_nan (inf s) = refl
none_below_nan (fin s m e) = refl

none_below_least : (x : Float) → lt x (inf true) ≡ false
unfolding lt
none_below_least nan = refl
none_below_least (inf true) = refl
none_below_least (inf false) = refl
none_below_least (fin s m e) = refl

-- no number with the sign clear is below +0
none_between : (x : Float) (e : ℤ) → sign_of x ≡ false → lt x (fin false 0 e) ≡ false
unfolding lt
none_between nan e h = refl
none_between (inf s) e h = h
none_between (fin true m k) e h = absurd (subst T h tt)
none_between (fin false m k) e h = le-ltb (m * up k * down e) (0 * up e * down k) (omega arith)

sign_kept : (x : Float) → T (not (is_nan x)) → sign_of (narrow x) ≡ sign_of x
sign_kept x h = sym (ap sign_of (narrow_by_size x)) ∙ sign-is (sign_of x) (narrow (with_sign false x)) (narrow-number (with_sign false x) (sign-number false x h))

module _ (at : Float) (number : T (not (is_nan at))) where
  -- by what the f64 is rounded to
  lowered : (x : Float) → T (fits binary32 x) → sign_of x ≡ sign_of at → lt at x ≡ true → Lowered x
  unfolding is_nan to_bits
  lowered nan h s l = absurd (subst T (sym l ∙ none_below_nan at) tt)
  lowered (inf true) h s l = absurd (subst T (sym l ∙ none_below_least at) tt)
  lowered (inf false) h s l = record { number = tt; set = λ t. absurd (omega (arith, infinity_small binary32)); clear = λ t. (omega arith, omega arith) }
  lowered (fin true m e) h s l = record {
    number = tt;
    set = λ t. omega (arith, pattern-is binary32 true m e h, pattern-small binary32 true m e h);
    clear = λ t. absurd (omega (arith, pattern-is binary32 true m e h));
  }
  lowered (fin false m e) h s l = record {
    number = tt;
    set = λ t. absurd (omega (arith, pattern-is binary32 false m e h, pattern-small binary32 false m e h, infinity_small binary32));
    clear = λ t. (omega (arith, pattern-is binary32 false m e h, some m e h l), omega (arith, pattern-is binary32 false m e h, pattern-small binary32 false m e h));
  }
    where
      some : (m : ℕ) (e : ℤ) (h : T (fits binary32 (fin false m e))) → lt at (fin false m e) ≡ true → 0 < shape (prec binary32) (steps binary32 m e)
      some m e h l = elim (below? 0 m) [
        | inl p ↦ omega (arith, shape-zero (prec binary32), shape-lt (prec binary32) 0 (steps binary32 m e) (two binary32) (mul-pos p (pow_pos _)) (steps-kept binary32 false m e h))
        | inr p ↦ let zero : m ≡ 0 = omega arith in let none : lt at (fin false m e) ≡ false = rw zero (none_between at e (sym s)) in absurd (subst T (sym l ∙ none) tt)
      ]

pub rounded-up : (at : Float) → lt at (narrow at) ≡ true → Lowered (narrow at)
unfolding lt is_nan
rounded-up nan l = absurd (subst T (sym l) tt)
rounded-up (inf s) l = lowered (inf s) tt (narrow (inf s)) (narrow-fits (inf s)) (sign_kept (inf s) tt) l
rounded-up (fin s m e) l = lowered (fin s m e) tt (narrow (fin s m e)) (narrow-fits (fin s m e)) (sign_kept (fin s m e) tt) l

-- a pattern that is not past an infinity's is a number's
within-number : (n : ℕ) → n % top binary32 ≤ most → nan_bits binary32 n ≡ false
within-number n h = nan_bits_above binary32 n ∙ le-ltb most (n % top binary32) h

module _ (x : Float) (h : T (fits binary32 x)) (l : Lowered x) where
  pub number_below_set : top binary32 ≤ to_bits binary32 x → T (not (nan_bits binary32 (to_bits binary32 x + 1)))
  number_below_set s = let small = l.set s in rw (within-number (to_bits binary32 x + 1) (omega (arith, infinity_small binary32))) tt

  pub number_below_clear : to_bits binary32 x < top binary32 → T (not (nan_bits binary32 (to_bits binary32 x - 1)))
  number_below_clear s = let small = l.clear s in rw (within-number (to_bits binary32 x - 1) (omega arith)) tt

  -- a pattern read and written again
  module _ (n : ℕ) (small : n < 2 * top binary32) (number : T (not (nan_bits binary32 n))) where
    is-number : T (not (is_nan (of_bits binary32 n)))
    is-number = rw (sym (nan_bits_is binary32 n)) number

    own-pattern : to_bits binary32 (of_bits binary32 n) ≡ n
    own-pattern = to_bits-of_bits binary32 n small is-number

  pub below-number : T (not (is_nan (next_below x)))
  unfolding next_below
  below-number = elim (below? (to_bits binary32 x) (top binary32)) [
    | inl t ↦ rw (lt-leb (top binary32) (to_bits binary32 x) t) (is-number (to_bits binary32 x - 1) (omega arith) (number_below_clear t))
    | inr t ↦ rw (le-leb (top binary32) (to_bits binary32 x) t) (is-number (to_bits binary32 x + 1) (omega (arith, l.set t)) (number_below_set t))
  ]

  pub key_below : float_key binary32 (next_below x) + 1 ≡ float_key binary32 x
  unfolding next_below
  key_below = elim (below? (to_bits binary32 x) (top binary32)) [
    | inl t ↦
        let n = to_bits binary32 x - 1 in
        let some = (l.clear t).0 in
        let own = own-pattern n (omega arith) (number_below_clear t) in
        let key = key-clear binary32 (of_bits binary32 n) (is-number n (omega arith) (number_below_clear t)) (omega arith) in
        rw (lt-leb (top binary32) (to_bits binary32 x) t) (omega (arith, key, own, key-clear binary32 x l.number t))
    | inr t ↦
        let n = to_bits binary32 x + 1 in
        let small = l.set t in
        let own = own-pattern n (omega (arith, infinity_small binary32)) (number_below_set t) in
        let key = key_set binary32 (of_bits binary32 n) (is-number n (omega (arith, infinity_small binary32)) (number_below_set t)) (omega arith) in
        rw (le-leb (top binary32) (to_bits binary32 x) t) (omega (arith, key, own, key_set binary32 x l.number t, infinity_small binary32))
  ]
