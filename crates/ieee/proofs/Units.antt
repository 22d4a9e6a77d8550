-- A format's values in units of its smallest one, over the format: each is a number of at most prec digits, times a power of two; a sign and a number of units leave one value; and what `round` makes. Assumes nothing.
use mathlib.Core.Path.{◌≡◌, refl, sym, ap, ◌∙◌, subst}
use Prim.Native.Nat.{ℕ, zero, suc, ◌+◌, ◌-◌, ◌*◌, ◌%◌, ◌^◌, ◌≤◌, ◌<◌}
use native.Mathlib.Nat.{le_of_eq, lt_of_lt_of_le, lt_of_mul-lt-mul_right, mul-lt-mul_of_pos_right}
use native.Mathlib.Omega.{arith}
use mathlib.Core.Bool.{Bool, true, false, not, ◌&&◌, cond}
use lib.IntN.{ℤ, pos, negsuc}
use lib.Dec.{T, ltb, leb, eqb, ltb→lt, leb→le}
use lib.Pow.{pow-add, pow_pos}
use lib.Ieee.{Float, nan, inf, fin, Format, prec, emax, low, up, down, fits, is_nan, odd, units, round, of_bits}
use lib.Ieee.Fits.{and_l, and_r, round_is}
use lib.Ieee.Exact.{HasValue, odd_sign, units_val}
use lib.Ieee.Bits.{of_bits-to_bits}
use lib.Ieee.Scale.{grid, overflow}
use borrow.Author.Tests.{le-ltb}
use Rattle.ieee.specs.Nearest.{IsValue, sign_of}
use Rattle.ieee.proofs.Values.{sign_of_lem}
use Rattle.ieee.proofs.Pack.{dropped, held, to_bits_of, le_back}

-- y is so many digits, no more than the format keeps, times a power of two, in units
pub record InUnits (f : Format) (y : Float) : Type 0 where
  pub digits : ℕ
  pub power : ℕ
  pub few : digits < 2 ^ prec f
  pub is : HasValue y (sign_of y) (digits * 2 ^ power) (2 ^ low f)
  pub below : digits * 2 ^ power < overflow f

-- from the four tests of `fits`
module _ (f : Format) (s : Bool) (m : ℕ) (few : m < 2 ^ prec f) where
  at-power : (e : ℤ) (j : ℕ) → m * up e * 2 ^ low f ≡ m * 2 ^ j * down e → m * up e < 2 ^ suc (emax f) * down e → InUnits f (fin s m e)
  at-power e j is below =
      record {
        digits = m;
        power = j;
        few = few;
        is = (refl, is);
        below =
            let l = mul-lt-mul_of_pos_right below (pow_pos (low f)) in
            let i = pow-add 2 (low f) (suc (emax f)) in
            lt_of_lt_of_le (lt_of_mul-lt-mul_right (down e) (subst (λ (x : ℕ). x < 2 ^ low f * 2 ^ suc (emax f) * down e) is (lt_of_lt_of_le l (le_of_eq (omega arith))))) (le_of_eq (sym i));
      }

  of_tests : (e : ℤ) → down e ≤ 2 ^ low f → m * up e < 2 ^ suc (emax f) * down e → InUnits f (fin s m e)
  of_tests (pos k) deep below = at-power (pos k) (k + low f) (let i = ap (λ (x : ℕ). m * x) (pow-add 2 k (low f)) in omega arith) below
  of_tests (negsuc k) deep below =
      let l = le_back (suc k) (low f) deep in
      let j : low f - suc k + suc k ≡ low f = omega arith in
      let i = ap (λ (x : ℕ). m * x) (ap (λ (x : ℕ). 2 ^ x) (sym j) ∙ pow-add 2 (low f - suc k) (suc k)) in
      at-power (negsuc k) (low f - suc k) (omega arith) below

pub in_units : (f : Format) (y : Float) → IsValue f y → InUnits f y
unfolding fits
in_units f nan v = absurd v.0
in_units f (inf s) v = absurd v.0
in_units f (fin s zero e) v = record { digits = 0; power = 0; few = pow_pos (prec f); is = (refl, omega arith); below = pow_pos (low f + suc (emax f)) }
in_units f (fin s (suc m) e) v =
    let odd = eqb (suc m % 2) 1 in
    let few = ltb (suc m) (2 ^ prec f) in
    let deep = leb (down e) (2 ^ low f) in
    let below = ltb (suc m * up e) (2 ^ suc (emax f) * down e) in
    let three = and_l (odd && few && deep) below v.1 in
    of_tests f s (suc m) (ltb→lt (suc m) (2 ^ prec f) (and_r odd few (and_l (odd && few) deep three))) e
    (leb→le (down e) (2 ^ low f) (and_r (odd && few) deep three))
    (ltb→lt (suc m * up e) (2 ^ suc (emax f) * down e) (and_r (odd && few && deep) below v.1))

-- ---- a sign and a number of units leave one value
pub same_units : (f : Format) (x y : Float) (s : Bool) (n : ℕ) → T (fits f x) → T (fits f y) → HasValue x s n (2 ^ low f) → HasValue y s n (2 ^ low f) → x ≡ y
same_units f x y s n F G v w = sym (of_bits-to_bits f x F) ∙ ap (of_bits f) (to_bits_of f x s n v ∙ sym (to_bits_of f y s n w)) ∙ of_bits-to_bits f y G

-- ---- what `round` makes
units-sign : (f : Format) (s : Bool) (q k : ℕ) → sign_of (units f s q k) ≡ s
unfolding units
units-sign f s q k = go (ltb (q * 2 ^ k) (overflow f))
  where
    go : (b : Bool) → sign_of (cond b (odd (suc (prec f)) s q k (low f)) (inf s)) ≡ s
    go true = sign_of_lem (odd (suc (prec f)) s q k (low f)) s (q * 2 ^ k) (2 ^ low f) (odd_sign (suc (prec f)) s q k (low f))
    go false = refl

module _ (f : Format) (s : Bool) (num den : ℕ) where
  pub round-units : grid f num den < overflow f → HasValue (round f s num den) s (grid f num den) (2 ^ low f)
  round-units h = subst (λ (y : Float). HasValue y s (grid f num den) (2 ^ low f)) (sym (round_is f s num den)) (units_val f s (held f num den) (dropped f num den) h)

  pub round-past : overflow f ≤ grid f num den → round f s num den ≡ inf s
  unfolding units
  round-past h = round_is f s num den ∙ rw (le-ltb (grid f num den) (overflow f) h)

  pub round-sign : sign_of (round f s num den) ≡ s
  round-sign = ap sign_of (round_is f s num den) ∙ units-sign f s (held f num den) (dropped f num den)

  pub round_number : T (not (is_nan (round f s num den)))
  unfolding units odd is_nan
  round_number = subst (λ (y : Float). T (not (is_nan y))) (sym (round_is f s num den)) (go (ltb (grid f num den) (overflow f)) (held f num den))
    where
      go : (b : Bool) (q : ℕ) → T (not (is_nan (cond b (odd (suc (prec f)) s q (dropped f num den) (low f)) (inf s))))
      go true zero = tt
      go true (suc q) = tt
      go false q = tt
