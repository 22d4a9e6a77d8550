-- How large a rounded sum, difference, product or quotient is at most, and how small a quotient at least, over the format, by how large and how small the two floats are. Assumes nothing.
use mathlib.Core.Path.{◌≡◌, refl, sym, ap, ◌∙◌, subst}
use mathlib.Core.Logic.{inl, inr}
use mathlib.Core.Bool.{Bool, true, false, not, ◌&&◌, beq, cond}
use Prim.Native.Nat.{ℕ, zero, suc, ◌+◌, ◌-◌, ◌*◌, ◌^◌, ◌≤◌, ◌<◌}
use native.Mathlib.Nat.{one-mul, mul-one, le_trans, le_of_eq, lt_of_lt_of_le, mul-le-mul, mul-le-mul_right, mul-le-mul_left, mul-pos, mul_comm, mul_assoc, mul-mul-mul_comm, mul_right_comm, add-mul, add-le-add}
use native.Mathlib.Omega.{arith}
use lib.Dec.{T, ltb, lit<, lit≤}
use lib.Pow.{pow-add, pow_pos, pow-lt, pow_mono, shl_lt}
use lib.Ieee.{Float, nan, inf, fin, Format, prec, emax, low, unlike, round, sum, neg, add, sub, mul, div}
use lib.Ieee.Exact.{HasValue}
use lib.Ieee.Fits.{two, reach}
use lib.Ieee.Scale.{grid, overflow, finite}
use Rattle.ieee.proofs.Closest.{lt_or_ge}
use Rattle.ieee.proofs.Values.{finite_of, rescaled}
use Rattle.ieee.proofs.Units.{round-units, round-past}
use Rattle.ieee.proofs.RoundedSize.{grid_up_to, grid_under, grid_ge}
use Rattle.ieee.proofs.ByValue.{mul-value, div_value}
use Rattle.ieee.proofs.SumByValue.{add-values}
use Rattle.ieee.proofs.Magnitude.{AtMost}

-- ---- bounds
pub at_most_finite : {bound : ℕ} {x : Float} → AtMost bound x → T (finite x)
at_most_finite {bound} {x} z = finite_of x z.negative z.num z.den z.value

pub at_most_wider : {bound wider : ℕ} {x : Float} → bound ≤ wider → AtMost bound x → AtMost wider x
at_most_wider l z = record {
  negative = z.negative;
  num = z.num;
  den = z.den;
  den_pos = z.den_pos;
  value = z.value;
  small = le_trans z.small (mul-le-mul_right z.den l);
}

pub at_most_neg : {bound : ℕ} (x : Float) → AtMost bound x → AtMost bound (neg x)
unfolding neg
at_most_neg nan z = absurd z.value
at_most_neg (inf s) z = absurd z.value
at_most_neg (fin s m e) z = record {
  negative = not z.negative;
  num = z.num;
  den = z.den;
  den_pos = z.den_pos;
  value = (ap not z.value.0, z.value.1);
  small = z.small;
}

-- x is num / den, negative or not, and no nearer to 0 than one part of 2 ^ k
pub record AtLeast (k : ℕ) (x : Float) : Type 0 where
  pub negative : Bool
  pub num : ℕ
  pub den : ℕ
  pub den_pos : 0 < den
  pub value : HasValue x negative num den
  pub large : den ≤ 2 ^ k * num

-- a whole number that is one of the format's values: so many digits, no more than it keeps, times a power of two
pub record OfFormat (f : Format) (bound : ℕ) : Type 0 where
  pub digits : ℕ
  pub power : ℕ
  pub few : digits < 2 ^ prec f
  pub is : bound ≡ digits * 2 ^ power
  pub below : bound < 2 ^ suc (emax f)

-- the powers of two, the whole numbers that it counts to, and so many digits times a power
pub power_of_format : (f : Format) (k : ℕ) → k ≤ emax f → OfFormat f (2 ^ k)
power_of_format f k h = record { digits = 1; power = k; few = lt_of_lt_of_le (lit< tt) (pow_mono {i = 1} (le_trans (lit≤ tt) (two f))); is = sym (one-mul (2 ^ k)); below = pow-lt (omega arith) }

pub whole_of_format : (f : Format) (n : ℕ) → n < 2 ^ prec f → OfFormat f n
whole_of_format f n h = record { digits = n; power = 0; few = h; is = sym (mul-one n); below = lt_of_lt_of_le h (pow_mono (reach f)) }

pub digits_of_format : (f : Format) (n k : ℕ) → n < 2 ^ prec f → prec f + k ≤ suc (emax f) → OfFormat f (n * 2 ^ k)
digits_of_format f n k h l = record { digits = n; power = k; few = h; is = refl; below = lt_of_lt_of_le (shl_lt (prec f) k h) (pow_mono l) }

pub not_zero : {k : ℕ} {x : Float} (z : AtLeast k x) → 0 < z.num
not_zero {k} z = some z.num (lt_of_lt_of_le z.den_pos z.large)
  where
    some : (n : ℕ) → 0 < 2 ^ k * n → 0 < n
    some zero h = absurd (omega arith)
    some (suc n) h = omega arith

-- ---- what `round` makes
module _ (f : Format) {bound : ℕ} (fine : OfFormat f bound) where
  pub round_at_most : (s : Bool) (a b : ℕ) → 0 < b → a ≤ bound * b → AtMost bound (round f s a b)
  round_at_most s a b B h =
      let k = fine.digits in
      let j = fine.power in
      let small : a ≤ k * 2 ^ j * b = rw fine.is at h in
      let below : k * 2 ^ j < 2 ^ suc (emax f) = rw fine.is at fine.below in
      record {
        negative = s;
        num = grid f a b;
        den = 2 ^ low f;
        den_pos = pow_pos (low f);
        value = round-units f s a b (grid_under f a b k j B fine.few small below);
        small = le_trans (grid_up_to f a b k j B fine.few small)
            (le_of_eq (ap (λ (x : ℕ). k * x) (pow-add 2 j (low f)) ∙ sym (mul_assoc k (2 ^ j) (2 ^ low f)) ∙ sym (ap (λ (x : ℕ). x * 2 ^ low f) fine.is)));
      }

-- and no nearer to 0, where the format has the part of 2 ^ k
pub round_at_least : (f : Format) (k : ℕ) → k ≤ low f → (s : Bool) (a b : ℕ) → 0 < b → b ≤ 2 ^ k * a → T (finite (round f s a b)) → AtLeast k (round f s a b)
round_at_least f k K s a b B h F =
    let whole : 2 ^ low f ≡ 2 ^ k * 2 ^ (low f - k) = ap (λ (x : ℕ). 2 ^ x) (omega arith) ∙ pow-add 2 k (low f - k) in
    let enough : 2 ^ (low f - k) * b ≤ a * 2 ^ low f =
    le_trans (mul-le-mul_left (2 ^ (low f - k)) h)
    (le_of_eq (mul_comm (2 ^ (low f - k)) (2 ^ k * a) ∙ mul_right_comm (2 ^ k) a (2 ^ (low f - k)) ∙ ap (λ (x : ℕ). x * a) (sym whole) ∙ mul_comm (2 ^ low f) a)) in
    let reaches = grid_ge f a b (low f - k) B enough in
    record {
      negative = s;
      num = grid f a b;
      den = 2 ^ low f;
      den_pos = pow_pos (low f);
      value = round-units f s a b (elim (lt_or_ge (grid f a b) (overflow f)) [ inl l ↦ l | inr l ↦ absurd (subst (λ (x : Float). T (finite x)) (round-past f s a b l) F) ]);
      large = le_trans (le_of_eq whole) (mul-le-mul_left (2 ^ k) reaches);
    }

-- ---- of two floats, whose sizes come to no more than a bound
module _ (f : Format) {bound : ℕ} (fine : OfFormat f bound) where
  sum_at_most : (s t : Bool) (a b c : ℕ) → 0 < c → a + b ≤ bound * c → AtMost bound (sum f s a t b c)
  unfolding sum
  sum_at_most s t a b c C h = go s t (ltb a b)
    where
      go : (s t l : Bool) → AtMost bound (cond (beq s t) (round f s (a + b) c) (cond l (round f t (b - a) c) (round f (s && ltb b a) (a - b) c)))
      go true true l = round_at_most f fine true (a + b) c C h
      go false false l = round_at_most f fine false (a + b) c C h
      go true false true = round_at_most f fine false (b - a) c C (le_trans (omega arith) h)
      go true false false = round_at_most f fine (true && ltb b a) (a - b) c C (le_trans (omega arith) h)
      go false true true = round_at_most f fine true (b - a) c C (le_trans (omega arith) h)
      go false true false = round_at_most f fine (false && ltb b a) (a - b) c C (le_trans (omega arith) h)

  module _ {A B : ℕ} (x y : Float) (v : AtMost A x) (w : AtMost B y) where
    over-one : A + B ≤ bound → v.num * w.den + w.num * v.den ≤ bound * (v.den * w.den)
    over-one l =
        let c = v.den in
        let d = w.den in
        le_trans (add-le-add (mul-le-mul_right d v.small) (mul-le-mul_right c w.small))
        (le_trans (le_of_eq (ap (λ (n : ℕ). n + B * d * c) (mul_assoc A c d) ∙ ap (λ (n : ℕ). A * (c * d) + n) (mul_assoc B d c ∙ ap (λ (n : ℕ). B * n) (mul_comm d c)) ∙ sym (add-mul A B (c * d)))) (mul-le-mul_right (c * d) l))

    pub add_at_most : A + B ≤ bound → AtMost bound (add f x y)
    add_at_most l =
        let s = v.negative in
        let a = v.num in
        let c = v.den in
        let t = w.negative in
        let b = w.num in
        let d = w.den in
        let C = v.den_pos in
        let D = w.den_pos in
        subst (AtMost bound)
        (sym (add-values f x y s t (a * d) (b * c) (c * d) (mul-pos C D)
        (rescaled x s a c (a * d) (c * d) C (mul_right_comm a d c ∙ mul_assoc a c d) v.value)
        (rescaled y t b d (b * c) (c * d) D (mul_assoc b c d) w.value)))
        (sum_at_most s t (a * d) (b * c) (c * d) (mul-pos C D) (over-one l))

    -- ---- products
    pub mul_at_most : A * B ≤ bound → AtMost bound (mul f x y)
    mul_at_most l =
        let a = v.num in
        let c = v.den in
        let b = w.num in
        let d = w.den in
        subst (AtMost bound) (sym (mul-value f x y v.negative w.negative a c b d v.den_pos w.den_pos v.value w.value))
        (round_at_most f fine (unlike v.negative w.negative) (a * b) (c * d) (mul-pos v.den_pos w.den_pos)
        (le_trans (mul-le-mul v.small w.small) (le_trans (le_of_eq (mul-mul-mul_comm A c B d)) (mul-le-mul_right (c * d) l))))

  pub sub_at_most : {A B : ℕ} (x y : Float) → AtMost A x → AtMost B y → A + B ≤ bound → AtMost bound (sub f x y)
  unfolding sub
  sub_at_most x y v w l = add_at_most x (neg y) v (at_most_neg y w) l

  -- ---- quotients
  pub div_at_most : {A k : ℕ} (x y : Float) → AtMost A x → AtLeast k y → A * 2 ^ k ≤ bound → AtMost bound (div f x y)
  div_at_most {A} {k} x y v w l =
      let a = v.num in
      let c = v.den in
      let b = w.num in
      let d = w.den in
      subst (AtMost bound) (sym (div_value f x y v.negative w.negative a c b d v.den_pos w.den_pos (not_zero w) v.value w.value))
      (round_at_most f fine (unlike v.negative w.negative) (a * d) (b * c) (mul-pos (not_zero w) v.den_pos)
      (le_trans (mul-le-mul v.small w.large)
      (le_trans (le_of_eq (mul-mul-mul_comm A c (2 ^ k) b)) (le_trans (mul-le-mul_right (c * b) l) (le_of_eq (ap (λ (n : ℕ). bound * n) (mul_comm c b)))))))

-- a quotient is no nearer to 0 than the parts that the two sizes leave
pub div_at_least : (f : Format) {B k : ℕ} (n : ℕ) → n ≤ low f → 2 ^ k * B ≤ 2 ^ n → (x y : Float) → AtLeast k x → (w : AtMost B y) → 0 < w.num → T (finite (div f x y)) → AtLeast n (div f x y)
div_at_least f {B} {k} n N l x y v w W F =
    let a = v.num in
    let c = v.den in
    let b = w.num in
    let d = w.den in
    let is = div_value f x y v.negative w.negative a c b d v.den_pos w.den_pos W v.value w.value in
    subst (AtLeast n) (sym is)
    (round_at_least f n N (unlike v.negative w.negative) (a * d) (b * c) (mul-pos W v.den_pos)
    (le_trans (mul-le-mul w.small v.large)
    (le_trans (le_of_eq (mul_comm (B * d) (2 ^ k * a) ∙ mul-mul-mul_comm (2 ^ k) a B d)) (mul-le-mul_right (a * d) l)))
    (subst (λ (z : Float). T (finite z)) is F))
