-- On which side of 0 a rounded sum, difference, product or quotient lies, over the format, by where the two floats lie. Assumes nothing.
use mathlib.Core.Path.{◌≡◌, refl, sym, ap, ap₂, ◌∙◌, subst}
use mathlib.Core.Logic.{◌⊎◌, inl, inr}
use mathlib.Core.Bool.{Bool, true, false, not, ◌&&◌, beq, cond, true≢false}
use Prim.Native.Nat.{ℕ, ◌+◌, ◌-◌, ◌*◌, ◌^◌, ◌≤◌, ◌<◌, zero-le}
use native.Mathlib.Nat.{le_trans, le_of_eq, le_of_mul-le-mul_right, zero-mul, mul-zero, eq-zero-or-pos, zero-lt-suc, mul-pos, mul_right_comm, mul_assoc, mul-le-mul_right}
use native.Mathlib.Omega.{arith}
use borrow.Author.Tests.{ltb-true, ltb-false, lt-ltb}
use lib.IntN.{pos}
use lib.Dec.{T, ltb}
use lib.Pow.{pow_pos}
use lib.Ieee.{Float, nan, inf, fin, Format, prec, low, up, down, unlike, round, sum, neg, add, sub, mul, div, lt, le}
use lib.Ieee.Exact.{HasValue}
use lib.Ieee.Fits.{down_pos}
use lib.Ieee.Scale.{grid, overflow, finite}
use Rattle.ieee.proofs.Closest.{lt_or_ge}
use Rattle.ieee.proofs.Values.{rescaled}
use Rattle.ieee.proofs.Units.{round-units, round-past}
use Rattle.ieee.proofs.RoundedSize.{grid_le}
use Rattle.ieee.proofs.SignedSizes.{Ordered}
use Rattle.ieee.proofs.FloatOrder.{le_sizes, sizes_le, lt_not_le}
use Rattle.ieee.proofs.ByValue.{mul-value, div_value}
use Rattle.ieee.proofs.SumByValue.{add-values}
use Rattle.ieee.proofs.Magnitude.{AtMost}
use Rattle.ieee.proofs.SizesAddUp.{AtLeast, OfFormat, not_zero, round_at_most}

-- a sign, or nothing to have one
abbrev pub Side : Bool → Bool → ℕ → Type 0
Side side s n = (s ≡ side) ⊎ (n ≡ 0)

-- finite, and below 0 or 0 itself where the side is true, above 0 or 0 where it is false
abbrev pub On : Bool → Float → Type 0
On side nan = ⊥
On side (inf s) = ⊥
On side (fin s m e) = Side side s (m * up e)

no-product : (x k : ℕ) → 0 < k → x * k ≡ 0 → x ≡ 0
no-product x k K h = let l : x ≤ 0 = le_of_mul-le-mul_right {k = k} (le_trans (le_of_eq h) zero-le) K in omega arith

-- by any fraction that the float equals
pub side_of : (side : Bool) (x : Float) (s : Bool) (n c : ℕ) → HasValue x s n c → On side x → Side side s n
side_of side nan s n c v h = absurd h
side_of side (inf t) s n c v h = absurd h
side_of side (fin t m e) s n c v h = elim h [
  | inl p ↦ inl (sym v.0 ∙ p)
  | inr z ↦ inr (no-product n (down e) (down_pos e) (sym v.1 ∙ ap (λ (k : ℕ). k * c) z ∙ zero-mul c))
]

pub on_side : (side : Bool) (x : Float) (s : Bool) (n c : ℕ) → 0 < c → HasValue x s n c → Side side s n → On side x
on_side side nan s n c C v h = v
on_side side (inf t) s n c C v h = v
on_side side (fin t m e) s n c C v h = elim h [
  | inl p ↦ inl (v.0 ∙ p)
  | inr z ↦ inr (no-product (m * up e) c C (v.1 ∙ ap (λ (k : ℕ). k * down e) z ∙ zero-mul (down e)))
]

-- ---- what `round` makes
none_left : (f : Format) (a b : ℕ) → 0 < b → a ≡ 0 → grid f a b ≡ 0
none_left f a b B z = let l = grid_le f a b 0 B (pow_pos (prec f)) (omega arith) in omega arith

round_side : (f : Format) (side s : Bool) (a b : ℕ) → 0 < b → Side side s a → T (finite (round f s a b)) → On side (round f s a b)
round_side f side s a b B h F =
    let under : grid f a b < overflow f = elim (lt_or_ge (grid f a b) (overflow f)) [ inl l ↦ l | inr l ↦ absurd (subst (λ (x : Float). T (finite x)) (round-past f s a b l) F) ] in
    on_side side (round f s a b) s (grid f a b) (2 ^ low f) (pow_pos (low f)) (round-units f s a b under)
    (elim h [ inl p ↦ inl p | inr z ↦ inr (none_left f a b B z) ])

-- ---- sums and differences
none_below : (n : ℕ) → Side true false n → n ≡ 0
none_below n h = elim h [ inl p ↦ absurd (true≢false (sym p)) | inr z ↦ z ]

none_above : (n : ℕ) → Side false true n → n ≡ 0
none_above n h = elim h [ inl p ↦ absurd (true≢false p) | inr z ↦ z ]

module _ (f : Format) (a b c : ℕ) (C : 0 < c) where
  abbrev summed : Bool → Bool → Bool → Bool → Float
  summed s t less more = cond (beq s t) (round f s (a + b) c) (cond less (round f t (b - a) c) (round f (s && more) (a - b) c))

  -- of two on one side
  both_sides : (side s t less more : Bool) → ltb a b ≡ less → ltb b a ≡ more → Side side s a → Side side t b → T (finite (summed s t less more)) → On side (summed s t less more)
  both_sides true true true less more l m h k F = round_side f true true (a + b) c C (inl refl) F
  both_sides true true false true more l m h k F = absurd (omega (arith, ltb-true a b l, none_below b k))
  both_sides true true false false true l m h k F = round_side f true true (a - b) c C (inl refl) F
  both_sides true true false false false l m h k F = round_side f true false (a - b) c C (inr (omega (arith, ltb-false b a m))) F
  both_sides true false true true more l m h k F = round_side f true true (b - a) c C (inl refl) F
  both_sides true false true false more l m h k F = round_side f true false (a - b) c C (inr (omega (arith, none_below a h))) F
  both_sides true false false less more l m h k F = round_side f true false (a + b) c C (inr (omega (arith, none_below a h, none_below b k))) F
  both_sides false false false less more l m h k F = round_side f false false (a + b) c C (inl refl) F
  both_sides false true true less more l m h k F = round_side f false true (a + b) c C (inr (omega (arith, none_above a h, none_above b k))) F
  both_sides false true false true more l m h k F = round_side f false false (b - a) c C (inl refl) F
  both_sides false true false false more l m h k F = round_side f false more (a - b) c C (inr (omega (arith, none_above a h))) F
  both_sides false false true true more l m h k F = round_side f false true (b - a) c C (inr (omega (arith, none_above b k))) F
  both_sides false false true false more l m h k F = round_side f false false (a - b) c C (inl refl) F

  pub sum_side : (side s t : Bool) → Side side s a → Side side t b → T (finite (sum f s a t b c)) → On side (sum f s a t b c)
  unfolding sum
  sum_side side s t h k F = both_sides side s t (ltb a b) (ltb b a) refl refl h k F

  -- of one, and of one that is not above it turned round
  forward : (s t less more : Bool) → ltb a b ≡ less → ltb b a ≡ more → Ordered t b s a → T (finite (summed s (not t) less more)) → On false (summed s (not t) less more)
  forward false false true more l m h F = round_side f false true (b - a) c C (inr (omega arith)) F
  forward false false false more l m h F = round_side f false false (a - b) c C (inl refl) F
  forward false true less more l m h F = round_side f false false (a + b) c C (inl refl) F
  forward true true true more l m h F = round_side f false false (b - a) c C (inl refl) F
  forward true true false more l m h F = round_side f false more (a - b) c C (inr (omega arith)) F
  forward true false less more l m h F = round_side f false true (a + b) c C (inr (omega (arith, h.0, h.1))) F

  pub sum-forward : (s t : Bool) → Ordered t b s a → T (finite (sum f s a (not t) b c)) → On false (sum f s a (not t) b c)
  unfolding sum
  sum-forward s t h F = forward s t (ltb a b) (ltb b a) refl refl h F

-- over one bottom
module _ {A B : ℕ} (x y : Float) (v : AtMost A x) (w : AtMost B y) where
  pub over : HasValue x v.negative (v.num * w.den) (v.den * w.den)
  over = rescaled x v.negative v.num v.den (v.num * w.den) (v.den * w.den) v.den_pos (mul_right_comm v.num w.den v.den ∙ mul_assoc v.num v.den w.den) v.value

  pub other-over : HasValue y w.negative (w.num * v.den) (v.den * w.den)
  other-over = rescaled y w.negative w.num w.den (w.num * v.den) (v.den * w.den) w.den_pos (mul_assoc w.num v.den w.den) w.value

  pub added : (f : Format) → add f x y ≡ sum f v.negative (v.num * w.den) w.negative (w.num * v.den) (v.den * w.den)
  added f = add-values f x y v.negative w.negative (v.num * w.den) (w.num * v.den) (v.den * w.den) (mul-pos v.den_pos w.den_pos) over other-over

  module _ (f : Format) where
    pub add_side : (side : Bool) → On side x → On side y → T (finite (add f x y)) → On side (add f x y)
    add_side side h k F =
        subst (On side) (sym (added f))
        (sum_side f (v.num * w.den) (w.num * v.den) (v.den * w.den) (mul-pos v.den_pos w.den_pos) side v.negative w.negative
        (side_of side x v.negative (v.num * w.den) (v.den * w.den) over h) (side_of side y w.negative (w.num * v.den) (v.den * w.den) other-over k)
        (subst (λ (z : Float). T (finite z)) (added f) F))

    -- ---- products and quotients
    turned : (p q s t : Bool) (a b : ℕ) → Side p s a → Side q t b → Side (unlike p q) (unlike s t) (a * b)
    turned p q s t a b h k = elim h [
      | inl e ↦ elim k [ inl g ↦ inl (ap₂ unlike e g) | inr z ↦ inr (ap (λ (n : ℕ). a * n) z ∙ mul-zero a) ]
      | inr z ↦ inr (ap (λ (n : ℕ). n * b) z ∙ zero-mul b)
    ]

    pub mul_side : (p q : Bool) → On p x → On q y → T (finite (mul f x y)) → On (unlike p q) (mul f x y)
    mul_side p q h k F =
        let is = mul-value f x y v.negative w.negative v.num v.den w.num w.den v.den_pos w.den_pos v.value w.value in
        subst (On (unlike p q)) (sym is)
        (round_side f (unlike p q) (unlike v.negative w.negative) (v.num * w.num) (v.den * w.den) (mul-pos v.den_pos w.den_pos)
        (turned p q v.negative w.negative v.num w.num (side_of p x v.negative v.num v.den v.value h) (side_of q y w.negative w.num w.den w.value k))
        (subst (λ (z : Float). T (finite z)) is F))

-- the divisor is none that is 0
pub div_side : (f : Format) {A k : ℕ} (x y : Float) (v : AtMost A x) (w : AtLeast k y) (p q : Bool) → On p x → On q y → T (finite (div f x y)) → On (unlike p q) (div f x y)
div_side f x y v w p q h k F =
    let is = div_value f x y v.negative w.negative v.num v.den w.num w.den v.den_pos w.den_pos (not_zero w) v.value w.value in
    subst (On (unlike p q)) (sym is)
    (round_side f (unlike p q) (unlike v.negative w.negative) (v.num * w.den) (w.num * v.den) (mul-pos (not_zero w) v.den_pos)
    (elim (side_of p x v.negative v.num v.den v.value h) [
      | inl e ↦ elim (side_of q y w.negative w.num w.den w.value k) [ inl g ↦ inl (ap₂ unlike e g) | inr z ↦ absurd (omega (arith, not_zero w)) ]
      | inr z ↦ inr (ap (λ (n : ℕ). n * w.den) z ∙ zero-mul w.den)
    ])
    (subst (λ (z : Float). T (finite z)) is F))

-- a difference, where the first is not below the other
neg_value : (y : Float) (s : Bool) (b c : ℕ) → HasValue y s b c → HasValue (neg y) (not s) b c
unfolding neg
neg_value nan s b c v = v
neg_value (inf t) s b c v = v
neg_value (fin t n d) s b c v = (ap not v.0, v.1)

pub sub-forward : (f : Format) {A B : ℕ} (x y : Float) (v : AtMost A x) (w : AtMost B y) → T (le y x) → T (finite (sub f x y)) → On false (sub f x y)
unfolding sub
sub-forward f x y v w h F =
    let a = v.num in
    let c = v.den in
    let b = w.num in
    let d = w.den in
    let C = mul-pos v.den_pos w.den_pos in
    let is = add-values f x (neg y) v.negative (not w.negative) (a * d) (b * c) (c * d) C (over x y v w) (neg_value y w.negative (b * c) (c * d) (other-over x y v w)) in
    subst (On false) (sym is)
    (sum-forward f (a * d) (b * c) (c * d) C v.negative w.negative
    (le_sizes y x w.negative v.negative b d a c w.value v.value h)
    (subst (λ (z : Float). T (finite z)) is F))

-- ---- the tests against 0
abbrev pub zero : Float
zero = fin false 0 (pos 0)

pub below_on : (x : Float) → T (finite x) → lt x zero ≡ true → On true x
unfolding lt
below_on nan F h = absurd F
below_on (inf s) F h = absurd F
below_on (fin true m e) F h = inl refl
below_on (fin false m e) F h = inr (omega (arith, ltb-true (m * up e * 1) (0 * 1 * down e) h))

pub not_above_on : (x : Float) → T (finite x) → lt zero x ≡ false → On true x
unfolding lt
not_above_on nan F h = absurd F
not_above_on (inf s) F h = absurd F
not_above_on (fin true m e) F h = inl refl
not_above_on (fin false m e) F h = inr (omega (arith, ltb-false (0 * 1 * down e) (m * up e * 1) h))

-- and back
pub on_not_above : (x : Float) → On true x → T (le x zero)
on_not_above nan h = absurd h
on_not_above (inf s) h = absurd h
on_not_above (fin s m e) h = sizes_le (fin s m e) zero s false (m * up e) (down e) 0 1 (down_pos e) (zero-lt-suc 0) (refl, refl) (refl, refl) (low s h)
  where
    low : (s : Bool) → Side true s (m * up e) → Ordered s (m * up e * 1) false (0 * down e)
    low true k = tt
    low false k = let z = none_below (m * up e) k in omega arith

-- a number that is not 0 lies above it where it doesn't lie below
pub above_if_not_below : {k : ℕ} (x : Float) → AtLeast k x → lt x zero ≡ false → lt zero x ≡ true
unfolding lt
above_if_not_below nan w h = absurd w.value
above_if_not_below (inf s) w h = absurd w.value
above_if_not_below (fin s m e) w h = go s h
  where
    some : 0 < m * up e
    some = elim (eq-zero-or-pos (m * up e)) [ inl z ↦ absurd (omega (arith, not_zero w, no-product w.num (down e) (down_pos e) (sym w.value.1 ∙ ap (λ (n : ℕ). n * w.den) z ∙ zero-mul w.den))) | inr p ↦ p ]

    go : (s : Bool) → lt (fin s m e) zero ≡ false → lt zero (fin s m e) ≡ true
    go false q = lt-ltb (0 * 1 * down e) (m * up e * 1) (omega (arith, some))
    go true q = absurd (omega (arith, some, ltb-false 0 (m * up e * 1 + 0 * 1 * down e) q))

-- above 0 and not above it
pub not_both : (x : Float) → lt zero x ≡ true → On true x → ⊥
not_both nan h k = k
not_both (inf s) h k = k
not_both (fin s m e) h k = lt_not_le zero (fin s m e) tt tt (subst T (sym h) tt) (on_not_above (fin s m e) k)

-- ---- what is left of the second above 0, where the first is not above it: no more than the second
module _ (f : Format) {bound : ℕ} (fine : OfFormat f bound) (a b c : ℕ) (C : 0 < c) (small : b ≤ bound * c) where
  rest_of : (s t less more : Bool) → ltb a b ≡ less → ltb b a ≡ more → Side true s a → T (finite (summed f a b c C s t less more))
      → AtMost bound (summed f a b c C s t less more) ⊎ On true (summed f a b c C s t less more)
  rest_of true true less more l m h F = inr (round_side f true true (a + b) c C (inl refl) F)
  rest_of true false true more l m h F = inl (round_at_most f fine false (b - a) c C (le_trans (omega arith) small))
  rest_of true false false true l m h F = inr (round_side f true true (a - b) c C (inl refl) F)
  rest_of true false false false l m h F = inr (round_side f true false (a - b) c C (inr (omega (arith, ltb-false b a m))) F)
  rest_of false false less more l m h F = inl (round_at_most f fine false (a + b) c C (le_trans (omega (arith, none_below a h)) small))
  rest_of false true true more l m h F = inl (round_at_most f fine true (b - a) c C (le_trans (omega arith) small))
  rest_of false true false more l m h F = inl (round_at_most f fine false (a - b) c C (le_trans (omega (arith, none_below a h)) small))

  rest_of_sum : (s t : Bool) → Side true s a → T (finite (sum f s a t b c)) → AtMost bound (sum f s a t b c) ⊎ On true (sum f s a t b c)
  unfolding sum
  rest_of_sum s t h F = rest_of s t (ltb a b) (ltb b a) refl refl h F

pub rest_at_most : (f : Format) {A bound : ℕ} → OfFormat f bound → (x y : Float) (v : AtMost A x) (w : AtMost bound y) → On true x → T (finite (add f x y)) → lt zero (add f x y) ≡ true → AtMost bound (add f x y)
rest_at_most f {A} {bound} fine x y v w h F above =
    let C = mul-pos v.den_pos w.den_pos in
    let small : w.num * v.den ≤ bound * (v.den * w.den) =
    le_trans (mul-le-mul_right v.den w.small) (le_of_eq (mul_right_comm bound w.den v.den ∙ mul_assoc bound v.den w.den)) in
    elim (rest_of_sum f fine (v.num * w.den) (w.num * v.den) (v.den * w.den) C small v.negative w.negative
    (side_of true x v.negative (v.num * w.den) (v.den * w.den) (over x y v w) h) (subst (λ (z : Float). T (finite z)) (added x y v w f) F)) [
      | inl z ↦ subst (AtMost bound) (sym (added x y v w f)) z
      | inr z ↦ absurd (not_both (add f x y) above (subst (On true) (sym (added x y v w f)) z))
    ]
