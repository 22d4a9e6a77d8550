-- What is close to a 48th of a whole number rounds as the 48th does. For what a format keeps of n / 48 is a number of thirds, never a half, so the whole number nearest to it is nearest to all that is much closer than a sixth. Over the format, and over what is rounded. Assumes nothing.
use Rattle.std.proofs.Common.{◌≡◌, ℕ, suc, ◌+◌, ◌-◌, ◌*◌, ◌/◌, ◌^◌, ◌<◌, ◌≤◌, Bool, sym, ap, ◌∙◌, subst, ap₂, le_trans, le_of_eq, lt_of_lt_of_le, lt_of_le_of_lt, mul-le-mul_right, zero-lt-suc, mul_assoc, mul_comm, div-lt_iff_lt-mul, lt_of_mul-lt-mul_right, mul-pos, one-mul, le-div_iff_mul-le, mul_right_comm, arith, lit≤, pow_pos, pow-add}
use lib.Ieee.{Format, binary32, binary64, prec, low, size, units, round}
use lib.Ieee.Digits.{size-lt, size-le, size_reaches}
use lib.Ieee.Fits.{round_is, two}
use lib.Ieee.Nearest.{closest, closest_same}
use Rattle.ieee.specs.Nearest.{NearestWhole}
use Rattle.ieee.proofs.NearestWhole.{closest_nearest, closest_is}
use Rattle.ieee.proofs.Pack.{dropped, held, size_quot}
use Rattle.ieee.proofs.RoundedSize.{Near, near-scaled}
use Rattle.ieee.proofs.Snap.{size_gt}
use Rattle.rows.proofs.RowValue.{tiny}

-- y is off from t thirds by so little that the whole number nearest to t thirds is nearest to y too. In units of `one`
thirds : (t q one y most : ℕ) → 0 < one → t < most * 3 → NearestWhole t 3 q → Near (most * 8) (y * 3) (t * one) → NearestWhole y one q × (y < most * one)
thirds t q one y most O hi near close =
    let l = mul-le-mul_right one hi in
    let above : y * 24 < t * one * 8 + one * 3 = lt_of_mul-lt-mul_right most (omega (arith, close.0)) in
    let below : t * one * 8 < y * 24 + one * 3 = lt_of_mul-lt-mul_right most (omega (arith, close.1)) in
    let no_more : q * 3 ≤ t + 1 = omega (arith, near.near) in
    let no_less : t ≤ q * 3 + 1 = omega (arith, near.near) in
    let c = mul-le-mul_right one no_more in
    let d = mul-le-mul_right one no_less in
    (record { near = omega arith; tie = λ e. absurd (omega arith) }, omega arith)

-- y / one is as close to n / 48 as that, and no lower than a power of two that n / 48 reaches
pub record Close (f : Format) (n y one : ℕ) : Type 0 where
  pub one_pos : 0 < one
  pub near : Near (2 ^ prec f * 8) (y * 48) (n * one)
  pub reaches : (j : ℕ) → 2 ^ (prec f - 1 + j) * 48 ≤ n * 2 ^ low f → 2 ^ (prec f - 1 + j) * one ≤ y * 2 ^ low f

deep : (f : Format) → 4 ≤ low f
deep binary32 = lit≤ tt
deep binary64 = lit≤ tt

module _ (f : Format) (n : ℕ) (N : 0 < n) (h : n ≤ 2 ^ prec f) where
  -- how many digits of n / 48, in smallest units, the format drops
  abbrev cut : ℕ
  cut = dropped f n 48

  digits : (prec f + cut ≡ size (n * 2 ^ low f / 48)) × (4 + cut ≤ low f)
  digits =
      let d = deep f in
      let t = two f in
      let whole : 2 ^ low f ≡ 2 ^ (low f - 4) * 16 = ap (λ (x : ℕ). 2 ^ x) (omega arith) ∙ pow-add 2 (low f - 4) 4 in
      let a = pow-add 2 (prec f) (low f - 4) in
      let b = mul-le-mul_right (2 ^ low f) h in
      let c = ap (λ (x : ℕ). 2 ^ prec f * x) whole in
      let p = pow_pos (prec f + (low f - 4)) in
      let few = size-le (n * 2 ^ low f / 48) (prec f + (low f - 4)) ((div-lt_iff_lt-mul (zero-lt-suc 47)).1 (omega arith)) in
      let many = size_gt (n * 2 ^ low f / 48) (prec f - 1) ((le-div_iff_mul-le (zero-lt-suc 47)).1 (le_trans (tiny f) (le_trans (le_of_eq (sym (one-mul (2 ^ low f)))) (mul-le-mul_right (2 ^ low f) N)))) in
      (omega arith, omega arith)

  at_least : 2 ^ (prec f - 1 + cut) * 48 ≤ n * 2 ^ low f
  at_least =
      let d = digits in
      let t = two f in
      (le-div_iff_mul-le (zero-lt-suc 47)).0 (size_reaches (n * 2 ^ low f / 48) (prec f - 1 + cut) (omega arith))

  less_than : n * 2 ^ low f < 2 ^ (prec f + cut) * 48
  less_than = (div-lt_iff_lt-mul (zero-lt-suc 47)).0 (subst (λ (z : ℕ). n * 2 ^ low f / 48 < 2 ^ z) (sym digits.0) (size-lt (n * 2 ^ low f / 48)))

  -- in units of the last digit that it keeps, n / 48 is so many thirds: fewer than 3 * 2 ^ prec
  abbrev parts : ℕ
  parts = n * 2 ^ (low f - (4 + cut))

  in_thirds : n * 2 ^ low f ≡ parts * (16 * 2 ^ cut)
  in_thirds =
      let d = digits in
      let split : low f ≡ low f - (4 + cut) + (4 + cut) = omega arith in
      ap (λ (x : ℕ). n * x) (ap (λ (x : ℕ). 2 ^ x) split ∙ pow-add 2 (low f - (4 + cut)) (4 + cut) ∙ ap (λ (x : ℕ). 2 ^ (low f - (4 + cut)) * x) (pow-add 2 4 cut))
      ∙ sym (mul_assoc n (2 ^ (low f - (4 + cut))) (16 * 2 ^ cut))

  few-thirds : parts < 2 ^ prec f * 3
  few-thirds =
      let top : 2 ^ (prec f + cut) * 48 ≡ 2 ^ prec f * 3 * (16 * 2 ^ cut) = let p = pow-add 2 (prec f) cut in omega arith in
      lt_of_mul-lt-mul_right (16 * 2 ^ cut) (lt_of_le_of_lt (le_of_eq (sym in_thirds)) (lt_of_lt_of_le less_than (le_of_eq top)))

  kept-thirds : held f n 48 ≡ closest parts 3
  kept-thirds =
      closest_same (n * 2 ^ low f) (48 * 2 ^ cut) parts 3 (mul-pos (zero-lt-suc 47) (pow_pos cut)) (zero-lt-suc 2)
      (ap (λ (x : ℕ). x * 3) in_thirds ∙ mul_assoc parts (16 * 2 ^ cut) 3 ∙ ap (λ (x : ℕ). parts * x) (omega arith))

  module _ (y one : ℕ) (close : Close f n y one) where
    -- the same of y / one: the format drops as many digits, and keeps the same number
    nearest-kept : NearestWhole (y * 2 ^ low f) (one * 2 ^ cut) (closest parts 3) × (y * 2 ^ low f < 2 ^ prec f * (one * 2 ^ cut))
    nearest-kept =
        let unit = one * 2 ^ cut in
        let p = 2 ^ prec f * 8 in
        let scaled = near-scaled p (y * 48) (n * one) (2 ^ low f) close.near in
        let a : y * 48 * 2 ^ low f ≡ y * 2 ^ low f * 3 * 16 = omega arith in
        let b : n * one * 2 ^ low f ≡ parts * unit * 16 = mul_right_comm n one (2 ^ low f) ∙ ap (λ (x : ℕ). x * one) in_thirds ∙ omega arith in
        thirds parts (closest parts 3) unit (y * 2 ^ low f) (2 ^ prec f) (mul-pos close.one_pos (pow_pos cut)) few-thirds (closest_nearest parts 3 (zero-lt-suc 2))
        (by_sixteen p (y * 2 ^ low f * 3) (parts * unit) (subst (λ (x : ℕ). Near p x (parts * unit * 16)) a (subst (λ (x : ℕ). Near p (y * 48 * 2 ^ low f) x) b scaled)))
      where
        by_sixteen : (p x z : ℕ) → Near p (x * 16) (z * 16) → Near p x z
        by_sixteen p x z k = (omega (arith, k.0), omega (arith, k.1))

    same_drop : dropped f y one ≡ cut
    same_drop =
        let t = two f in
        let i : suc (prec f - 1 + cut) ≡ prec f + cut = omega arith in
        let top : 2 ^ prec f * (one * 2 ^ cut) ≡ 2 ^ suc (prec f - 1 + cut) * one = let p = pow-add 2 (prec f) cut in ap (λ (x : ℕ). 2 ^ prec f * x) (mul_comm one (2 ^ cut)) ∙ sym (mul_assoc (2 ^ prec f) (2 ^ cut) one) ∙ ap (λ (x : ℕ). x * one) (sym p ∙ ap (λ (x : ℕ). 2 ^ x) (sym i)) in
        let z = size_quot (y * 2 ^ low f) one (prec f - 1 + cut) close.one_pos (close.reaches cut at_least) (lt_of_lt_of_le nearest-kept.1 (le_of_eq top)) in
        ap (λ (x : ℕ). x - prec f) (z ∙ i) ∙ omega arith

    same_kept : held f y one ≡ held f n 48
    same_kept =
        ap (λ (x : ℕ). closest (y * 2 ^ low f) (one * 2 ^ x)) same_drop
        ∙ closest_is (y * 2 ^ low f) (one * 2 ^ cut) (closest parts 3) (mul-pos close.one_pos (pow_pos cut)) nearest-kept.0
        ∙ sym kept-thirds

    pub close-round : (s : Bool) → round f s y one ≡ round f s n 48
    close-round s = round_is f s y one ∙ ap₂ (units f s) same_kept same_drop ∙ sym (round_is f s n 48)
