-- The exact sum of a product and an addend as a whole number, cut short. Definitions only.
use Rattle.std.specs.Prelude.{◌≡◌, ℕ, ◌*◌, ◌^◌, Bool, cond, not, ◌&&◌, nat_lt}
use Rattle.ieee.specs.inside.SumSize.{sum_size}
use Rattle.ieee_odd_cut.specs.OddCut.{odd_cut}

-- The digits of a product and those of what is added, each moved up in its two words to leave room below. Both are even.
abbrev pub product_of : ℕ → ℕ → ℕ
product_of m n = m * 1024 * (n * 1024)

abbrev pub addend_of : ℕ → ℕ
addend_of o = o * 512 * 2 ^ 64

-- w is the size of ±(a * 2 ^ x) ± (b * 2 ^ z), cut at the larger of the two powers, 2 ^ y; and second says whether b's sign counts
pub record Summed (alike : Bool) (a x b z w y : ℕ) (second : Bool) : Type 0 where
  pub at : y ≡ cond (nat_lt x z) z x
  pub cut : w ≡ odd_cut (sum_size alike (a * 2 ^ x) (b * 2 ^ z)) (2 ^ y)
  pub larger : second ≡ (not alike && nat_lt (a * 2 ^ x) (b * 2 ^ z))
