-- The sixteen digits of a pattern are those of its upper half and of its lower half. Assumes nothing.
use Prim.Native.Nat.{ℕ, ◌*◌, ◌/◌, ◌%◌}
use mathlib.Core.Path.{◌≡◌, ap, ◌∙◌}
use mathlib.Core.List.{List, ◌++◌}
use native.Mathlib.Nat.{div-div-eq-div-mul}
use native.Mathlib.Omega.{arith}
use Rattle.ieee_patterns.specs.Hex.{hex_text}
use Rattle.order.specs.Packed.{upper_half, lower_half}

-- a digit of the upper half, and the eight of the lower one, are digits of the whole
high : (n p : ℕ) → n / 4294967296 / p % 16 ≡ n / (4294967296 * p) % 16
high n p = ap (λ (m : ℕ). m % 16) (div-div-eq-div-mul n 4294967296 p)

low_0 : (n : ℕ) → n % 4294967296 / 1 % 16 ≡ n / 1 % 16
low_0 n = omega arith

low_1 : (n : ℕ) → n % 4294967296 / 16 % 16 ≡ n / 16 % 16
low_1 n = omega arith

low_2 : (n : ℕ) → n % 4294967296 / 256 % 16 ≡ n / 256 % 16
low_2 n = omega arith

low_3 : (n : ℕ) → n % 4294967296 / 4096 % 16 ≡ n / 4096 % 16
low_3 n = omega arith

low_4 : (n : ℕ) → n % 4294967296 / 65536 % 16 ≡ n / 65536 % 16
low_4 n = omega arith

low_5 : (n : ℕ) → n % 4294967296 / 1048576 % 16 ≡ n / 1048576 % 16
low_5 n = omega arith

low_6 : (n : ℕ) → n % 4294967296 / 16777216 % 16 ≡ n / 16777216 % 16
low_6 n = omega arith

low_7 : (n : ℕ) → n % 4294967296 / 268435456 % 16 ≡ n / 268435456 % 16
low_7 n = omega arith

module _ (n : ℕ) where
  lower-digits : hex_text 8 (lower_half n) ≡ hex_text 8 n
  unfolding hex_text
  lower-digits = cc (low_7 n, low_6 n, low_5 n, low_4 n, low_3 n, low_2 n, low_1 n, low_0 n)

  upper_digits : hex_text 8 (upper_half n) ++ hex_text 8 n ≡ hex_text 16 n
  unfolding hex_text
  upper_digits = cc (high n 268435456, high n 16777216, high n 1048576, high n 65536, high n 4096, high n 256, high n 16, high n 1)

  pub hex_halves : hex_text 8 (upper_half n) ++ hex_text 8 (lower_half n) ≡ hex_text 16 n
  hex_halves = ap (λ (l : List ℕ). hex_text 8 (upper_half n) ++ l) lower-digits ∙ upper_digits
