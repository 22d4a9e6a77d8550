-- Places of columns that are lent whole, by the numbers alone. Assumes nothing.
use Rattle.std.proofs.Common.{ℕ, ◌*◌, ◌^◌, ◌<◌, arith, w64, Fits}

pub scaled4 : (i n : ℕ) → i < n → n * 4 < 2 ^ 63 → Fits w64 (i * 4)
scaled4 i n a b = record { fits = omega arith }

pub scaled8 : (i n : ℕ) → i < n → n * 8 < 2 ^ 63 → Fits w64 (i * 8)
scaled8 i n a b = record { fits = omega arith }
