-- Whole numbers of two words. Definitions only.
use Rattle.std.specs.Prelude.{ℕ, ◌+◌, ◌*◌, ◌^◌}
use Rattle.ieee_mul_add.specs.declared.Wide.{Wide}

-- the number that two words are
abbrev pub two_words : ℕ → ℕ → ℕ
two_words high low = high * 2 ^ 64 + low

abbrev pub words_of : Wide → ℕ
words_of w = two_words w.high w.low
