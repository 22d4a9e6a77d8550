-- Three scrolls, two of them on one beat, as the original draws behind them, bit for bit: with a rounding more or less, with the first of the two scrolls, or with a scroll that
-- counts only behind its beat, the positions are others. Assumes nothing.
use Rattle.std.proofs.Common.{◌≡◌, List, [], ◌∷◌, refl}
use lib.Ieee.{Float, binary32, binary64, of_bits, le, add, sub, mul}
use Rattle.ieee_mul_add.specs.MulAdd.{mul_add}
use Rattle.notes_displayed.specs.Scrolls.{scrolled_on, prefix_from, scroll_prefix, reaches, up_to_beat, displayed_from, behind_scrolls, displayed_beat}

-- at beats 0.0013233334, 160 and 160
abbrev scroll_beats : List Float
scroll_beats = of_bits binary32 0x3AAD_73B3 ∷ of_bits binary32 0x4320_0000 ∷ of_bits binary32 0x4320_0000 ∷ []

-- by 0.1, 0.3 and 0.7
abbrev scroll_ratios : List Float
scroll_ratios = of_bits binary32 0x3DCC_CCCD ∷ of_bits binary32 0x3E99_999A ∷ of_bits binary32 0x3F33_3333 ∷ []

pub example_prefix : scroll_prefix scroll_beats scroll_ratios ≡ of_bits binary64 0x3F55_AE76_6000_0000 ∷ of_bits binary64 0x4030_004E_11AA_243C ∷ of_bits binary64 0x4030_004E_11AA_243C ∷ []
unfolding scroll_prefix prefix_from scrolled_on of_bits add sub mul
example_prefix = refl

-- at 163 and a 24th
pub example_behind : displayed_beat scroll_beats scroll_ratios (of_bits binary64 0x4064_6155_5555_5555) ≡ of_bits binary64 0x4032_215F_221F_798F
unfolding displayed_beat behind_scrolls up_to_beat reaches displayed_from scroll_prefix prefix_from scrolled_on of_bits le add sub mul mul_add
example_behind = refl

-- at 160
pub example_on : displayed_beat scroll_beats scroll_ratios (of_bits binary64 0x4064_0000_0000_0000) ≡ of_bits binary64 0x4030_004E_11AA_243C
unfolding displayed_beat behind_scrolls up_to_beat reaches displayed_from scroll_prefix prefix_from scrolled_on of_bits le add sub mul mul_add
example_on = refl
