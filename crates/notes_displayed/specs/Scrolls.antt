-- Where scrolls draw a beat. The display moves by beats, and from a scroll on by its ratio for each beat, until the next scroll. Definitions only.
use Rattle.std.specs.Prelude.{ℕ, suc, ◌-◌, Bool, false, List, [], ◌∷◌, pos, ◌==◌, slice_index_or, Float}
use Rattle.std.specs.Float.{nan, fin, binary64}
use Rattle.std.specs.Float.Ieee.{le, add, sub, mul}
use Rattle.ieee.specs.Constants.{plus_zero}
use Rattle.ieee_mul_add.specs.MulAdd.{mul_add}
use Rattle.picks.specs.Pick.{pick}
use Rattle.order_search.specs.Search.{place_of}
use Rattle.order_search.specs.F32UpTo.{f32_up_to}

-- ---- the prefix: how far the display has moved at each scroll

-- at a beat, by how far it had moved at an earlier one and the ratio since then: difference, product and sum are rounded, each by itself
unfoldable pub scrolled_on : (shown from ratio to : Float) → Float
scrolled_on shown from ratio to = add binary64 shown (mul binary64 (sub binary64 to from) ratio)

-- at each scroll, one after the other
unfoldable pub prefix_from : (shown from ratio : Float) → (beats ratios : List Float) → List Float
prefix_from shown from ratio [] ratios = []
prefix_from shown from ratio (b ∷ beats) [] = []
prefix_from shown from ratio (b ∷ beats) (r ∷ ratios) = scrolled_on shown from ratio b ∷ prefix_from (scrolled_on shown from ratio b) b r beats ratios

-- at beat 0 nothing has moved, and before the first scroll the ratio is 1
abbrev pub ratio_before : Float
ratio_before = fin false 1 (pos 0)

unfoldable pub scroll_prefix : (beats ratios : List Float) → List Float
scroll_prefix beats ratios = prefix_from plus_zero plus_zero ratio_before beats ratios

-- ---- a beat

-- a scroll counts from its own beat on
unfoldable pub reaches : (scroll at : Float) → Bool
reaches scroll at = le scroll at

-- how many scrolls are at or before a beat: their beats never fall, so these come first, and of scrolls on one beat all count
unfoldable pub up_to_beat : Float → List Float → ℕ
up_to_beat at [] = 0
up_to_beat at (b ∷ beats) = pick (reaches b at) (suc (up_to_beat at beats)) 0

-- behind a scroll at which the display has moved so far: the difference is rounded, and then product and sum together, once
unfoldable pub displayed_from : (shown from ratio at : Float) → Float
displayed_from shown from ratio at = mul_add binary64 (sub binary64 at from) ratio shown

-- behind n scrolls: by the last of them, and the beat itself behind none. A number that a column lacks is a NaN
unfoldable pub behind_scrolls : (beats ratios prefix : List Float) → ℕ → Float → Float
behind_scrolls beats ratios prefix n at =
    pick (n == 0) at (displayed_from (slice_index_or prefix (n - 1) nan) (slice_index_or beats (n - 1) nan) (slice_index_or ratios (n - 1) nan) at)

unfoldable pub displayed_beat : (beats ratios : List Float) → Float → Float
displayed_beat beats ratios at = behind_scrolls beats ratios (scroll_prefix beats ratios) (up_to_beat at beats) at

-- how many a search finds, whatever the order of the beats
unfoldable pub found_up_to : Float → List Float → ℕ
found_up_to at beats = place_of (f32_up_to at) beats

-- by the search, and by any prefix
unfoldable pub displayed_by : (beats ratios prefix : List Float) → Float → Float
displayed_by beats ratios prefix at = behind_scrolls beats ratios prefix (found_up_to at beats) at
