-- One turn of the loop that looks for a list of more than 256 entries. Assumes nothing.
use Prim.Native.Nat.{ℕ, ◌+◌, ◌≤◌, ◌<◌}
use mathlib.Core.Path.{◌≡◌}
use mathlib.Core.Bool.{true, false}
use mathlib.Core.List.{List}
use native.Mathlib.Numerals.{add-one}
use lib.ListN.{length, drop, get_or, drop_of_length-le}
use lib.Seq.{drop-cons}
use borrow.Author.Tests.{lt-ltb, le-ltb}
use Rattle.report_form.specs.Form.{over}

pub over_hit : (l : List ℕ) (i : ℕ) → i < length l → 256 < get_or l i 0 → true ≡ over (drop i l)
unfolding over
over_hit l i h e = rw (drop-cons l i 0 h, lt-ltb 256 (get_or l i 0) e)

pub over-miss : (l : List ℕ) (i : ℕ) → i < length l → get_or l i 0 ≤ 256 → over (drop (i + 1) l) ≡ over (drop i l)
unfolding over
over-miss l i h e = rw (add-one i, drop-cons l i 0 h, le-ltb 256 (get_or l i 0) e)

pub over-end : (l : List ℕ) (i : ℕ) → length l ≤ i → false ≡ over (drop i l)
unfolding over
over-end l i h = rw (drop_of_length-le l h)
