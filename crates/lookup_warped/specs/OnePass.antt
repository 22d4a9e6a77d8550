-- One pass over warps, which keeps the furthest end so far: a warp adds its rows from there on. It is defined for every list; where starts never fall it is the
-- number of warped rows (`one_pass_counts`), and for no list is it more (`counts_none_twice`). Rows go by their keys, 2 ^ 31 above them. Definitions only.
use Rattle.std.specs.Prelude.{ℕ, ◌+◌, ◌-◌, max, List, [], ◌∷◌, nat_lt, Float}
use Rattle.picks.specs.Pick.{pick}
use Rattle.rows.specs.RowKey.{row_key_of}
use Rattle.lookup_warped.specs.WarpedRows.{length_rows}

-- the key behind the last row of a warp
abbrev pub end_key : Float × Float → ℕ
end_key warp = row_key_of warp + length_rows warp.1

-- the first of its rows that is not before the furthest end
abbrev pub first_new : (far : ℕ) → Float × Float → ℕ
first_new far warp = max far (row_key_of warp)

-- a warp that has no row there moves nothing
abbrev pub furthest : (far : ℕ) → Float × Float → ℕ
furthest far warp = pick (nat_lt (first_new far warp) (end_key warp)) (end_key warp) far

unfoldable pub pass_on : (far : ℕ) → List (Float × Float) → ℕ
pass_on far [] = 0
pass_on far (warp ∷ warps) = (end_key warp - first_new far warp) + pass_on (furthest far warp) warps

-- THE PASS: no row is before its first end
unfoldable pub one_pass : List (Float × Float) → ℕ
one_pass warps = pass_on 0 warps
