-- The rows of a measure, counted byte by byte, are its parts between line feeds that show. Assumes nothing.
use Prim.Native.Nat.{ℕ, ◌+◌}
use mathlib.Core.Bool.{Bool, true, false, ◌||◌}
use mathlib.Core.List.{List, [], ◌∷◌}
use mathlib.Core.Path.{◌≡◌, refl, sym}
use lib.Dec.{eqb}
use Rattle.picks.specs.Pick.{pick}
use Rattle.limits.specs.Numbers.{every}
use Rattle.notes_rows.specs.Measures.{first_part, later_parts, parts, line_feed, is_blank, shows, one_if, how_many_show, rows_of}
use Rattle.notes_rows.specs.inside.Counting.{rows_from_here}

-- the row at hand, which is begun or has still to show, and those behind it
from-here : (begun : Bool) (bytes : List ℕ) → rows_from_here begun bytes ≡ one_if (begun || shows (first_part line_feed bytes)) + how_many_show (later_parts line_feed bytes)
unfolding rows_from_here first_part later_parts every how_many_show
from-here true [] = refl
from-here false [] = refl
from-here begun (byte ∷ bytes) = go (eqb byte line_feed) (is_blank byte) refl begun (λ t. from-here t bytes)
  where
    go : (feed blank : Bool) → is_blank byte ≡ blank → (begun : Bool) → ((t : Bool) → rows_from_here t bytes ≡ one_if (t || shows (first_part line_feed bytes)) + how_many_show (later_parts line_feed bytes))
        → pick feed (one_if begun + rows_from_here false bytes) (rows_from_here (pick blank begun true) bytes)
        ≡ one_if (begun || shows (pick feed [] (byte ∷ first_part line_feed bytes))) + how_many_show (pick feed (first_part line_feed bytes ∷ later_parts line_feed bytes) (later_parts line_feed bytes))
    go true blank is true rest = rw (rest false)
    go true blank is false rest = rw (rest false)
    go false true is true rest = rest true
    go false true is false rest = rw is (rest false)
    go false false is true rest = rest true
    go false false is false rest = rw is (rest true)

pub rows_byte_by_byte : (bytes : List ℕ) → rows_of bytes ≡ rows_from_here false bytes
unfolding rows_of parts how_many_show
rows_byte_by_byte bytes = sym (from-here false bytes)
