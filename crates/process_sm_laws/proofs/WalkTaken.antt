-- A chart with even columns, no NaN among its tempos and room for the most that it can come to is taken by the walk. Assumes nothing.
use Prim.Native.Nat.{ℕ, ◌+◌, ◌*◌, ◌≤◌, max, min}
use mathlib.Core.Bool.{Bool, true, false, ◌&&◌, ◌||◌, beq}
use mathlib.Core.List.{List, [], ◌∷◌}
use mathlib.Core.Path.{◌≡◌, refl, sym, subst}
use native.Mathlib.Nat.{le-min}
use lib.Dec.{T}
use lib.IntN.{ℤ}
use lib.ListN.{length}
use lib.Ieee.{Float, nan, inf, fin, le, lt, eq, neg, up, down}
use borrow.Author.Tests.{eq-eqb, le-leb}
use Rattle.limits.specs.Numbers.{in_range, every, all_in, range_of}
use Rattle.limits.specs.declared.Kind.TheVariants.{TidyTempo}
use Rattle.limits.proofs.Every.{every_rest}
use Rattle.process_sm_walk.specs.Columns.{Columns, most_written}
use Rattle.process_sm_walk.specs.Walking.{is_number, chart_number, has_room, walk_number}
use Rattle.process_sm_walk.specs.inside.Rooms.{Room}

pub walk-taken : (tb tv sb sv : List Float) (into : Columns) → length tb ≡ length tv → length sb ≡ length sv → every is_number tv ≡ true → Room (most_written (length tb) (length sb)) into
    → walk_number tb tv sb sv into ≡ 0
unfolding walk_number chart_number has_room
walk-taken tb tv sb sv into t s n r =
    rw (
      eq-eqb (length tb) (length tv) t,
      eq-eqb (length sb) (length sv) s,
      n,
      le-leb (max (length tb) 1) (min (length into.tempo_beats) (length into.tempo_values)) (le-min r.tempo_beats r.tempo_values),
      le-leb (length sb) (min (length into.stop_beats) (length into.stop_values)) (le-min r.stop_beats r.stop_values),
      le-leb (length tb + length sb) (min (length into.warp_beats) (length into.warp_lengths)) (le-min r.warp_beats r.warp_lengths),
    )

-- ---- tempos in their range are no NaN

same_sign : (s : Bool) → beq s s ≡ true
same_sign true = refl
same_sign false = refl

tempo-number : (x : Float) → in_range (range_of TidyTempo) x ≡ true → is_number x ≡ true
unfolding in_range le lt eq neg
tempo-number nan h = absurd (subst T (sym h) tt)
tempo-number (inf s) h = same_sign s
tempo-number (fin s m e) h = rw (eq-eqb (m * up e * down e) (m * up e * down e) refl, same_sign s)

pub tempos-numbers : (values : List Float) → all_in (range_of TidyTempo) values ≡ true → every is_number values ≡ true
unfolding every
tempos-numbers [] h = refl
tempos-numbers (x ∷ values) h =
    let both = every_rest (in_range (range_of TidyTempo)) x values h in
    rw (tempo-number x both.0) (tempos-numbers values both.1)
