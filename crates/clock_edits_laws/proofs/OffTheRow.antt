-- Lists that are the same but on a row are the same below it, so timings that agree off a row agree for it. Assumes nothing.
use mathlib.Core.List.{List, [], ◌∷◌}
use mathlib.Core.Bool.{Bool, true, false, ◌||◌}
use mathlib.Core.Path.{◌≡◌, refl, sym, ap, ◌∙◌}
use lib.IntN.{ℤ}
use lib.Signed.{lt_z}
use lib.Ieee.{Float, binary64}
use Rattle.picks.specs.Pick.{pick}
use Rattle.rows.specs.Rows.{row}
use Rattle.chart.specs.Timing.{Timing}
use Rattle.clock_edits_laws.specs.AgreeingTimings.{entries_on, below_row, elsewhere, AgreeFor, AgreeButOn}

kept : (ℤ → Bool) → List (Float × Float) → List (Float × Float)
kept test [] = []
kept test (e ∷ list) = pick (test (row binary64 e.0)) (e ∷ kept test list) (kept test list)

module _ (r : ℤ) where
  below-kept : (beats values : List Float) → kept (below_row r) (entries_on (elsewhere r) beats values) ≡ entries_on (below_row r) beats values
  unfolding entries_on kept
  below-kept [] values = refl
  below-kept (b ∷ beats) [] = refl
  below-kept (b ∷ beats) (v ∷ values) = go (lt_z (row binary64 b) r) (lt_z r (row binary64 b)) refl (below-kept beats values)
    where
      other : List (Float × Float)
      other = entries_on (elsewhere r) beats values

      go : (x y : Bool) → lt_z (row binary64 b) r ≡ x → kept (below_row r) other ≡ entries_on (below_row r) beats values
          → kept (below_row r) (pick (x || y) ((b, v) ∷ other) other) ≡ pick x ((b, v) ∷ entries_on (below_row r) beats values) (entries_on (below_row r) beats values)
      go true y e ih = rw (e, ih)
      go false true e ih = rw (e, ih)
      go false false e ih = ih

  same-below : (beats values more others : List Float) → entries_on (elsewhere r) beats values ≡ entries_on (elsewhere r) more others
      → entries_on (below_row r) beats values ≡ entries_on (below_row r) more others
  same-below beats values more others h = sym (below-kept beats values) ∙ ap (kept (below_row r)) h ∙ below-kept more others

  pub agree-off : (t u : Timing) → AgreeButOn r t u → AgreeFor r t u
  agree-off t u h = record {
    tempos = rw (h.tempo_beats, h.tempo_values);
    delays = rw (h.delay_beats, h.delay_values);
    stops = same-below t.stop_beats t.stop_values u.stop_beats u.stop_values h.stops;
    warps = same-below t.warp_beats t.warp_lengths u.warp_beats u.warp_lengths h.warps;
  }
