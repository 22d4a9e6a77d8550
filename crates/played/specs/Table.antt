-- The played examples that are proved, a line each: what the definitions give is what it is to be.
use Rattle.std.specs.Prelude.{◌≡◌, false, [], ◌∷◌, map, List, pos, Float}
use Rattle.std.specs.Float.{binary32, binary64}
use Rattle.std.specs.Float.Ieee.{neg}
use Rattle.rows.specs.Rows.{row}
use Rattle.tidy_rows.specs.RowTidying.{tidy_rows}
use Rattle.tidy_tempos.specs.TempoTidying.{tidy_tempos}
use Rattle.lookup.specs.Lookups.{warp_lists, is_warped, asked_row}
use Rattle.stops_for_sm.specs.Merging.{sources, merged_stops, at_first}
use Rattle.played.specs.Charts.{stopped, warped, asked}
use Rattle.tidy_scrolls.specs.ScrollTidying.{tidy_scrolls, scrolls_number}
use Rattle.process_sm_walk.specs.Chart.{Output}
use Rattle.tidy_tempos.specs.TempoTidying.{tidied_tempos}
use Rattle.process_sm_walk_raw.specs.RawWalk.{sm_written}
use Rattle.played.specs.Numbers.{decimal_float, whole_float, minus}

-- what SM makes of tempos alone: the tempos tidied, the stops and the warps
abbrev pub sm_of : List Float → List Float → Output
sm_of beats tempos = record {
  tempos = tidied_tempos (sm_written beats tempos [] []).tempos;
  stops = (sm_written beats tempos [] []).stops;
  warps = (sm_written beats tempos [] []).warps;
}

pub record Examples : Type 0 where
  -- rows of beats, at each width
  pub rows_f64 : map (row binary64) (decimal_float 3125 5 ∷ decimal_float 9375 5 ∷ neg (decimal_float 3125 5) ∷ []) ≡ pos 2 ∷ pos 4 ∷ minus 2 ∷ []
  pub rows_f32 : map (row binary32) (decimal_float 3125 5 ∷ decimal_float 9375 5 ∷ neg (decimal_float 3125 5) ∷ []) ≡ pos 2 ∷ pos 4 ∷ minus 2 ∷ []
  -- row tidying: beats and values, and the entries that they give
  pub stops :
      tidy_rows (whole_float 4 ∷ whole_float 2 ∷ whole_float 4 ∷ []) (whole_float 1 ∷ whole_float 3 ∷ whole_float 2 ∷ [])
      ≡ (whole_float 2, whole_float 3) ∷ (whole_float 4, whole_float 2) ∷ []
  -- tempos, tidied: of equal beats the last, moved to 0; and an equal tempo left out
  pub tempos_of_one_beat : tidy_tempos (whole_float 1 ∷ whole_float 1 ∷ []) (whole_float 150 ∷ whole_float 160 ∷ []) ≡ (whole_float 0, whole_float 160) ∷ []
  pub tempos_that_change :
      tidy_tempos (whole_float 0 ∷ whole_float 4 ∷ whole_float 8 ∷ []) (whole_float 120 ∷ whole_float 120 ∷ whole_float 60 ∷ [])
      ≡ (whole_float 0, whole_float 120) ∷ (whole_float 8, whole_float 60) ∷ []
  -- lookups: of two warps only the later is tested, though the earlier covers the beat
  pub later_warp_tested :
      is_warped (warp_lists [] [] [] [] (whole_float 0 ∷ whole_float 4 ∷ []) (whole_float 8 ∷ whole_float 1 ∷ [])) (asked_row (whole_float 6))
      ≡ false
  -- SM stops: a warp takes away just what a stop on its beat would last
  pub warp_for_stop :
      merged_stops (sources (whole_float 0 ∷ []) (whole_float 120 ∷ []) (whole_float 4 ∷ whole_float 1 ∷ []) [] [] (whole_float 4 ∷ []) (whole_float 2 ∷ [])) at_first
      ≡ []
  -- the clock: number, time and count of a beat that a stop is on, and of the next; of a beat within a warp, and of one behind it
  pub beat_of_a_stop : asked stopped (whole_float 4) ≡ (0, whole_float 2, 2)
  pub beat_behind_a_stop : asked stopped (whole_float 5) ≡ (0, decimal_float 35 1, 3)
  pub beat_within_a_warp : asked warped (whole_float 5) ≡ (0, whole_float 2, 3)
  pub beat_behind_a_warp : asked warped (whole_float 8) ≡ (0, whole_float 3, 4)
  -- scrolls: in order, and out of order, where a fourth entry finds a kept list that falls
  pub scrolls_in_order :
      tidy_scrolls (whole_float 0 ∷ whole_float 4 ∷ whole_float 4 ∷ []) (whole_float 1 ∷ whole_float 2 ∷ whole_float 1 ∷ [])
      ≡ (whole_float 0, whole_float 1) ∷ []
  pub scrolls_out_of_order :
      tidy_scrolls (whole_float 4 ∷ whole_float 8 ∷ whole_float 0 ∷ []) (whole_float 1 ∷ whole_float 2 ∷ whole_float 2 ∷ [])
      ≡ (whole_float 4, whole_float 1) ∷ (whole_float 0, whole_float 2) ∷ []
  pub scrolls_that_fall_last : scrolls_number (whole_float 4 ∷ whole_float 8 ∷ whole_float 0 ∷ []) (whole_float 1 ∷ whole_float 2 ∷ whole_float 2 ∷ []) ≡ 0
  pub scrolls_that_fall :
      scrolls_number (whole_float 4 ∷ whole_float 8 ∷ whole_float 0 ∷ whole_float 12 ∷ []) (whole_float 1 ∷ whole_float 2 ∷ whole_float 2 ∷ whole_float 3 ∷ [])
      ≡ 6
  -- SM: a tempo backwards makes a warp up to where its time is made good; one that opens the chart makes none
  pub sm_backward :
      sm_of (whole_float 0 ∷ whole_float 4 ∷ whole_float 8 ∷ []) (whole_float 120 ∷ neg (whole_float 120) ∷ whole_float 120 ∷ [])
      ≡ record { tempos = (whole_float 0, whole_float 120) ∷ []; stops = []; warps = (whole_float 4, whole_float 8) ∷ [] }
  pub sm_backward_from_the_start :
      sm_of (whole_float 0 ∷ whole_float 4 ∷ []) (neg (whole_float 120) ∷ whole_float 120 ∷ [])
      ≡ record { tempos = (whole_float 0, whole_float 120) ∷ []; stops = []; warps = [] }
