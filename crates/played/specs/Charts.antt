-- The timings of the table, and a beat asked of one. Definitions only.
use Rattle.std.specs.Prelude.{ℕ, [], ◌∷◌, Float}
use Rattle.chart.specs.Timing.{Timing, timing}
use Rattle.clock.specs.Question.{fresh_cursor, question}
use Rattle.clock.specs.declared.Answer.{Answer}
use Rattle.played.specs.Numbers.{whole_float}

-- tempo 120, and a stop of 1 at beat 4
abbrev pub stopped : Timing
stopped = timing (whole_float 0 ∷ []) (whole_float 120 ∷ []) (whole_float 4 ∷ []) (whole_float 1 ∷ []) [] [] [] []

-- tempo 120, and a warp of 2 at beat 4
abbrev pub warped : Timing
warped = timing (whole_float 0 ∷ []) (whole_float 120 ∷ []) [] [] [] [] (whole_float 4 ∷ []) (whole_float 2 ∷ [])

-- number, time and count
abbrev pub told : Answer → ℕ × Float × ℕ
told a = (a.number, a.time, a.count)

-- a fresh cursor is asked, at offsets of 0
abbrev pub asked : Timing → Float → ℕ × Float × ℕ
asked t beat = told (question t (fresh_cursor (whole_float 0) (whole_float 0)) (whole_float 0) (whole_float 0) beat)
