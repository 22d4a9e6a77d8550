-- A question with the timing's end mark has the number, the time and the cursor of the one without, and counts no more. Assumes nothing.
use mathlib.Core.Bool.{Bool, true, false}
use mathlib.Core.Path.{◌≡◌, refl, sym, ap, ◌∙◌}
use native.Mathlib.Omega.{arith}
use lib.Dec.{eqb}
use lib.IntN.{ℤ}
use lib.Signed.{lt_z}
use lib.Ieee.{Float, binary64, sub}
use Rattle.ieee.specs.Constants.{plus_zero}
use Rattle.picks.specs.Pick.{pick}
use Rattle.rows.specs.Rows.{row}
use Rattle.chart.specs.Timing.{Timing}
use Rattle.clock_walk.specs.Passing.{early_tempo}
use Rattle.clock_walk.specs.Soon.{quiet_at}
use Rattle.clock_walk.specs.Walk.{walk}
use Rattle.chart.specs.declared.State.{State}
use Rattle.clock_walk.specs.declared.Mark.{Mark}
use Rattle.clock_walk.specs.declared.Walked.{Walked}
use Rattle.clock_walk.proofs.EarlyTempoApart.{time-apart}
use Rattle.clock_walk.proofs.BeyondTheCourse.{beyond_the_course}
use Rattle.clock_walk.proofs.CourseEnds.{tempo-passed}
use Rattle.clock_tests.specs.TimingNumbers.{beat_number}
use Rattle.clock.specs.Question.{filled, fresh_state, beginning, answered, refused_with, reply, asking}
use Rattle.clock.specs.Marked.{mark_of, from_mark, marked_walk, marked_reply, marked_asking}
use Rattle.clock.specs.declared.Cursor.{Cursor}
use Rattle.clock.specs.declared.Answer.{Answer}
use Rattle.clock_histories.specs.NoDearer.{NoDearer}
use Rattle.clock_histories.proofs.WhereAFreshOneEnds.{Usable, Reached, ends_there, ends-then}

pub same_answer : (a b : Answer) → a ≡ b → NoDearer a b
same_answer a b e = rw e (record { number = refl; time = refl; cursor = refl; count = omega arith })

module _ (t : Timing) (offset global : Float) (usable : Usable (filled t) offset global) where
  abbrev mark : Mark
  mark = mark_of t offset global

  -- ---- beyond the mark
  module _ (c : Cursor) (h : Reached (filled t) offset global usable c) (r : ℤ) (beyond : lt_z mark.row r ≡ true) where
    abbrev here : Walked
    here = walk (filled t) r (beginning c r offset global)

    mark-there : mark.state ≡ here.state
    unfolding mark_of
    mark-there =
        sym (ends_there (filled t) offset global usable c r h ∙ ap (λ (w : Walked). w.state) (beyond_the_course (filled t) r (fresh_state offset global) beyond))

    mark-then : quiet_at (filled t).tempo_values mark.state r ≡ here.time
    unfolding mark_of
    mark-then =
        let f = filled t in
        let fresh = fresh_state offset global in
        time-apart plus_zero (early_tempo f.tempo_beats f.tempo_values fresh) f.tempo_values mark.state r (tempo-passed f fresh usable.some usable.first)
        ∙ sym (ends-then f offset global usable c r h ∙ ap (λ (w : Walked). w.time) (beyond_the_course f r fresh beyond))

    served : NoDearer (answered global r (from_mark mark t r)) (answered global r here)
    served = record {
      number = refl;
      time = ap (λ (x : Float). sub binary64 x global) mark-then;
      cursor = ap (λ (s : State). record { state = s; asked = r }) mark-there;
      count = omega arith;
    }

  from_walks : (c : Cursor) (b : Float) → Reached (filled t) offset global usable c → NoDearer (marked_reply mark t c offset global b) (reply t c offset global b)
  unfolding marked_reply marked_walk reply
  from_walks c b h = go (lt_z mark.row (row binary64 b)) refl
    where
      go : (x : Bool) → lt_z mark.row (row binary64 b) ≡ x
          → NoDearer (answered global (row binary64 b) (pick x (from_mark mark t (row binary64 b)) (walk (filled t) (row binary64 b) (beginning c (row binary64 b) offset global))))
          (answered global (row binary64 b) (walk (filled t) (row binary64 b) (beginning c (row binary64 b) offset global)))
      go true e = served c h (row binary64 b) e
      go false e = same_answer _ _ refl

  -- of the question that tests the beat alone, by a cursor that questions left
  pub from_the_mark : (c : Cursor) (b : Float) → Reached (filled t) offset global usable c → NoDearer (marked_asking mark t c offset global b) (asking t c offset global b)
  unfolding marked_asking asking
  from_the_mark c b h = go (eqb (beat_number b) 0)
    where
      go : (x : Bool) → NoDearer (pick x (marked_reply mark t c offset global b) (refused_with (beat_number b) c)) (pick x (reply t c offset global b) (refused_with (beat_number b) c))
      go true = from_walks c b h
      go false = same_answer _ _ refl
