-- `clock_walk::is_later` is `is_later`, test by test. Assumes nothing.
use Rattle.std.proofs.Common.{◌≡◌, ℕ, Bool, true, false, List, ℤ, pos, ◌+ℤ◌, ap, ◌∙◌, w32, to_z, of_z}
use lib.Signed.{lt_z}
use lib.Ieee.{Float, binary64}
use Rattle.rows.specs.Rows.{beat_of}
use Rattle.clock_walk.specs.Quiet.{not_before, is_later}
use Rattle.clock_walk.proofs.LaterBeats.{next_fits, not_below_lem, not_above_lem, beat-after}
use Rattle.clock_walk.proofs.is_later.Goals as goal

-- both tests passed
inside : (beats : List Float) (place : ℕ) (z : ℤ) (found : Bool) → lt_z z (pos 0) ≡ false → lt_z (pos 3145727) z ≡ false
    → found ≡ not_before beats place (beat_of binary64 (z +ℤ pos 1)) → found ≡ is_later beats place z
unfolding is_later
inside beats place z found h k e = rw (h, k) e

pub returns-then-asked-lt0 : goal.returns-then-asked-lt0
unfolding is_later
returns-then-asked-lt0 c =
    let s = c in
    rw (not_below_lem s.args.asked true s.ranges.asked c.if-asked-lt0.true)

pub returns-then-asked-gt3145727 : goal.returns-then-asked-gt3145727
unfolding is_later
returns-then-asked-gt3145727 c =
    let s = c in
    rw (not_below_lem s.args.asked false s.ranges.asked c.if-asked-lt0.false, not_above_lem s.args.asked true s.ranges.asked c.if-asked-gt3145727.true)

pub overflow_add-asked : goal.overflow_add-asked
overflow_add-asked c = next_fits (to_z w32 (of_z w32 c.args.asked)) c.if-asked-lt0.false c.if-asked-gt3145727.false

pub returns : goal.returns
returns c =
    let s = c in
    let a = s.args in
    let f = s.ranges.asked in
    let below = c.if-asked-lt0.false in
    let above = c.if-asked-gt3145727.false in
    inside a.beats.now a.place a.asked c.not_before.result (not_below_lem a.asked false f below) (not_above_lem a.asked false f above)
    (c.not_before.ensures ∙ ap (not_before a.beats.now a.place) (c.note_row_to_beat-beat.ensures ∙ beat-after a.asked f below above))
