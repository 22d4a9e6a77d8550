-- `clock_walk::is_only_tempos` is `only_tempos`, test by test. Assumes nothing.
use Rattle.std.proofs.Common.{true, false, ◌∙◌, w32, to_z, of_z}
use Rattle.clock_walk.specs.Quiet.{only_tempos}
use Rattle.rows.proofs.BackFromBits.{test-is}
use Rattle.clock_walk.proofs.LaterBeats.{next_fits, not_below_lem, not_above_lem, beat-after}
use Rattle.clock_walk.proofs.is_only_tempos.Goals as goal

pub returns-then-asked-lt0 : goal.returns-then-asked-lt0
unfolding only_tempos
returns-then-asked-lt0 c =
    let s = c in
    let a = s.args in
    let f = s.ranges.asked in
    rw (not_below_lem a.asked true f c.if-asked-lt0.true)

pub returns-then-asked-gt3145727 : goal.returns-then-asked-gt3145727
unfolding only_tempos
returns-then-asked-gt3145727 c =
    let s = c in
    let a = s.args in
    let f = s.ranges.asked in
    rw (
      not_below_lem a.asked false f c.if-asked-lt0.false,
      not_above_lem a.asked true f c.if-asked-gt3145727.true,
    )

pub overflow_add-asked : goal.overflow_add-asked
overflow_add-asked c = next_fits (to_z w32 (of_z w32 c.args.asked)) c.if-asked-lt0.false c.if-asked-gt3145727.false

pub returns-then-not_before-2 : goal.returns-then-not_before-2
unfolding only_tempos
returns-then-not_before-2 c =
    let s = c in
    let a = s.args in
    let f = s.ranges.asked in
    let is = c.note_row_to_beat-beat.ensures ∙ beat-after a.asked f c.if-asked-lt0.false c.if-asked-gt3145727.false in
    rw (
      not_below_lem a.asked false f c.if-asked-lt0.false,
      not_above_lem a.asked false f c.if-asked-gt3145727.false,
      test-is a.asked c.end_row.result _ true f (record { sfits = c.end_row.type_inv }) c.if-asked-end_row.true c.end_row.ensures,
      ← is,
      ← c.not_before.ensures,
      c.if-not_before.true,
      ← c.not_before-then-not_before.ensures,
      c.if-not_before-2.true,
    ) c.not_before-then-not_before-2.ensures

pub returns-then-not_before : goal.returns-then-not_before
unfolding only_tempos
returns-then-not_before c =
    let s = c in
    let a = s.args in
    let f = s.ranges.asked in
    let is = c.note_row_to_beat-beat.ensures ∙ beat-after a.asked f c.if-asked-lt0.false c.if-asked-gt3145727.false in
    rw (
      not_below_lem a.asked false f c.if-asked-lt0.false,
      not_above_lem a.asked false f c.if-asked-gt3145727.false,
      test-is a.asked c.end_row.result _ true f (record { sfits = c.end_row.type_inv }) c.if-asked-end_row.true c.end_row.ensures,
      ← is,
      ← c.not_before.ensures,
      c.if-not_before.true,
      ← c.not_before-then-not_before.ensures,
      c.if-not_before-2.false,
    )

pub returns-then-asked-end_row : goal.returns-then-asked-end_row
unfolding only_tempos
returns-then-asked-end_row c =
    let s = c in
    let a = s.args in
    let f = s.ranges.asked in
    let is = c.note_row_to_beat-beat.ensures ∙ beat-after a.asked f c.if-asked-lt0.false c.if-asked-gt3145727.false in
    rw (
      not_below_lem a.asked false f c.if-asked-lt0.false,
      not_above_lem a.asked false f c.if-asked-gt3145727.false,
      test-is a.asked c.end_row.result _ true f (record { sfits = c.end_row.type_inv }) c.if-asked-end_row.true c.end_row.ensures,
      ← is,
      ← c.not_before.ensures,
      c.if-not_before.false,
    )

pub returns : goal.returns
unfolding only_tempos
returns c =
    let s = c in
    let a = s.args in
    let f = s.ranges.asked in
    rw (
      not_below_lem a.asked false f c.if-asked-lt0.false,
      not_above_lem a.asked false f c.if-asked-gt3145727.false,
      test-is a.asked c.end_row.result _ false f (record { sfits = c.end_row.type_inv }) c.if-asked-end_row.false c.end_row.ensures,
    )
