-- `tidy_scrolls::tidy_placed_in` refuses a list that falls, or for want of room, or lays. Assumes nothing.
use Rattle.tidy_scrolls.proofs.Outcomes.{falls-refused, placed-refused, placed-laid}
use Rattle.order.proofs.Columns.{length-entries}
use Rattle.limits.proofs.ListTaken.{list-taken}
use native.Mathlib.Omega.{arith}
use Rattle.tidy_scrolls.proofs.tidy_placed_in.Goals as goal

pub place_all-kept-requires : goal.place_all-kept-requires
place_all-kept-requires c =
    let g = c in
    record {
      beats_len_bound = ((list-taken g.requires.values_value).few, (list-taken g.requires.values_value).even);
      beats_in_bounds = (g.requires.beats_in_bounds.0, g.requires.beats_in_bounds.1);
    }

pub returns-then-kept : goal.returns-then-kept
returns-then-kept c =
    let g = c in
    let kept = c.place_all-kept in
    let many = length-entries g.args.beats.now g.args.values.now (list-taken g.requires.values_value).even in
    rw c.refused.ensures (falls-refused g.args.beats.now g.args.values.now g.args.out_beats.now g.args.out_values.now g.requires.values_value g.requires.beats_value kept.result _ _ kept.ensures c.if-kept.true)

pub returns-then-kept-room_of : goal.returns-then-kept-room_of
returns-then-kept-room_of c =
    let g = c in
    let kept = c.place_all-kept in
    let many = length-entries g.args.beats.now g.args.values.now (list-taken g.requires.values_value).even in
    rw c.refused-then-kept-room_of.ensures (placed-refused g.args.beats.now g.args.values.now g.args.out_beats.now g.args.out_values.now g.requires.values_value g.requires.beats_value kept.result _ _ kept.ensures c.if-kept.false (omega (arith, kept.ensures.few, many, g.requires.beats_in_bounds.0, kept.auto.kept_beats)) (omega (arith, kept.ensures.few, many, g.requires.beats_in_bounds.0, g.requires.beats_in_bounds.1, kept.auto.kept_values)) (omega (arith, c.if-kept-room_of.true, c.room_of.ensures)))

pub lay_rows-requires : goal.lay_rows-requires
lay_rows-requires c =
    let g = c in
    let kept = c.place_all-kept in
    let many = length-entries g.args.beats.now g.args.values.now (list-taken g.requires.values_value).even in
    record {
      count_in_bounds = (omega (arith, kept.ensures.few, many, g.requires.beats_in_bounds.0, kept.auto.kept_beats), omega (arith, kept.ensures.few, many, g.requires.beats_in_bounds.0, g.requires.beats_in_bounds.1, kept.auto.kept_values));
      count_bound = omega (arith, c.if-kept-room_of.false, c.room_of.ensures);
    }

pub returns : goal.returns
returns c =
    let g = c in
    let kept = c.place_all-kept in
    let many = length-entries g.args.beats.now g.args.values.now (list-taken g.requires.values_value).even in
    placed-laid g.args.beats.now g.args.values.now g.args.out_beats.now g.args.out_values.now g.requires.values_value g.requires.beats_value kept.result _ _ kept.ensures c.if-kept.false (omega (arith, kept.ensures.few, many, g.requires.beats_in_bounds.0, kept.auto.kept_beats)) (omega (arith, kept.ensures.few, many, g.requires.beats_in_bounds.0, g.requires.beats_in_bounds.1, kept.auto.kept_values)) _ _ (omega (arith, c.if-kept-room_of.false, c.room_of.ensures)) c.lay_rows.ensures
