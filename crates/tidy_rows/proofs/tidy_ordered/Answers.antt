-- `tidy_rows::tidy_ordered` tidies a list whose rows never fall. Assumes nothing.
use Prim.Native.Nat.{◌-◌}
use mathlib.Core.Path.{◌≡◌, ◌∙◌}
use mathlib.Core.List.{map}
use native.Mathlib.Omega.{arith}
use lib.ListN.{length, length-map}
use Rattle.order.specs.Order.{lasts}
use Rattle.order.specs.Entries.{entries}
use Rattle.order.proofs.Columns.{length-entries}
use Rattle.tidy_rows.specs.RowTidying.{rows_number, tidy_rows}
use Rattle.rows.specs.RowKey.{row_key_of, on_its_row}
use Rattle.limits.proofs.ListTaken.{list-taken}
use Rattle.tidy_rows.proofs.BothWays.{lasts-length, ordered_way, plain_way}
use Rattle.columns.proofs.ListLaid.{no_room, all_laid}
use Rattle.tidy_rows.proofs.tidy_ordered.Goals as goal
use Rattle.tidy_rows.proofs.tidy_ordered.Goals.{Start}

even : (c : Start) → length c.args.beats.now ≡ length c.args.values.now
even c = (list-taken c.requires.values_value).even

kept : (c : Start) → length c.args.beats.now - c.args.repeated ≡ length (lasts row_key_of (entries c.args.beats.now c.args.values.now))
kept c = omega (arith, c.requires.beats_value_2, lasts-length c.args.beats.now c.args.values.now (even c))

pub returns-then-count-room_of : goal.returns-then-count-room_of
returns-then-count-room_of c =
    let start = c in
    let given = start.args in
    let list = lasts row_key_of (entries given.beats.now given.values.now) in
    rw c.refused.ensures
    (no_room (rows_number given.beats.now given.values.now) (tidy_rows given.beats.now given.values.now) given.out_beats.now given.out_values.now start.requires.values_value (map on_its_row list) (ordered_way given.beats.now given.values.now (even (goal.at.returns-then-count-room_of start).Start) start.requires.beats_value)
    (omega (arith, kept (goal.at.returns-then-count-room_of start).Start, length-map list on_its_row, c.room_of.ensures, c.if-count-room_of.true)))

pub lay_each-requires : goal.lay_each-requires
lay_each-requires c =
    let start = c in
    record {
      beats_value = ((list-taken start.requires.values_value).beats_in, even (goal.at.lay_each-requires start).Start);
      beats_len_bound = omega (arith, c.room_of.ensures, c.if-count-room_of.false, c.if-repeated-eq0.true);
    }

pub returns-then-repeated-eq0 : goal.returns-then-repeated-eq0
returns-then-repeated-eq0 c =
    let start = c in
    let given = start.args in
    let same = even (goal.at.returns-then-repeated-eq0 start).Start in
    let list = map on_its_row (entries given.beats.now given.values.now) in
    let long = length-map (entries given.beats.now given.values.now) on_its_row ∙ length-entries given.beats.now given.values.now same in
    let none = c.if-repeated-eq0.true in
    all_laid (rows_number given.beats.now given.values.now) (tidy_rows given.beats.now given.values.now) given.out_beats.now given.out_values.now start.requires.values_value list
    (plain_way given.beats.now given.values.now same start.requires.beats_value (omega (arith, start.requires.beats_value_2, none)))
    (length given.beats.now - given.repeated) (omega (arith, long, none)) (omega (arith, long, none, c.room_of.ensures, c.if-count-room_of.false))
    c.lay_each.ensures

pub lay_lasts-requires : goal.lay_lasts-requires
lay_lasts-requires c =
    let start = c in
    record {
      beats_value = (list-taken start.requires.values_value).beats_in;
      beats_nonzero = (omega (arith, start.requires.beats_value_2, c.if-repeated-eq0.false), even (goal.at.lay_lasts-requires start).Start);
      values_len_bound = omega (arith, kept (goal.at.lay_lasts-requires start).Start, c.room_of.ensures, c.if-count-room_of.false);
    }

pub returns : goal.returns
returns c =
    let start = c in
    let given = start.args in
    let list = lasts row_key_of (entries given.beats.now given.values.now) in
    let long = length-map list on_its_row in
    all_laid (rows_number given.beats.now given.values.now) (tidy_rows given.beats.now given.values.now) given.out_beats.now given.out_values.now start.requires.values_value (map on_its_row list)
    (ordered_way given.beats.now given.values.now (even (goal.at.returns start).Start) start.requires.beats_value)
    (length given.beats.now - given.repeated) (omega (arith, long, kept (goal.at.returns start).Start)) (omega (arith, long, kept (goal.at.returns start).Start, c.room_of.ensures, c.if-count-room_of.false))
    c.lay_lasts.ensures
