-- `tidy_rows::tidy_turned` tidies a list whose rows never rise. Assumes nothing.
use Prim.Native.Nat.{◌-◌, ◌<◌}
use mathlib.Core.Path.{◌≡◌, ◌∙◌}
use mathlib.Core.List.{map, reverse}
use native.Mathlib.Omega.{arith}
use lib.ListN.{length, length-map, length-reverse}
use Rattle.order.specs.Order.{lasts}
use Rattle.order.specs.Entries.{entries}
use Rattle.order.proofs.Columns.{length-entries}
use Rattle.order.proofs.LastEntries.{lasts-some}
use Rattle.tidy_rows.specs.RowTidying.{rows_number, tidy_rows}
use Rattle.rows.specs.RowKey.{row_key_of, on_its_row}
use Rattle.limits.proofs.ListTaken.{list-taken}
use Rattle.tidy_rows.proofs.BothWays.{lasts-length, turned_way, turned_plain_way}
use Rattle.columns.proofs.ListLaid.{no_room, all_laid}
use Rattle.tidy_rows.proofs.tidy_turned.Goals as goal
use Rattle.tidy_rows.proofs.tidy_turned.Goals.{Start}

even : (c : Start) → length c.args.beats.now ≡ length c.args.values.now
even c = (list-taken c.requires.values_value).even

kept : (c : Start) → length c.args.beats.now - c.args.repeated ≡ length (lasts row_key_of (entries c.args.beats.now c.args.values.now))
kept c = omega (arith, c.requires.beats_value_2, lasts-length c.args.beats.now c.args.values.now (even c))

some : (c : Start) → 0 < length c.args.beats.now → 0 < length c.args.beats.now - c.args.repeated
some c h =
    let list = entries c.args.beats.now c.args.values.now in
    omega (arith, kept c, lasts-some row_key_of list (omega (arith, length-entries c.args.beats.now c.args.values.now (even c), h)))

pub returns-then-count-room_of : goal.returns-then-count-room_of
returns-then-count-room_of c =
    let start = c in
    let given = start.args in
    let list = lasts row_key_of (entries given.beats.now given.values.now) in
    rw c.refused.ensures
    (no_room (rows_number given.beats.now given.values.now) (tidy_rows given.beats.now given.values.now) given.out_beats.now given.out_values.now start.requires.values_value (map on_its_row (reverse list)) (turned_way given.beats.now given.values.now (even (goal.at.returns-then-count-room_of start).Start) start.requires.beats_value)
    (omega (arith, kept (goal.at.returns-then-count-room_of start).Start, length-map (reverse list) on_its_row ∙ length-reverse list, c.room_of.ensures, c.if-count-room_of.true)))

pub lay_each_turned-requires : goal.lay_each_turned-requires
lay_each_turned-requires c =
    let start = c in
    record {
      beats_value = ((list-taken start.requires.values_value).beats_in, even (goal.at.lay_each_turned-requires start).Start);
      beats_len_bound = omega (arith, c.room_of.ensures, c.if-count-room_of.false, c.if-repeated-eq0.true);
    }

pub returns-then-repeated-eq0 : goal.returns-then-repeated-eq0
returns-then-repeated-eq0 c =
    let start = c in
    let given = start.args in
    let same = even (goal.at.returns-then-repeated-eq0 start).Start in
    let whole = entries given.beats.now given.values.now in
    let list = map on_its_row (reverse whole) in
    let long = length-map (reverse whole) on_its_row ∙ length-reverse whole ∙ length-entries given.beats.now given.values.now same in
    let none = c.if-repeated-eq0.true in
    all_laid (rows_number given.beats.now given.values.now) (tidy_rows given.beats.now given.values.now) given.out_beats.now given.out_values.now start.requires.values_value list
    (turned_plain_way given.beats.now given.values.now same start.requires.beats_value (omega (arith, start.requires.beats_value_2, none)))
    (length given.beats.now - given.repeated) (omega (arith, long, none)) (omega (arith, long, none, c.room_of.ensures, c.if-count-room_of.false))
    c.lay_each_turned.ensures

pub lay_lasts_turned-requires : goal.lay_lasts_turned-requires
lay_lasts_turned-requires c =
    let start = c in
    record {
      beats_value = (list-taken start.requires.values_value).beats_in;
      beats_nonzero = (omega (arith, start.requires.beats_value_2, c.if-repeated-eq0.false), even (goal.at.lay_lasts_turned-requires start).Start);
      fact = (kept (goal.at.lay_lasts_turned-requires start).Start, some (goal.at.lay_lasts_turned-requires start).Start (omega (arith, start.requires.beats_value_2, c.if-repeated-eq0.false)), omega (arith, c.room_of.ensures, c.if-count-room_of.false));
    }

pub returns : goal.returns
returns c =
    let start = c in
    let given = start.args in
    let list = lasts row_key_of (entries given.beats.now given.values.now) in
    let long = length-map (reverse list) on_its_row ∙ length-reverse list in
    all_laid (rows_number given.beats.now given.values.now) (tidy_rows given.beats.now given.values.now) given.out_beats.now given.out_values.now start.requires.values_value (map on_its_row (reverse list))
    (turned_way given.beats.now given.values.now (even (goal.at.returns start).Start) start.requires.beats_value)
    (length given.beats.now - given.repeated) (omega (arith, long, kept (goal.at.returns start).Start)) (omega (arith, long, kept (goal.at.returns start).Start, c.room_of.ensures, c.if-count-room_of.false))
    c.lay_lasts_turned.ensures
