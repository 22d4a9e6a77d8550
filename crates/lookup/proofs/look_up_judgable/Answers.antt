-- `lookup::look_up_judgable` answers what the definition gives, or the number that refuses. Assumes nothing.
use Rattle.lookup.proofs.UsableLists.{judgable_usable}
use Rattle.lookup_tests.specs.LookupLists.{LookupLists, lookup_lists}
use Rattle.lookup.specs.Lookups.{looked}
use Rattle.std.proofs.Common.{sym, ◌∙◌, w32, ne_eqb}
use mir.ValLaws.{to_z-of_z}
use Rattle.lookup.proofs.look_up_judgable.Goals as goal
use Rattle.lookup.proofs.look_up_judgable.Goals.{Start}

abbrev lists_at : Start → LookupLists
lists_at start =
    lookup_lists start.args.stop_beats.now start.args.stop_values.now start.args.delay_beats.now start.args.delay_values.now start.args.warp_beats.now start.args.warp_lengths.now start.args.fake_beats.now start.args.fake_lengths.now

pub returns-then-number-ne-TAKEN : goal.returns-then-number-ne-TAKEN
unfolding looked
returns-then-number-ne-TAKEN c = rw (← c.judgable_number-number.ensures, ne_eqb c.judgable_number-number.result 0 c.if-number-ne-TAKEN.true)

pub count_at-warps-requires : goal.count_at-warps-requires
count_at-warps-requires c =
    let start = c in
    (judgable_usable (lists_at (goal.at.count_at-warps-requires start).Start) start.args.allowed (sym c.judgable_number-number.ensures ∙ c.if-number-ne-TAKEN.false)).warps.1

pub count_at-fakes-requires : goal.count_at-fakes-requires
count_at-fakes-requires c =
    let start = c in
    (judgable_usable (lists_at (goal.at.count_at-fakes-requires start).Start) start.args.allowed (sym c.judgable_number-number.ensures ∙ c.if-number-ne-TAKEN.false)).fakes.1

pub judgable_after-yes-requires : goal.judgable_after-yes-requires
judgable_after-yes-requires c =
    record {
      fact = judgable_usable (lists_at (goal.at.judgable_after-yes-requires c).Start) c.args.allowed (sym c.judgable_number-number.ensures ∙ c.if-number-ne-TAKEN.false);
      split = (rw c.key_of_row.ensures at c.count_at-warps.ensures, rw c.key_of_row-2.ensures at c.count_at-fakes.ensures);
    }

pub returns : goal.returns
unfolding looked
returns c =
    let start = c in
    let zero = sym c.judgable_number-number.ensures ∙ c.if-number-ne-TAKEN.false in
    rw (zero, rw (to_z-of_z w32 start.args.row start.ranges.row) at c.judgable_after-yes.ensures)
