-- `lookup::look_up_warp` answers what the definition gives, or the number that refuses. Assumes nothing.
use Rattle.lookup.proofs.UsableLists.{warp-usable}
use Rattle.lookup_tests.specs.LookupLists.{WarpLists, warp_lists}
use Rattle.lookup.specs.Lookups.{looked}
use Rattle.std.proofs.Common.{sym, ◌∙◌, w32, ne_eqb}
use mir.ValLaws.{to_z-of_z}
use Rattle.lookup.proofs.look_up_warp.Goals as goal
use Rattle.lookup.proofs.look_up_warp.Goals.{Start}

abbrev lists_at : Start → WarpLists
lists_at start =
    warp_lists start.args.stop_beats.now start.args.stop_values.now start.args.delay_beats.now start.args.delay_values.now start.args.warp_beats.now start.args.warp_lengths.now

pub returns-then-number-ne-TAKEN : goal.returns-then-number-ne-TAKEN
unfolding looked
returns-then-number-ne-TAKEN c = rw (← c.warp_number-number.ensures, ne_eqb c.warp_number-number.result 0 c.if-number-ne-TAKEN.true)

pub count_at-n-requires : goal.count_at-n-requires
count_at-n-requires c =
    let start = c in
    (warp-usable (lists_at (goal.at.count_at-n-requires start).Start) start.args.allowed (sym c.warp_number-number.ensures ∙ c.if-number-ne-TAKEN.false)).2.1

pub warped_after-yes-requires : goal.warped_after-yes-requires
warped_after-yes-requires c =
    let start = c in
    let back = to_z-of_z w32 start.args.row start.ranges.row in
    let all = warp-usable (lists_at (goal.at.warped_after-yes-requires start).Start) start.args.allowed (sym c.warp_number-number.ensures ∙ c.if-number-ne-TAKEN.false) in
    rw back (all.0, all.1, all.2, rw (c.key_of_row.ensures, back) at c.count_at-n.ensures)

pub returns : goal.returns
unfolding looked
returns c =
    let start = c in
    let zero = sym c.warp_number-number.ensures ∙ c.if-number-ne-TAKEN.false in
    rw (zero, rw (to_z-of_z w32 start.args.row start.ranges.row) at c.warped_after-yes.ensures)
