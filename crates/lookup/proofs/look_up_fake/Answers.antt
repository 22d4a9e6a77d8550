-- `lookup::look_up_fake` answers what the definition gives, or the number that refuses. Assumes nothing.
use Rattle.lookup.proofs.UsableLists.{fake-usable}
use Rattle.lookup_tests.specs.LookupLists.{list_columns}
use Rattle.lookup.specs.Lookups.{looked}
use Rattle.std.proofs.Common.{sym, ◌∙◌, w32, ne_eqb}
use mir.ValLaws.{to_z-of_z}
use Rattle.lookup.proofs.look_up_fake.Goals as goal

pub returns-then-number-ne-TAKEN : goal.returns-then-number-ne-TAKEN
unfolding looked
returns-then-number-ne-TAKEN c = rw (← c.fake_number-number.ensures, ne_eqb c.fake_number-number.result 0 c.if-number-ne-TAKEN.true)

pub count_at-n-requires : goal.count_at-n-requires
count_at-n-requires c =
    let start = c in
    (fake-usable (list_columns start.args.fake_beats.now start.args.fake_lengths.now) start.args.allowed (sym c.fake_number-number.ensures ∙ c.if-number-ne-TAKEN.false)).1

pub fake_after-yes-requires : goal.fake_after-yes-requires
fake_after-yes-requires c =
    let start = c in
    let back = to_z-of_z w32 start.args.row start.ranges.row in
    let all = fake-usable (list_columns start.args.fake_beats.now start.args.fake_lengths.now) start.args.allowed (sym c.fake_number-number.ensures ∙ c.if-number-ne-TAKEN.false) in
    rw back (all, rw (c.key_of_row.ensures, back) at c.count_at-n.ensures)

pub returns : goal.returns
unfolding looked
returns c =
    let start = c in
    let zero = sym c.fake_number-number.ensures ∙ c.if-number-ne-TAKEN.false in
    rw (zero, rw (to_z-of_z w32 start.args.row start.ranges.row) at c.fake_after-yes.ensures)
