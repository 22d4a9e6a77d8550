-- `lookup::judge_rows` answers each row over the front of the room. Assumes nothing.
use Rattle.std.proofs.Common.{get_or, ℤ, pos, ap, ◌∙◌, arith, w32, rules}
use mir.ValLaws.{to_z-of_z}
use Rattle.columns.proofs.LaidEach.{begun, turned, ended}
use Rattle.lookup_tests.specs.LookupLists.{lookup_lists}
use Rattle.lookup.specs.Lookups.{byte, is_judgable}
use Rattle.lookup.proofs.judge_rows.Goals as goal

pub first_cursor-cursor-requires : goal.first_cursor-cursor-requires
first_cursor-cursor-requires c = c.requires.fact

pub loop-i-init : goal.loop-i-init
loop-i-init c = (begun (omega (arith, c.requires.rows_in_bounds)), c.first_cursor-cursor.ensures)

pub judge-cursor-requires : goal.judge-cursor-requires
judge-cursor-requires c = (c.requires.fact, c.loop-i.invariant.1)

pub loop-i-preserved : goal.loop-i-preserved
loop-i-preserved c =
    let start = c in
    let inv = c.loop-i.invariant in
    let asked = get_or start.args.rows.now c.loop-i.i (pos 0) in
    let lists = lookup_lists start.args.stop_beats.now start.args.stop_values.now start.args.delay_beats.now start.args.delay_values.now start.args.warp_beats.now start.args.warp_lengths.now start.args.fake_beats.now start.args.fake_lengths.now in
    let same = ap (λ (asked : ℤ). byte (is_judgable lists asked)) (to_z-of_z w32 asked (record { sfits = search rules })) in
    (turned inv.0 (pos 0) c.loop-i-test.true (c.judge-cursor.ensures.1 ∙ same), c.judge-cursor.ensures.0)

pub returns : goal.returns
returns c = ended c.loop-i.invariant.0 c.loop-i-test.false
