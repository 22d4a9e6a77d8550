-- `lookup_checked::is_unpaused` asks for stops and for delays. Assumes nothing.
use mathlib.Core.Path.{sym, ◌∙◌}
use native.Mathlib.Omega.{arith}
use mir.Syntax.{w32}
use mir.ValLaws.{to_z-of_z}
use Rattle.order_search.proofs.PlaceSplits.{place-within}
use Rattle.lookup_checked.specs.Checked.{unpaused_by}
use borrow.Author.Rules.{rules}
use Rattle.lookup_checked.proofs.is_unpaused.Goals as goal

pub is_paused-requires : goal.is_paused-requires
is_paused-requires c =
    let start = c in
    (omega (arith, c.place_of.ensures, place-within start.args.at start.args.stop_beats.now), rw (to_z-of_z w32 start.args.row start.ranges.row) start.requires)

pub returns-then-is_paused : goal.returns-then-is_paused
unfolding unpaused_by
returns-then-is_paused c =
    let stops = c in
    let found = stops in
    let start = found in
    let is = rw (to_z-of_z w32 start.args.row start.ranges.row, found.place_of.ensures) at stops.is_paused.ensures in
    sym (rw (sym is ∙ c.if-is_paused.true))

pub is_paused-requires-2 : goal.is_paused-requires-2
is_paused-requires-2 c =
    let start = c in
    (omega (arith, c.place_of-2.ensures, place-within start.args.at start.args.delay_beats.now), rw (to_z-of_z w32 start.args.row start.ranges.row) start.requires)

pub returns : goal.returns
unfolding unpaused_by
returns c =
    let search = c in
    let off = search in
    let stops = off in
    let found = stops in
    let start = found in
    let row = start.args.row in
    let first = rw (to_z-of_z w32 row start.ranges.row, found.place_of.ensures) at stops.is_paused.ensures in
    let second = rw (to_z-of_z w32 row start.ranges.row, search.place_of-2.ensures) at c.is_paused-2.ensures in
    sym (rw (sym first ∙ off.if-is_paused.false, sym second))
