-- `tidy_rows::lay_each_turned` lays every entry on its row, turned round. Assumes nothing.
use Prim.Native.Nat.{ℕ, ◌-◌}
use mathlib.Core.Path.{◌≡◌, ap, ◌∙◌}
use mathlib.Core.List.{map-id, reverse}
use native.Mathlib.Omega.{arith}
use lib.Ieee.{Float, nan}
use lib.ListN.{length, get_or, length-reverse}
use Rattle.order.specs.Entries.{entries}
use Rattle.order.proofs.TurnedRound.{turned-map}
use Rattle.columns.proofs.LaidEach.{ended}
use Rattle.columns.proofs.EachTurned.{next-turned}
use Rattle.columns.proofs.EachOverFront.{each_over_front}
use Rattle.rows.proofs.Allowed.{allowed_at}
use Rattle.rows.proofs.EntriesOnRows.{each-beat, each-value}
use Rattle.rows.specs.RowKey.{beat_on_row}
use Rattle.tidy_rows.proofs.BothWays.{turned-beats, turned-values}
use Rattle.tidy_rows.proofs.lay_each_turned.Goals as goal

pub allowed_on_row-requires : goal.allowed_on_row-requires
allowed_on_row-requires c =
    let start = c in
    allowed_at start.args.beats.now (length start.args.beats.now - 1 - c.loop-i.i) start.requires.beats_value.0 (omega (arith, c.loop-i-test.true))

pub loop-i-preserved : goal.loop-i-preserved
loop-i-preserved c =
    let at = c in
    let given = at.args in
    let same = at.requires.beats_value.1 in
    let more = c.loop-i-test.true in
    let here : get_or given.values.now (length given.beats.now - 1 - at.loop-i.i) nan ≡ get_or given.values.now (length given.values.now - 1 - at.loop-i.i) nan =
    ap (λ (n : ℕ). get_or given.values.now (n - 1 - at.loop-i.i) nan) same in
    (next-turned given.beats.now at.loop-i.invariant.0 nan more c.allowed_on_row.ensures, next-turned given.values.now at.loop-i.invariant.1 nan more here)

pub returns : goal.returns
returns c =
    let start = c in
    let beats = start.args.beats.now in
    let values = start.args.values.now in
    let same = start.requires.beats_value.1 in
    let list = entries beats values in
    let inv = c.loop-i.invariant in
    let past = c.loop-i-test.false in
    record {
      first_is =
          ended inv.0 past ∙ each_over_front beat_on_row (reverse beats) start.args.out_beats.now (omega (arith, length-reverse beats))
          ∙ rw (turned-map beat_on_row beats, turned-beats list, each-beat beats values same);
      second_is =
          ended inv.1 past ∙ each_over_front (λ (value : Float). value) (reverse values) start.args.out_values.now (omega (arith, length-reverse values))
          ∙ rw (map-id (reverse values), turned-values list, each-value beats values same);
    }
