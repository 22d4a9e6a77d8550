-- `tidy_rows::lay_each` lays every entry on its row. Assumes nothing.
use mathlib.Core.Path.{refl, ◌∙◌}
use mathlib.Core.List.{map-id}
use native.Mathlib.Omega.{arith}
use lib.Ieee.{Float, nan}
use Rattle.columns.proofs.LaidEach.{turned, ended}
use Rattle.columns.proofs.EachOverFront.{each_over_front}
use Rattle.rows.proofs.Allowed.{allowed_at}
use Rattle.rows.proofs.EntriesOnRows.{each-beat, each-value}
use Rattle.rows.specs.RowKey.{beat_on_row}
use Rattle.tidy_rows.proofs.lay_each.Goals as goal

pub allowed_on_row-requires : goal.allowed_on_row-requires
allowed_on_row-requires c =
    let start = c in
    allowed_at start.args.beats.now c.loop-i.i start.requires.beats_value.0 c.loop-i-test.true

pub loop-i-preserved : goal.loop-i-preserved
loop-i-preserved c =
    let inv = c.loop-i.invariant in
    let more = c.loop-i-test.true in
    (turned inv.0 nan more c.allowed_on_row.ensures, turned inv.1 nan more refl)

pub returns : goal.returns
returns c =
    let start = c in
    let given = start.args in
    let same = start.requires.beats_value.1 in
    let inv = c.loop-i.invariant in
    let past = c.loop-i-test.false in
    record {
      first_is = ended inv.0 past ∙ each_over_front beat_on_row given.beats.now given.out_beats.now (omega arith) ∙ rw (each-beat given.beats.now given.values.now same);
      second_is =
          ended inv.1 past ∙ each_over_front (λ (value : Float). value) given.values.now given.out_values.now (omega arith)
          ∙ rw (map-id given.values.now, each-value given.beats.now given.values.now same);
    }
