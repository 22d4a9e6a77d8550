-- `text_decimal::put_parts` meets its contract, by the parts that are not 0. Assumes nothing.
use mathlib.Core.Path.{ap}
use native.Mathlib.Omega.{arith}
use Rattle.text_decimal.proofs.WholeByParts.{three-parts, two-parts, one-part}
use Rattle.text_page.proofs.Joined.{wrote-join, wrote_as}
use Rattle.text_decimal.specs.Dec6.{whole_text}
use Rattle.text_decimal.proofs.put_parts.Goals as goal

pub returns-then-parts-gt0 : goal.returns-then-parts-gt0
returns-then-parts-gt0 c =
    let low = c in
    let middle = low in
    let high = middle in
    let tested = high in
    let start = tested in
    let parts = start.args.parts in
    let sound = start.requires in
    wrote_as (three-parts parts.low parts.middle parts.high sound.low sound.middle tested.if-parts-gt0.true sound.high)
    (wrote-join high.put_whole-at.ensures (wrote-join middle.put_eighteen-at.ensures low.put_eighteen.ensures))

pub returns-then-parts-gt0-2 : goal.returns-then-parts-gt0-2
returns-then-parts-gt0-2 c =
    let low = c in
    let middle = low in
    let tested = middle in
    let start = tested in
    let parts = start.args.parts in
    let sound = start.requires in
    wrote_as (two-parts parts.low parts.middle parts.high sound.low sound.middle tested.if-parts-gt0-2.true (omega arith))
    (wrote-join middle.put_whole-at-then-parts-gt0-2.ensures low.put_eighteen-then-parts-gt0-2.ensures)

pub returns : goal.returns
returns c =
    let low = c in
    let tested = low in
    let parts = tested.args.parts in
    wrote_as (ap whole_text (one-part parts.low parts.middle parts.high tested.if-parts-gt0-2.false tested.if-parts-gt0.false)) low.put_whole.ensures
