-- `mend_text::put_speeds` meets its contract: a turn is a line. Assumes nothing.
use Prim.Native.Nat.{◌<◌}
use mathlib.Core.Path.{sym, ap}
use native.Mathlib.Omega.{arith}
use lib.ListN.{length}
use lib.Ieee.{nan}
use Rattle.tidy_speeds_entries.specs.Speed.{SpeedEntry, no_speed, speed_entries}
use Rattle.tidy_speeds_entries.specs.LaidSpeeds.{least_of}
use Rattle.tidy_speeds_entries.proofs.SpeedColumns.{many-speeds, speed-here}
use Rattle.text_page.proofs.Joined.{wrote_as}
use Rattle.report_form.specs.Text.{entry_line}
use Rattle.mend_text.specs.MendedText.{form_speed}
use Rattle.mend_text.proofs.LinesLeft.{entries-turn, entries-end}
use Rattle.mend_text.proofs.put_speeds.Goals as goal

pub loop-i-preserved : goal.loop-i-preserved
loop-i-preserved c =
    let put = c in
    let at = put in
    let given = at.args in
    let more = put.loop-i-test.true in
    let beats = given.beats.now in
    let ratios = given.ratios.now in
    let delays = given.delays.now in
    let units = given.units.now in
    let i = at.loop-i.i in
    let within : i < least_of (length beats) (length ratios) (length delays) (length units) = omega (arith, at.least_of-n.ensures) in
    let here = speed-here ratios delays units beats i within in
    entries-turn form_speed (speed_entries beats ratios delays units) i at.loop-i.invariant (nan, no_speed) (omega (arith, many-speeds ratios delays units beats)) (wrote_as (ap (λ (e : SpeedEntry). entry_line (form_speed e)) (sym here)) put.put_speed-place.ensures)

pub returns : goal.returns
returns c =
    let at = c in
    let given = at.args in
    entries-end form_speed (speed_entries given.beats.now given.ratios.now given.delays.now given.units.now) at.loop-i.i at.loop-i.invariant
    (omega (arith, many-speeds given.ratios.now given.delays.now given.units.now given.beats.now, at.least_of-n.ensures, c.loop-i-test.false))
