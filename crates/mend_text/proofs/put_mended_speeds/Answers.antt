-- `mend_text::put_mended_speeds` writes the list and the fates that mending leaves. Assumes nothing.
use Prim.Native.Nat.{ℕ}
use mathlib.Core.Path.{◌≡◌, refl, ap, ◌∙◌}
use mathlib.Core.List.{List, map}
use lib.ListN.{length-replicate}
use Rattle.tidy_speeds_entries.specs.Speed.{SpeedEntry}
use Rattle.tidy_speeds_entries.specs.LaidSpeeds.{least_of}
use Rattle.report_form.specs.Text.{entry_lines}
use Rattle.text_page.proofs.Joined.{wrote-join, wrote_as}
use Rattle.mend_text.specs.MendedText.{form_speed, fate_lines}
use Rattle.mend_text.proofs.FrontsMended.{same-speeds, speeds-front, speed_fates_front}
use Rattle.mend_text.proofs.put_mended_speeds.Goals as goal

pub returns : goal.returns
returns c =
    let told = c in
    let lines = told in
    let mended = lines in
    let start = mended in
    let done = mended.mend_speeds-done in
    let short : least_of 256 256 256 256 ≡ 256 = refl in
    let list = speeds-front done.ensures start.requires.0 start.requires.1 short (length-replicate {A = ℕ} 256 0) in
    let fates = speed_fates_front done.ensures start.requires.0 start.requires.1 short (length-replicate {A = ℕ} 256 0) in
    let beats = lines.front.ensures in
    let ratios = lines.front-2.ensures in
    let delays = lines.front-3.ensures in
    let units = lines.front_units.ensures in
    let columns = same-speeds beats ratios delays units in
    wrote-join (wrote_as (ap (λ (l : List SpeedEntry). entry_lines (map form_speed l)) (columns ∙ list)) lines.put_speeds-at.ensures)
    (wrote_as (ap (fate_lines 0) (told.front_units-2.ensures ∙ fates)) told.put_fates.ensures)
