-- `text_tempos::format_bpm_segments_f32_like_itg` meets its contract: the list's tests, the room, the text. Assumes nothing.
use mathlib.Core.Path.{sym, ◌∙◌}
use borrow.Author.Tests.{not-true, not-false}
use Rattle.limits.proofs.ListTaken.{list-taken}
use Rattle.text_tempos.proofs.Outcomes.{list-refused, no_room_left, text-laid}
use Rattle.text_tempos.proofs.format_bpm_segments_f32_like_itg.Goals as goal

pub returns-then-number-ne-TAKEN : goal.returns-then-number-ne-TAKEN
returns-then-number-ne-TAKEN c = rw c.refused.ensures (list-refused c.list_number-number.ensures c.if-number-ne-TAKEN.true)

pub returns-then-not-has_room_f32 : goal.returns-then-not-has_room_f32
returns-then-not-has_room_f32 c =
    let measured = c in
    let listed = measured in
    rw c.refused-then-not-has_room_f32.ensures (no_room_left (sym listed.list_number-number.ensures ∙ measured.if-number-ne-TAKEN.false) (sym measured.has_room_f32.ensures ∙ not-true _ c.if-not-has_room_f32.true-raw))

pub put_entries_f32-count-requires : goal.put_entries_f32-count-requires
put_entries_f32-count-requires c =
    let taken = c in
    (list-taken (sym taken.list_number-number.ensures ∙ taken.if-number-ne-TAKEN.false)).even

pub returns : goal.returns
returns c =
    let wrote = c in
    let fits = wrote in
    let measured = fits in
    let listed = measured in
    text-laid (sym listed.list_number-number.ensures ∙ measured.if-number-ne-TAKEN.false) (sym measured.has_room_f32.ensures ∙ not-false _ fits.if-not-has_room_f32.false-raw) wrote.put_entries_f32-count.ensures
