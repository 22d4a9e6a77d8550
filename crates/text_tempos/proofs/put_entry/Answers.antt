-- `text_tempos::put_entry` meets its contract, piece by piece. Assumes nothing.
use Rattle.text_page.proofs.Joined.{wrote-join}
use Rattle.text_tempos.specs.TempoText.{entry_text}
use Rattle.text_tempos.proofs.put_entry.Goals as goal

pub returns : goal.returns
unfolding entry_text
returns c =
    let tempo = c in
    let equals = tempo in
    let beat = equals in
    let comma = beat in
    wrote-join comma.put_comma-at.ensures
    (wrote-join (rw beat.quantize_beat_f32.ensures at beat.put_dec6-at.ensures)
    (wrote-join equals.put_byte-at.ensures (rw tempo.roundtrip_bpm_itg.ensures at tempo.put_dec6.ensures)))
