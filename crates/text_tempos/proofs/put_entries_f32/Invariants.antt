-- `text_tempos::put_entries_f32` meets its contract: a turn is an entry. Assumes nothing.
use Rattle.text_page.proofs.Joined.{Left}
use Rattle.text_tempos.specs.TempoText.{tempo_text}
use Rattle.text_tempos.proofs.EntriesLeft.{left}
use Rattle.text_tempos.proofs.put_entries_f32.Given as goal

abbrev pub invariant-loop-i : goal.invariant-loop-i
invariant-loop-i l = Left (tempo_text l.beats l.tempos) (left l.beats l.tempos l.i) 0 l.place l.initial.page l.page
