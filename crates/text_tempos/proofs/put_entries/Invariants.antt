-- `text_tempos::put_entries` meets its contract: a turn is an entry. Assumes nothing.
use mathlib.Core.List.{map}
use Rattle.ieee.specs.Narrowing.{narrow}
use Rattle.text_page.proofs.Joined.{Left}
use Rattle.text_tempos.specs.TempoText.{tempo_text}
use Rattle.text_tempos.proofs.EntriesLeft.{left}
use Rattle.text_tempos.proofs.put_entries.Given as goal

abbrev pub invariant-loop-i : goal.invariant-loop-i
invariant-loop-i l = Left (tempo_text (map narrow l.beats) (map narrow l.tempos)) (left (map narrow l.beats) (map narrow l.tempos) l.i) 0 l.place l.initial.page l.page
