-- `text_tempos::text_size_f32` meets its contract: a turn counts an entry. Assumes nothing.
use Prim.Native.Nat.{◌*◌, ◌≤◌}
use Rattle.text_tempos.proofs.EntriesLeft.{Counted}
use Rattle.text_tempos.proofs.text_size_f32.Given as goal

-- no entry has more than 96 bytes, so that the sum fits
abbrev pub invariant-loop-i : goal.invariant-loop-i
invariant-loop-i l = (l.size ≤ 96 * l.i) × Counted l.beats l.tempos l.size l.i
