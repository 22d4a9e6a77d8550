-- `text_tempos::text_size` meets its contract: a turn counts an entry. Assumes nothing.
use Prim.Native.Nat.{◌*◌, ◌≤◌}
use mathlib.Core.List.{map}
use Rattle.ieee.specs.Narrowing.{narrow}
use Rattle.text_tempos.proofs.EntriesLeft.{Counted}
use Rattle.text_tempos.proofs.text_size.Given as goal

-- no entry has more than 96 bytes, so that the sum fits
abbrev pub invariant-loop-i : goal.invariant-loop-i
invariant-loop-i l = (l.size ≤ 96 * l.i) × Counted (map narrow l.beats) (map narrow l.tempos) l.size l.i
