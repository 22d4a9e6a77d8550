-- `lookup::count_at` counts the entries at or before a row, by halves. Assumes nothing.
use Rattle.lookup.specs.inside.Finding.{Between}
use Rattle.std.proofs.Common.{◌-◌, ◌≤◌, length}
use Rattle.lookup.proofs.count_at.Given as goal

abbrev pub invariant-loop-low : goal.invariant-loop-low
invariant-loop-low l = (l.high ≤ length l.beats) × Between l.key l.beats l.low l.high

abbrev pub decreases-loop-low : goal.decreases-loop-low
decreases-loop-low l = l.high - l.low
