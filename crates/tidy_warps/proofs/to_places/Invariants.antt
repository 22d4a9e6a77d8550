-- `tidy_warps::to_places` reads each place back, as far as both columns go. Assumes nothing.
use Rattle.columns.proofs.LaidEach.{LayingEach}
use Rattle.tidy_warps.specs.inside.PlaceNumbers.{number_place}
use Rattle.tidy_warps.proofs.to_places.Given as goal

abbrev pub invariant-loop-i : goal.invariant-loop-i
invariant-loop-i l = LayingEach number_place l.numbers l.initial.to l.n l.to l.i
