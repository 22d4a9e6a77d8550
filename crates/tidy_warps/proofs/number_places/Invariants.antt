-- `tidy_warps::number_places` writes the number of each place. Assumes nothing.
use lib.ListN.{length}
use Rattle.order.specs.Entries.{places}
use Rattle.columns.proofs.LaidEach.{LayingEach}
use Rattle.tidy_warps.specs.inside.PlaceNumbers.{place_number}
use Rattle.tidy_warps.proofs.number_places.Given as goal

abbrev pub invariant-loop-place : goal.invariant-loop-place
invariant-loop-place l = LayingEach place_number (places (length l.initial.to)) l.initial.to (length l.initial.to) l.to l.place
