-- `tidy_warps::number_places` writes the number of each place. Assumes nothing.
use mathlib.Core.Path.{sym, ap, ◌∙◌}
use native.Mathlib.Omega.{arith}
use lib.ListN.{length}
use Rattle.order_sort.proofs.GatheredByPlaces.{places-length, places_get}
use Rattle.columns.proofs.LaidEach.{begun, turned, ended, laid-all}
use Rattle.tidy_warps.specs.inside.PlaceNumbers.{place_number}
use Rattle.tidy_warps.proofs.number_places.Goals as goal

pub loop-place-init : goal.loop-place-init
loop-place-init c = begun (omega (arith, places-length (length c.args.to.now)))

pub loop-place-preserved : goal.loop-place-preserved
loop-place-preserved c =
    let at = c in
    let more = c.loop-place-test.true in
    turned at.loop-place.invariant 0 (omega (arith, at.loop-place.invariant.long, more)) (c.number_of.ensures ∙ ap place_number (sym (places_get _ at.loop-place.place (omega (arith, at.loop-place.invariant.long, more)))))

pub returns : goal.returns
returns c = ended c.loop-place.invariant (omega arith) ∙ laid-all _ _ _ (places-length _)
