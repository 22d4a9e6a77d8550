-- `tidy_speeds_ordered::tidy_ordered_untested` refuses for want of room, or lays what is kept. Assumes nothing.
use mathlib.Core.Path.{sym, ◌∙◌}
use native.Mathlib.Omega.{arith}
use lib.ListN.{length}
use borrow.Author.Tests.{not-true, not-false, leb-true, leb-false}
use Rattle.tidy_speeds_entries.specs.Speed.{speed_entries}
use Rattle.tidy_speeds_ordered.specs.OrderedSpeeds.{kept_speeds}
use Rattle.tidy_speeds_ordered.proofs.KeptInOnePass.{ordered-refused, ordered-laid}
use Rattle.tidy_speeds_ordered.proofs.tidy_ordered_untested.Goals as goal

pub fits-requires : goal.fits-requires
fits-requires c = c.least_of-n.ensures

pub returns-then-not-fits : goal.returns-then-not-fits
returns-then-not-fits c =
    let sizes = c in
    let g = sizes in
    let es = speed_entries g.args.beats.now g.args.ratios.now g.args.delays.now g.args.units.now in
    rw c.refused.ensures
    (ordered-refused es g.args.out_beats.now g.args.out_ratios.now g.args.out_delays.now g.args.out_units.now
    (omega (arith, leb-false (length (kept_speeds es)) sizes.least_of-room.result (sym c.fits.ensures ∙ not-true _ c.if-not-fits.true-raw), sizes.least_of-room.ensures)))

pub lay_kept-count-requires : goal.lay_kept-count-requires
lay_kept-count-requires c =
    let roomy = c in
    let sizes = roomy in
    let g = sizes in
    let es = speed_entries g.args.beats.now g.args.ratios.now g.args.delays.now g.args.units.now in
    record {
      n_value = sizes.least_of-n.ensures;
      kept_bound = omega (arith, leb-true (length (kept_speeds es)) sizes.least_of-room.result (sym roomy.fits.ensures ∙ not-false _ roomy.if-not-fits.false-raw), sizes.least_of-room.ensures);
    }

pub returns : goal.returns
returns c =
    let laying = c in
    let roomy = laying in
    let sizes = roomy in
    let g = sizes in
    let es = speed_entries g.args.beats.now g.args.ratios.now g.args.delays.now g.args.units.now in
    ordered-laid es g.args.out_beats.now g.args.out_ratios.now g.args.out_delays.now g.args.out_units.now _ _ _ _ _
    (omega (arith, leb-true (length (kept_speeds es)) sizes.least_of-room.result (sym roomy.fits.ensures ∙ not-false _ roomy.if-not-fits.false-raw), sizes.least_of-room.ensures))
    laying.lay_kept-count.ensures.value laying.lay_kept-count.ensures.fact
