-- `tidy_speeds_ordered::fits` counts only where it has to. Assumes nothing.
use Prim.Native.Nat.{ℕ}
use mathlib.Core.Path.{sym, ap}
use native.Mathlib.Omega.{arith}
use lib.Dec.{leb}
use lib.ListN.{length}
use borrow.Author.Tests.{le-leb}
use Rattle.tidy_speeds_entries.specs.Speed.{speed_entries}
use Rattle.tidy_speeds_entries.proofs.SpeedColumns.{many-speeds}
use Rattle.tidy_speeds_ordered.specs.OrderedSpeeds.{kept_speeds}
use Rattle.tidy_speeds_ordered.proofs.KeptInOnePass.{few-kept}
use Rattle.tidy_speeds_ordered.proofs.fits.Goals as goal

pub returns-then-n-room : goal.returns-then-n-room
returns-then-n-room c =
    let g = c in
    let es = speed_entries g.args.beats.now g.args.ratios.now g.args.delays.now g.args.units.now in
    sym (le-leb (length (kept_speeds es)) g.args.room (omega (arith, few-kept es, many-speeds g.args.ratios.now g.args.delays.now g.args.units.now g.args.beats.now, g.requires, c.if-n-room.true)))

pub returns : goal.returns
returns c = ap (λ (m : ℕ). leb m c.args.room) c.count_kept.ensures
