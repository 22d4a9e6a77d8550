-- `lookup_checked::fake_covers` tests a fake, by the sum at f32. Assumes nothing.
use mathlib.Core.Path.{sym, subst}
use lib.Dec.{T}
use lib.Ieee.{binary32, fits}
use Rattle.lookup.proofs.FakeSums.{fake_in_f32}
use Rattle.picks.proofs.Rules.{flags}
use Rattle.lookup_checked.proofs.fake_covers.Goals as goal
use Rattle.lookup_checked.proofs.fake_covers.Goals.{Start}

beat-fits : (c : Start) → T (fits binary32 c.args.beat)
beat-fits c = subst T (sym c.well_formed.0.1) tt

length-fits : (c : Start) → T (fits binary32 c.args.length)
length-fits c = subst T (sym c.well_formed.1.0.1) tt

pub returns-then-beat-at : goal.returns-then-beat-at
returns-then-beat-at c =
    let start = c in
    rw (fake_in_f32 start.args.at start.args.beat start.args.length (beat-fits (goal.at.returns-then-beat-at start).Start) (length-fits (goal.at.returns-then-beat-at start).Start)) (search flags depth 8)

pub returns : goal.returns
returns c =
    let start = c in
    rw (fake_in_f32 start.args.at start.args.beat start.args.length (beat-fits (goal.at.returns start).Start) (length-fits (goal.at.returns start).Start)) (search flags depth 8)
