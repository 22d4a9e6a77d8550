-- `clock_walk::not_before` is `not_before`. Assumes nothing.
use Rattle.std.proofs.Common.{not, get_or, le-ltb, lt-ltb}
use lib.Ieee.{nan, binary64, fits, is_nan, of_bits}
use lib.Ieee.Fits.{and_i, fits_widens}
use Rattle.clock_walk.specs.Quiet.{not_before}
use Rattle.clock_walk.proofs.LaterBeats.{number}
use Rattle.clock_walk.proofs.not_before.Goals as goal

pub float_to_float-result : goal.float_to_float-result
unfolding of_bits
float_to_float-result c =
    let s = c in
    let head = get_or s.args.beats.now s.args.place nan in
    and_i (fits binary64 head) (not (is_nan head)) (fits_widens head c.row_known-1.given) (number head _ c.if-head.true)

pub returns-then-head : goal.returns-then-head
unfolding not_before of_bits
returns-then-head c = rw (lt-ltb _ _ c.if-place-beats.true, c.if-head.true)

pub returns-then-place-beats : goal.returns-then-place-beats
unfolding not_before of_bits
returns-then-place-beats c = rw (lt-ltb _ _ c.if-place-beats.true, c.if-head.false)

pub returns : goal.returns
unfolding not_before
returns c = rw (le-ltb _ _ c.if-place-beats.false)
