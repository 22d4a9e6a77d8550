-- `lookup::is_paused` finds a pause on the row of a place. Assumes nothing.
use lib.Ieee.{of_bits}
use Rattle.lookup.proofs.HeldPlaces.{pause_on_row}
use Rattle.picks.proofs.Rules.{flags}
use Rattle.lookup.proofs.is_paused.Goals as goal

pub returns-then-place-key : goal.returns-then-place-key
returns-then-place-key c =
    let start = c in
    let said = pause_on_row start.args.key start.args.beats.now start.args.values.now start.args.place.count start.args.place.from start.args.place.until start.requires.0 start.requires.1 start.requires.2 in
    rw said (search flags depth 8)

pub returns-then-n-eq0 : goal.returns-then-n-eq0
returns-then-n-eq0 c =
    let start = c in
    let said = pause_on_row start.args.key start.args.beats.now start.args.values.now start.args.place.count start.args.place.from start.args.place.until start.requires.0 start.requires.1 start.requires.2 in
    rw said (search flags depth 8)

pub returns : goal.returns
unfolding of_bits
returns c =
    let start = c in
    let said = pause_on_row start.args.key start.args.beats.now start.args.values.now start.args.place.count start.args.place.from start.args.place.until start.requires.0 start.requires.1 start.requires.2 in
    rw said (search flags depth 8)
