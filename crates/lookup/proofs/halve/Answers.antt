-- `lookup::halve` halves the bounds of the search. Assumes nothing.
use Rattle.lookup.proofs.FoundEntries.{go-up, go-down}
use Rattle.lookup_tests.proofs.RowsRise.{rises}
use Rattle.std.proofs.Common.{◌+◌, ◌-◌, ◌/◌, arith}
use Rattle.lookup.proofs.halve.Goals as goal

pub returns-then-row_key_f32-key : goal.returns-then-row_key_f32-key
returns-then-row_key_f32-key c =
    let start = c in
    let low = start.args.low in
    let high = start.args.high in
    let middle = low + (high - low) / 2 in
    let bounds = start.requires.low_lt_high in
    let rising = rises start.args.beats.now start.requires.beats_value in
    (go-up start.args.key start.args.beats.now rising low high middle (omega (arith, bounds.0)) bounds.1 (omega (arith, c.row_key_f32.ensures, c.if-row_key_f32-key.true)) bounds.2, omega arith, omega (arith, bounds.0))

pub returns : goal.returns
returns c =
    let start = c in
    let low = start.args.low in
    let high = start.args.high in
    let middle = low + (high - low) / 2 in
    let bounds = start.requires.low_lt_high in
    let rising = rises start.args.beats.now start.requires.beats_value in
    (go-down start.args.key start.args.beats.now rising low high middle (omega arith) (omega (arith, c.row_key_f32.ensures, c.if-row_key_f32-key.false)) bounds.2, omega (arith, bounds.0), omega (arith, bounds.0))
