-- `process_ssc::stays` is `stays_by_tests`, test by test. Assumes nothing.
use lib.Ieee.{div, of_bits}
use Rattle.picks.proofs.Rules.{flags}
use Rattle.process_ssc.specs.inside.Tests.{stays_by_tests}
use Rattle.process_ssc.proofs.StayTests.{stays_by_tests_lem}
use Rattle.process_ssc.proofs.stays.Goals as goal

pub returns-then-value : goal.returns-then-value
unfolding stays_by_tests div of_bits
returns-then-value c = rw (← stays_by_tests_lem c.args.beat c.args.value) (search flags depth 9)

pub returns-then-beat-2 : goal.returns-then-beat-2
unfolding stays_by_tests div of_bits
returns-then-beat-2 c = rw (← stays_by_tests_lem c.args.beat c.args.value) (search flags depth 9)

pub returns-then-beat : goal.returns-then-beat
unfolding stays_by_tests div of_bits
returns-then-beat c = rw (← stays_by_tests_lem c.args.beat c.args.value) (search flags depth 9)

pub returns : goal.returns
unfolding stays_by_tests div of_bits
returns c = rw (← stays_by_tests_lem c.args.beat c.args.value) (search flags depth 9)
