use Rattle.std.proofs.Common.{Bool, false, ap, ◌∙◌}
use Rattle.process_sm_walk.specs.Walking.{is_number}
use Rattle.picks.specs.Pick.{pick}
use Rattle.process_sm_walk.proofs.EveryFrom.{so_far_turn, so_far_end}
use Rattle.process_sm_walk.proofs.all_numbers.Goals as goal

pub loop-value-preserved : goal.loop-value-preserved
loop-value-preserved c =
    so_far_turn is_number c.args.values.now 0 c.loop-value.value-index c.loop-value.so_far c.both-so_far.result c.loop-value-test.true (c.both-so_far.ensures ∙ ap (λ (t : Bool). pick c.loop-value.so_far t false) c.is_number.ensures) c.loop-value.invariant

pub returns : goal.returns
returns c = so_far_end is_number c.args.values.now 0 c.loop-value.value-index c.loop-value.so_far c.loop-value-test.false c.loop-value.invariant
