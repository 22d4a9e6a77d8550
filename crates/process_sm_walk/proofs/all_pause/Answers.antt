use Rattle.std.proofs.Common.{Bool, false, ap, ◌∙◌}
use Rattle.process_sm_walk.specs.inside.NoWarp.{is_pause}
use Rattle.picks.specs.Pick.{pick}
use Rattle.process_sm_walk.proofs.EveryFrom.{so_far_turn, so_far_end}
use Rattle.process_sm_walk.proofs.all_pause.Goals as goal

pub loop-i-preserved : goal.loop-i-preserved
loop-i-preserved c =
    so_far_turn is_pause c.args.stops.now c.args.from c.loop-i.i c.loop-i.so_far c.both-so_far.result c.loop-i-test.true (c.both-so_far.ensures ∙ ap (λ (t : Bool). pick c.loop-i.so_far t false) c.is_pause.ensures) c.loop-i.invariant

pub returns : goal.returns
returns c = so_far_end is_pause c.args.stops.now c.args.from c.loop-i.i c.loop-i.so_far c.loop-i-test.false c.loop-i.invariant
