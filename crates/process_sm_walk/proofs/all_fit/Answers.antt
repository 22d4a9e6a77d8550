use Rattle.std.proofs.Common.{Bool, false, ap, ◌∙◌}
use Rattle.process_sm_machine.specs.Machine.{fits}
use Rattle.picks.specs.Pick.{pick}
use Rattle.process_sm_walk.proofs.EveryFrom.{so_far_turn, so_far_end}
use Rattle.process_sm_walk.proofs.all_fit.Goals as goal

pub loop-i-preserved : goal.loop-i-preserved
loop-i-preserved c =
    so_far_turn fits c.args.tempos.now c.args.from c.loop-i.i c.loop-i.so_far c.both-so_far.result c.loop-i-test.true (c.both-so_far.ensures ∙ ap (λ (t : Bool). pick c.loop-i.so_far t false) c.fits.ensures) c.loop-i.invariant

pub returns : goal.returns
returns c = so_far_end fits c.args.tempos.now c.args.from c.loop-i.i c.loop-i.so_far c.loop-i-test.false c.loop-i.invariant
