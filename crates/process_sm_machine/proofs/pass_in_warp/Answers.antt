use mathlib.Core.Path.{sym, ◌∙◌}
use Rattle.process_sm_machine.proofs.TimeByTests.{pass-close, pass-keep, pass_unfit}
use Rattle.process_sm_machine.proofs.pass_in_warp.Goals as goal

pub returns-then-owed : goal.returns-then-owed
returns-then-owed c = c.close_by_time.ensures ∙ pass-close c.args.tempo c.args.last c.args.warp c.args.beat c.owed_at-owed.result c.owed_at-owed.ensures (sym c.fits-fit.ensures ∙ c.if-fit.true) c.if-owed.true

pub returns-then-fit : goal.returns-then-fit
returns-then-fit c = c.keep_warp.ensures ∙ pass-keep c.args.tempo c.args.last c.args.warp c.args.beat c.owed_at-owed.result c.owed_at-owed.ensures (sym c.fits-fit.ensures ∙ c.if-fit.true) c.if-owed.false

pub returns : goal.returns
returns c = c.keep_warp-2.ensures ∙ pass_unfit c.args.tempo c.args.last c.args.warp c.args.beat c.owed_at-owed.result c.owed_at-owed.ensures (sym c.fits-fit.ensures ∙ c.if-fit.false)
