-- `text_tempos::roundtrip_bpm_itg` meets its contract: what is finite differs from itself by 0. Assumes nothing.
use mathlib.Core.Path.{refl, sym, ◌∙◌}
use lib.Ieee.{binary32, of_bits}
use Rattle.ieee.proofs.FiniteTest.{finite-test}
use Rattle.picks.proofs.Rules.{pick_true, pick_false}
use Rattle.text_tempos.specs.TempoText.{roundtrip}
use Rattle.text_tempos.proofs.roundtrip_bpm_itg.Goals as goal

pub returns-then-bpm : goal.returns-then-bpm
unfolding roundtrip of_bits
returns-then-bpm c = pick_true _ _ _ _ (sym (finite-test binary32 c.args.bpm) ∙ c.if-bpm.true) refl

pub returns-else-bpm : goal.returns-else-bpm
unfolding roundtrip of_bits
returns-else-bpm c = pick_false _ _ _ _ (sym (finite-test binary32 c.args.bpm) ∙ c.if-bpm.false) refl
