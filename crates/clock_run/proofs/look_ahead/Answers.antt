-- `clock_run::look_ahead` is `look_ahead`. Assumes nothing.
use lib.Ieee.{of_bits}
use Rattle.std.proofs.Common.{eq-eqb, ne_eqb}
use Rattle.rows.proofs.BackFromBits.{back}
use Rattle.clock_run.specs.inside.Outlook.{look_ahead}
use Rattle.clock_run.proofs.look_ahead.Goals as goal

pub returns-then-tempo_beats-eq0 : goal.returns-then-tempo_beats-eq0
unfolding look_ahead of_bits
returns-then-tempo_beats-eq0 c = rw (eq-eqb _ _ c.if-tempo_beats-eq0.true)

pub returns : goal.returns
unfolding look_ahead
returns c =
    rw (
      ne_eqb _ _ c.if-tempo_beats-eq0.false,
      c.look_on.ensures,
      back c.rest_until-rest.result (record { sfits = c.rest_until-rest.type_inv }),
      c.rest_until-rest.ensures,
    )
