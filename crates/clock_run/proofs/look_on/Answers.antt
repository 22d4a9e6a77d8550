-- `clock_run::look_on` is `look_on`. Assumes nothing.
use lib.Ieee.{of_bits}
use Rattle.std.proofs.Common.{le-ltb, lt-ltb, eq-eqb, ne_eqb}
use Rattle.rows.proofs.BackFromBits.{back}
use Rattle.clock_run.specs.inside.Outlook.{look_on}
use Rattle.clock_run.proofs.look_on.Goals as goal

pub returns-then-tempos-eq0 : goal.returns-then-tempos-eq0
unfolding look_on of_bits
returns-then-tempos-eq0 c = rw (eq-eqb _ _ c.if-tempos-eq0.true)

pub returns-then-place-tempo_values : goal.returns-then-place-tempo_values
unfolding look_on of_bits
returns-then-place-tempo_values c =
    let s = c in
    rw (
      ne_eqb _ _ c.if-tempos-eq0.false,
      lt-ltb _ _ c.if-place-tempo_values.true,
      c.f32_to_f64_with_nan-rate.ensures,
      back c.least_of-row.result (record { sfits = c.least_of-row.type_inv }),
      c.least_of-row.ensures,
      back c.row_at-tempo.result (record { sfits = c.row_at-tempo.type_inv }),
      c.row_at-tempo.ensures,
      back s.args.rest s.ranges.rest,
    )

pub returns : goal.returns
unfolding look_on of_bits
returns c = rw (ne_eqb _ _ c.if-tempos-eq0.false, le-ltb _ _ c.if-place-tempo_values.false)
