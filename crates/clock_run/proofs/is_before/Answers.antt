-- `clock_run::is_before` is `is_before`. Assumes nothing.
use Rattle.std.proofs.Common.{true, false, eq-eqb, ne_eqb}
use Rattle.rows.proofs.BackFromBits.{back, tested}
use Rattle.clock_run.specs.inside.Outlook.{is_before}
use Rattle.clock_run.proofs.is_before.Goals as goal

pub returns-then-row-last : goal.returns-then-row-last
unfolding is_before
returns-then-row-last c =
    let s = c in
    rw (
      ← c.beat_number.ensures,
      eq-eqb _ _ c.if-beat_number-eq-TAKEN.true,
      c.if-known.true,
      tested s.args.row s.args.last s.ranges.row s.ranges.last true c.if-row-last.true,
    )

pub returns-then-known : goal.returns-then-known
unfolding is_before
returns-then-known c =
    let s = c in
    rw (
      ← c.beat_number.ensures,
      eq-eqb _ _ c.if-beat_number-eq-TAKEN.true,
      c.if-known.true,
      tested s.args.row s.args.last s.ranges.row s.ranges.last false c.if-row-last.false,
      back s.args.row s.ranges.row,
      back s.args.until s.ranges.until,
    )

pub returns-then-beat_number-eq-TAKEN : goal.returns-then-beat_number-eq-TAKEN
unfolding is_before
returns-then-beat_number-eq-TAKEN c = rw (← c.beat_number.ensures, eq-eqb _ _ c.if-beat_number-eq-TAKEN.true, c.if-known.false)

pub returns : goal.returns
unfolding is_before
returns c = rw (← c.beat_number.ensures, ne_eqb _ _ c.if-beat_number-eq-TAKEN.false)
