-- `clock_walk::heads_of` is `heads_of`. Assumes nothing.
use Rattle.clock_walk.specs.Heads.{heads_of}
use Rattle.rows.proofs.BackFromBits.{back}
use Rattle.clock_walk.proofs.heads_of.Goals as goal

pub returns : goal.returns
unfolding heads_of
returns c =
    rw (
      back c.end_row-end.result (record { sfits = c.end_row-end.type_inv }),
      c.end_row-end.ensures,
      back c.row_at-tempo.result (record { sfits = c.row_at-tempo.type_inv }),
      c.row_at-tempo.ensures,
      back c.row_at-delay.result (record { sfits = c.row_at-delay.type_inv }),
      c.row_at-delay.ensures,
      back c.row_at-stop.result (record { sfits = c.row_at-stop.type_inv }),
      c.row_at-stop.ensures,
      back c.row_at-warp.result (record { sfits = c.row_at-warp.type_inv }),
      c.row_at-warp.ensures,
    )
