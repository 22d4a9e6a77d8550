-- `clock_walk::least_head` is `least_head`. Assumes nothing.
use Rattle.clock_walk.specs.Heads.{least_head}
use Rattle.rows.proofs.BackFromBits.{back}
use Rattle.clock_walk.proofs.least_head.Goals as goal

pub returns : goal.returns
unfolding least_head
returns c =
    let h = c.args.heads in
    let g = c.struct_told-5-1.given in
    rw (
      c.earlier.ensures,
      c.earlier-stop.ensures,
      c.earlier-delay.ensures,
      c.earlier-tempo.ensures,
      c.earlier-end.ensures,
      back h.end (record { sfits = g.0.1 }),
      back h.tempo (record { sfits = g.1.0.1 }),
      back h.delay (record { sfits = g.1.1.0.1 }),
      back h.stop (record { sfits = g.1.1.1.0.1 }),
      back h.warp (record { sfits = g.1.1.1.1.0.1 }),
    )
