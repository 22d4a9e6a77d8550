-- `clock_walk::heads_after` is `heads_after`, kind by kind. Assumes nothing.
use Rattle.rows.proofs.BackFromBits.{back}
use Rattle.clock_walk.proofs.heads_after.Goals as goal

pub returns-in-WarpEnd : goal.returns-in-WarpEnd
returns-in-WarpEnd c =
    let h = c.args.heads in
    rw (
      c.in-WarpEnd.is,
      back h.tempo (record { sfits = c.struct_told-1.given.1.0.1 }),
      back h.delay (record { sfits = c.struct_told-1.given.1.1.0.1 }),
      back h.stop (record { sfits = c.struct_told-1.given.1.1.1.0.1 }),
      back h.warp (record { sfits = c.struct_told-1.given.1.1.1.1.0.1 }),
    )

pub returns-in-Tempo : goal.returns-in-Tempo
returns-in-Tempo c =
    let h = c.args.heads in
    rw (
      c.in-Tempo.is,
      back c.row_at-tempo.result (record { sfits = c.row_at-tempo.type_inv }),
      c.row_at-tempo.ensures,
      back h.end (record { sfits = c.struct_told-in-Tempo-1.given.0.1 }),
      back h.delay (record { sfits = c.struct_told-in-Tempo-1.given.1.1.0.1 }),
      back h.stop (record { sfits = c.struct_told-in-Tempo-1.given.1.1.1.0.1 }),
      back h.warp (record { sfits = c.struct_told-in-Tempo-1.given.1.1.1.1.0.1 }),
    )

pub returns-in-Delay : goal.returns-in-Delay
returns-in-Delay c =
    let h = c.args.heads in
    rw (
      c.in-Delay.is,
      back c.row_at-delay.result (record { sfits = c.row_at-delay.type_inv }),
      c.row_at-delay.ensures,
      back h.end (record { sfits = c.struct_told-in-Delay-1.given.0.1 }),
      back h.tempo (record { sfits = c.struct_told-in-Delay-1.given.1.0.1 }),
      back h.stop (record { sfits = c.struct_told-in-Delay-1.given.1.1.1.0.1 }),
      back h.warp (record { sfits = c.struct_told-in-Delay-1.given.1.1.1.1.0.1 }),
    )

pub returns-in-Stop : goal.returns-in-Stop
returns-in-Stop c =
    let h = c.args.heads in
    rw (
      c.in-Stop.is,
      back c.row_at-stop.result (record { sfits = c.row_at-stop.type_inv }),
      c.row_at-stop.ensures,
      back h.end (record { sfits = c.struct_told-in-Stop-1.given.0.1 }),
      back h.tempo (record { sfits = c.struct_told-in-Stop-1.given.1.0.1 }),
      back h.delay (record { sfits = c.struct_told-in-Stop-1.given.1.1.0.1 }),
      back h.warp (record { sfits = c.struct_told-in-Stop-1.given.1.1.1.1.0.1 }),
    )

pub returns-in-Warp : goal.returns-in-Warp
returns-in-Warp c =
    let h = c.args.heads in
    rw (
      c.in-Warp.is,
      back c.beat_to_note_row-end.result (record { sfits = c.beat_to_note_row-end.type_inv }),
      c.beat_to_note_row-end.ensures,
      back c.row_at-warp.result (record { sfits = c.row_at-warp.type_inv }),
      c.row_at-warp.ensures,
      back h.tempo (record { sfits = c.struct_told-in-Warp-1.given.1.0.1 }),
      back h.delay (record { sfits = c.struct_told-in-Warp-1.given.1.1.0.1 }),
      back h.stop (record { sfits = c.struct_told-in-Warp-1.given.1.1.1.0.1 }),
    )
