-- `tidy_scrolls::lay_kept` lays what the pass writes. Assumes nothing.
use mathlib.Core.Path.{refl}
use mathlib.Core.List.{[]}
use Rattle.tidy_scrolls.proofs.Turns.{turn-writes, turn-waits, ends_waiting, ends, rows_same, rows-room, rows_more, rows-count, rows_all}
use Rattle.tidy_scrolls.specs.inside.Ways.{scroll_waiting, no_scroll_held}
use Rattle.tidy_kept.specs.Passing.{still_written}
use Rattle.tidy_kept.specs.Near.{near_to}
use Rattle.rows.specs.RowKey.{row_key_at}
use Rattle.order.specs.Entries.{entries}
use lib.ListN.{drop}
use native.Mathlib.Omega.{arith}
use Prim.Native.Nat.{◌+◌}
use Rattle.tidy_scrolls.proofs.lay_kept.Goals as goal
use Rattle.tidy_scrolls.proofs.lay_kept.Goals.{then-writes, else-writes}

pub bounds-out_beats-count : goal.bounds-out_beats-count
bounds-out_beats-count c =
    let beats = c.args.beats.now in
    let values = c.args.values.now in
    let i = c.loop-i.i in
    let s = scroll_waiting c.loop-i.held in
    let whole = still_written row_key_at near_to no_scroll_held (entries beats values) in
    let left = still_written row_key_at near_to s (drop i (entries beats values)) in
    let next = scroll_waiting c.pass-next.result in
    let turn = turn-writes beats values c.requires.beats_len s next i (omega arith) c.pass-next.ensures c.row_key-row.result c.row_key-row.ensures c.writes.result c.writes.ensures c.if-writes.true in
    let less = still_written row_key_at near_to next (drop (i + 1) (entries beats values)) in
    (rows-room whole left c.args.out_beats.now c.loop-i.out_beats c.args.out_values.now c.loop-i.out_values c.loop-i.count c.loop-i.invariant.1 (s.beat, s.value) less turn c.requires.values_len_bound).0

pub bounds-out_values-count : goal.bounds-out_values-count
bounds-out_values-count c =
    let beats = c.args.beats.now in
    let values = c.args.values.now in
    let i = c.loop-i.i in
    let s = scroll_waiting c.loop-i.held in
    let whole = still_written row_key_at near_to no_scroll_held (entries beats values) in
    let left = still_written row_key_at near_to s (drop i (entries beats values)) in
    let next = scroll_waiting c.pass-next.result in
    let turn = turn-writes beats values c.requires.beats_len s next i (omega arith) c.pass-next.ensures c.row_key-row.result c.row_key-row.ensures c.writes.result c.writes.ensures c.if-writes.true in
    let less = still_written row_key_at near_to next (drop (i + 1) (entries beats values)) in
    (rows-room whole left c.args.out_beats.now c.loop-i.out_beats c.args.out_values.now c.loop-i.out_values c.loop-i.count c.loop-i.invariant.1 (s.beat, s.value) less turn c.requires.values_len_bound).1

pub loop-i-preserved : goal.loop-i-preserved
loop-i-preserved c =
    let beats = c.args.beats.now in
    let values = c.args.values.now in
    let i = c.loop-i.i in
    let s = scroll_waiting c.loop-i.held in
    let whole = still_written row_key_at near_to no_scroll_held (entries beats values) in
    let left = still_written row_key_at near_to s (drop i (entries beats values)) in
    let next = scroll_waiting c.pass-next.result in
    let less = still_written row_key_at near_to next (drop (i + 1) (entries beats values)) in
    elim c.if-writes.branch [
      | then-writes w ↦
          let turn = turn-writes beats values c.requires.beats_len s next i (omega arith) c.pass-next.ensures c.row_key-row.result c.row_key-row.ensures c.writes.result c.writes.ensures w.if-writes.true in
          let room = rows-room whole left c.args.out_beats.now c.loop-i.out_beats c.args.out_values.now c.loop-i.out_values c.loop-i.count c.loop-i.invariant.1 (s.beat, s.value) less turn c.requires.values_len_bound in
          rw (w.held-is, w.count-is, w.out_beats-is, w.out_values-is) (omega arith, rows_more whole left c.args.out_beats.now c.loop-i.out_beats c.args.out_values.now c.loop-i.out_values c.loop-i.count c.loop-i.invariant.1 (s.beat, s.value) less turn w.on_row.result s.value w.on_row.ensures refl room.0 room.1)
      | else-writes w ↦
          let turn = turn-waits beats values c.requires.beats_len s next i (omega arith) c.pass-next.ensures c.row_key-row.result c.row_key-row.ensures c.writes.result c.writes.ensures w.if-writes.false in
          rw (w.held-is, w.count-is, w.out_beats-is, w.out_values-is) (omega arith, rows_same whole left c.args.out_beats.now c.loop-i.out_beats c.args.out_values.now c.loop-i.out_values c.loop-i.count c.loop-i.invariant.1 less turn)
    ]

pub bounds-out_beats-count-then-held : goal.bounds-out_beats-count-then-held
bounds-out_beats-count-then-held c =
    let beats = c.args.beats.now in
    let values = c.args.values.now in
    let i = c.loop-i.i in
    let s = scroll_waiting c.loop-i.held in
    let whole = still_written row_key_at near_to no_scroll_held (entries beats values) in
    let left = still_written row_key_at near_to s (drop i (entries beats values)) in
    let turn = ends_waiting beats values c.requires.beats_len s i (omega arith) c.if-held.true in
    (rows-room whole left c.args.out_beats.now c.loop-i.out_beats c.args.out_values.now c.loop-i.out_values c.loop-i.count c.loop-i.invariant.1 (s.beat, s.value) [] turn c.requires.values_len_bound).0

pub bounds-out_values-count-then-held : goal.bounds-out_values-count-then-held
bounds-out_values-count-then-held c =
    let beats = c.args.beats.now in
    let values = c.args.values.now in
    let i = c.loop-i.i in
    let s = scroll_waiting c.loop-i.held in
    let whole = still_written row_key_at near_to no_scroll_held (entries beats values) in
    let left = still_written row_key_at near_to s (drop i (entries beats values)) in
    let turn = ends_waiting beats values c.requires.beats_len s i (omega arith) c.if-held.true in
    (rows-room whole left c.args.out_beats.now c.loop-i.out_beats c.args.out_values.now c.loop-i.out_values c.loop-i.count c.loop-i.invariant.1 (s.beat, s.value) [] turn c.requires.values_len_bound).1

pub returns-then-held : goal.returns-then-held
returns-then-held c =
    let beats = c.args.beats.now in
    let values = c.args.values.now in
    let i = c.loop-i.i in
    let s = scroll_waiting c.loop-i.held in
    let whole = still_written row_key_at near_to no_scroll_held (entries beats values) in
    let left = still_written row_key_at near_to s (drop i (entries beats values)) in
    let turn = ends_waiting beats values c.requires.beats_len s i (omega arith) c.if-held.true in
    let room = rows-room whole left c.args.out_beats.now c.loop-i.out_beats c.args.out_values.now c.loop-i.out_values c.loop-i.count c.loop-i.invariant.1 (s.beat, s.value) [] turn c.requires.values_len_bound in
    let done = rows_more whole left c.args.out_beats.now c.loop-i.out_beats c.args.out_values.now c.loop-i.out_values c.loop-i.count c.loop-i.invariant.1 (s.beat, s.value) [] turn c.on_row-then-held.result s.value c.on_row-then-held.ensures refl room.0 room.1 in
    record {
      value = rows-count whole [] c.args.out_beats.now _ c.args.out_values.now _ (c.loop-i.count + 1) done refl;
      fact = rows_all whole [] c.args.out_beats.now _ c.args.out_values.now _ (c.loop-i.count + 1) done refl;
    }

pub returns : goal.returns
returns c =
    let beats = c.args.beats.now in
    let values = c.args.values.now in
    let i = c.loop-i.i in
    let s = scroll_waiting c.loop-i.held in
    let whole = still_written row_key_at near_to no_scroll_held (entries beats values) in
    let left = still_written row_key_at near_to s (drop i (entries beats values)) in
    let turn = ends beats values c.requires.beats_len s i (omega arith) c.if-held.false in
    record {
      value = rows-count whole left c.args.out_beats.now c.loop-i.out_beats c.args.out_values.now c.loop-i.out_values c.loop-i.count c.loop-i.invariant.1 turn;
      fact = rows_all whole left c.args.out_beats.now c.loop-i.out_beats c.args.out_values.now c.loop-i.out_values c.loop-i.count c.loop-i.invariant.1 turn;
    }
