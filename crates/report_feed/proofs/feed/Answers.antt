-- `report_feed::feed` meets its contract: one turn is one byte, for the state and for each column. Assumes nothing.
use Prim.Native.Nat.{◌≤◌, ◌<◌}
use native.Mathlib.Omega.{arith}
use lib.ListN.{length}
use Rattle.report_form.specs.Stores.{number_in, unit_in, count_in}
use Rattle.report_feed.proofs.Turns.{read-turn, read-end, column-turn, column-end}
use Rattle.report_feed.proofs.feed.Goals as goal

pub loop-byte-preserved : goal.loop-byte-preserved
loop-byte-preserved c =
    let after-put = c in
    let start = after-put in
    let i = start.loop-byte.byte-index in
    let reading = start.loop-byte.reading in
    let stepped = after-put in
    let told = after-put in
    let inside : i < length start.args.chunk.now = c.loop-byte-test.true in (
      read-turn _ _ reading stepped.step-next.result i inside stepped.step-next.ensures start.loop-byte.invariant.0,
      column-turn count_in _ _ _ reading stepped.step-next.result told.completed-store.result start.loop-byte.counts after-put.put.new.counts i inside stepped.step-next.ensures told.completed-store.ensures after-put.put.ensures.counts_after after-put.put.auto.counts start.loop-byte.invariant.1,
      column-turn (number_in 2 1) _ _ _ reading stepped.step-next.result told.completed-store.result start.loop-byte.tempo_beats after-put.put.new.tempo_beats i inside stepped.step-next.ensures told.completed-store.ensures after-put.put.ensures.tempo_beats_after after-put.put.auto.tempo_beats start.loop-byte.invariant.2,
      column-turn (number_in 2 2) _ _ _ reading stepped.step-next.result told.completed-store.result start.loop-byte.tempo_values after-put.put.new.tempo_values i inside stepped.step-next.ensures told.completed-store.ensures after-put.put.ensures.tempo_values_after after-put.put.auto.tempo_values start.loop-byte.invariant.3,
      column-turn (number_in 3 1) _ _ _ reading stepped.step-next.result told.completed-store.result start.loop-byte.stop_beats after-put.put.new.stop_beats i inside stepped.step-next.ensures told.completed-store.ensures after-put.put.ensures.stop_beats_after after-put.put.auto.stop_beats start.loop-byte.invariant.4,
      column-turn (number_in 3 2) _ _ _ reading stepped.step-next.result told.completed-store.result start.loop-byte.stop_values after-put.put.new.stop_values i inside stepped.step-next.ensures told.completed-store.ensures after-put.put.ensures.stop_values_after after-put.put.auto.stop_values start.loop-byte.invariant.5,
      column-turn (number_in 4 1) _ _ _ reading stepped.step-next.result told.completed-store.result start.loop-byte.delay_beats after-put.put.new.delay_beats i inside stepped.step-next.ensures told.completed-store.ensures after-put.put.ensures.delay_beats_after after-put.put.auto.delay_beats start.loop-byte.invariant.6,
      column-turn (number_in 4 2) _ _ _ reading stepped.step-next.result told.completed-store.result start.loop-byte.delay_values after-put.put.new.delay_values i inside stepped.step-next.ensures told.completed-store.ensures after-put.put.ensures.delay_values_after after-put.put.auto.delay_values start.loop-byte.invariant.7,
      column-turn (number_in 5 1) _ _ _ reading stepped.step-next.result told.completed-store.result start.loop-byte.warp_beats after-put.put.new.warp_beats i inside stepped.step-next.ensures told.completed-store.ensures after-put.put.ensures.warp_beats_after after-put.put.auto.warp_beats start.loop-byte.invariant.8,
      column-turn (number_in 5 2) _ _ _ reading stepped.step-next.result told.completed-store.result start.loop-byte.warp_lengths after-put.put.new.warp_lengths i inside stepped.step-next.ensures told.completed-store.ensures after-put.put.ensures.warp_lengths_after after-put.put.auto.warp_lengths start.loop-byte.invariant.9,
      column-turn (number_in 6 1) _ _ _ reading stepped.step-next.result told.completed-store.result start.loop-byte.speed_beats after-put.put.new.speed_beats i inside stepped.step-next.ensures told.completed-store.ensures after-put.put.ensures.speed_beats_after after-put.put.auto.speed_beats start.loop-byte.invariant.10,
      column-turn (number_in 6 2) _ _ _ reading stepped.step-next.result told.completed-store.result start.loop-byte.speed_ratios after-put.put.new.speed_ratios i inside stepped.step-next.ensures told.completed-store.ensures after-put.put.ensures.speed_ratios_after after-put.put.auto.speed_ratios start.loop-byte.invariant.11,
      column-turn (number_in 6 3) _ _ _ reading stepped.step-next.result told.completed-store.result start.loop-byte.speed_delays after-put.put.new.speed_delays i inside stepped.step-next.ensures told.completed-store.ensures after-put.put.ensures.speed_delays_after after-put.put.auto.speed_delays start.loop-byte.invariant.12,
      column-turn (unit_in 6 4) _ _ _ reading stepped.step-next.result told.completed-store.result start.loop-byte.speed_units after-put.put.new.speed_units i inside stepped.step-next.ensures told.completed-store.ensures after-put.put.ensures.speed_units_after after-put.put.auto.speed_units start.loop-byte.invariant.13,
      column-turn (number_in 7 1) _ _ _ reading stepped.step-next.result told.completed-store.result start.loop-byte.scroll_beats after-put.put.new.scroll_beats i inside stepped.step-next.ensures told.completed-store.ensures after-put.put.ensures.scroll_beats_after after-put.put.auto.scroll_beats start.loop-byte.invariant.14,
      column-turn (number_in 7 2) _ _ _ reading stepped.step-next.result told.completed-store.result start.loop-byte.scroll_values after-put.put.new.scroll_values i inside stepped.step-next.ensures told.completed-store.ensures after-put.put.ensures.scroll_values_after after-put.put.auto.scroll_values start.loop-byte.invariant.15,
      column-turn (number_in 8 1) _ _ _ reading stepped.step-next.result told.completed-store.result start.loop-byte.fake_beats after-put.put.new.fake_beats i inside stepped.step-next.ensures told.completed-store.ensures after-put.put.ensures.fake_beats_after after-put.put.auto.fake_beats start.loop-byte.invariant.16,
      column-turn (number_in 8 2) _ _ _ reading stepped.step-next.result told.completed-store.result start.loop-byte.fake_lengths after-put.put.new.fake_lengths i inside stepped.step-next.ensures told.completed-store.ensures after-put.put.ensures.fake_lengths_after after-put.put.auto.fake_lengths start.loop-byte.invariant.17,
    )

pub returns : goal.returns
returns c =
    let start = c in
    let over : length start.args.chunk.now ≤ start.loop-byte.byte-index = omega arith in
    record {
      value = read-end _ _ _ _ over start.loop-byte.invariant.0;
      counts_after = column-end count_in _ _ _ _ _ _ over start.loop-byte.invariant.1;
      tempo_beats_after = column-end (number_in 2 1) _ _ _ _ _ _ over start.loop-byte.invariant.2;
      tempo_values_after = column-end (number_in 2 2) _ _ _ _ _ _ over start.loop-byte.invariant.3;
      stop_beats_after = column-end (number_in 3 1) _ _ _ _ _ _ over start.loop-byte.invariant.4;
      stop_values_after = column-end (number_in 3 2) _ _ _ _ _ _ over start.loop-byte.invariant.5;
      delay_beats_after = column-end (number_in 4 1) _ _ _ _ _ _ over start.loop-byte.invariant.6;
      delay_values_after = column-end (number_in 4 2) _ _ _ _ _ _ over start.loop-byte.invariant.7;
      warp_beats_after = column-end (number_in 5 1) _ _ _ _ _ _ over start.loop-byte.invariant.8;
      warp_lengths_after = column-end (number_in 5 2) _ _ _ _ _ _ over start.loop-byte.invariant.9;
      speed_beats_after = column-end (number_in 6 1) _ _ _ _ _ _ over start.loop-byte.invariant.10;
      speed_ratios_after = column-end (number_in 6 2) _ _ _ _ _ _ over start.loop-byte.invariant.11;
      speed_delays_after = column-end (number_in 6 3) _ _ _ _ _ _ over start.loop-byte.invariant.12;
      speed_units_after = column-end (unit_in 6 4) _ _ _ _ _ _ over start.loop-byte.invariant.13;
      scroll_beats_after = column-end (number_in 7 1) _ _ _ _ _ _ over start.loop-byte.invariant.14;
      scroll_values_after = column-end (number_in 7 2) _ _ _ _ _ _ over start.loop-byte.invariant.15;
      fake_beats_after = column-end (number_in 8 1) _ _ _ _ _ _ over start.loop-byte.invariant.16;
      fake_lengths_after = column-end (number_in 8 2) _ _ _ _ _ _ over start.loop-byte.invariant.17;
    }
