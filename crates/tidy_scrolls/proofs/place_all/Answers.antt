-- `tidy_scrolls::place_all` places entry after entry. Assumes nothing.
use native.Mathlib.Omega.{arith}
use mathlib.Core.Path.{refl, ◌∙◌}
use Rattle.tidy_kept.proofs.PlacedInColumns.{placing_none, beats-stand, placing_falls, placing_more, placing_ends}
use Rattle.tidy_scrolls.proofs.Turns.{at as entry_at, many, here}
use Rattle.rows.specs.RowKey.{row_key_at}
use Rattle.tidy_kept.specs.Near.{near_to}
use Rattle.order.specs.Entries.{entries}
use lib.Ieee.{nan}
use Rattle.tidy_scrolls.proofs.place_all.Goals as goal

pub loop-i-init : goal.loop-i-init
loop-i-init c =
    (refl, refl, placing_none row_key_at near_to (entries c.args.beats.now c.args.values.now) c.args.kept_beats.now c.args.kept_values.now)

pub returns-then-kept : goal.returns-then-kept
returns-then-kept c =
    let beats = c.args.beats.now in
    let values = c.args.values.now in
    let same = c.requires.beats_len_bound.1 in
    placing_falls row_key_at near_to (entries beats values) c.loop-i.kept_beats c.loop-i.kept_values c.loop-i.kept.count c.loop-i.kept.falls c.loop-i.i c.loop-i.invariant.2 (entry_at beats values same c.loop-i.i) (nan, nan) (omega (arith, c.loop-i-test.true, many beats values same)) (here beats values same c.loop-i.i) c.if-kept.true

pub add_scroll_segment_slow-kept-requires : goal.add_scroll_segment_slow-kept-requires
add_scroll_segment_slow-kept-requires c =
    let p = c.loop-i.invariant.2 in
    record {
      n_bound = (omega (arith, p.few), omega (arith, p.few, c.loop-i.invariant.0), omega (arith, c.loop-i.invariant.0, c.loop-i.invariant.1));
      beats_value = beats-stand row_key_at near_to (entries c.args.beats.now c.args.values.now) c.loop-i.kept_beats c.loop-i.kept_values c.loop-i.kept.count c.loop-i.kept.falls c.loop-i.i p c.if-kept.false (omega (arith, c.loop-i.invariant.0)) (omega (arith, c.loop-i.invariant.0, c.loop-i.invariant.1));
    }

pub loop-i-preserved : goal.loop-i-preserved
loop-i-preserved c =
    let p = c.add_scroll_segment_slow-kept in
    let more = c.loop-i-test.true in
    let beats = c.args.beats.now in
    let values = c.args.values.now in
    let same = c.requires.beats_len_bound.1 in
    (p.auto.beats ∙ c.loop-i.invariant.0, p.auto.values ∙ c.loop-i.invariant.1, placing_more row_key_at near_to (entries beats values) c.loop-i.kept_beats c.loop-i.kept_values c.loop-i.kept.count c.loop-i.kept.falls c.loop-i.i c.loop-i.invariant.2 (entry_at beats values same c.loop-i.i) (nan, nan) (omega (arith, more, many beats values same)) (here beats values same c.loop-i.i) _ _ _ _ c.if-kept.false p.ensures)

pub returns : goal.returns
returns c =
    let beats = c.args.beats.now in
    let values = c.args.values.now in
    placing_ends row_key_at near_to (entries beats values) c.loop-i.kept_beats c.loop-i.kept_values c.loop-i.kept.count c.loop-i.kept.falls c.loop-i.i c.loop-i.invariant.2 (omega (arith, many beats values c.requires.beats_len_bound.1))
