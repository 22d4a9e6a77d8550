-- `tidy_speeds_placed::place_all` places entry after entry. Assumes nothing.
use mathlib.Core.Path.{sym, ◌∙◌}
use native.Mathlib.Omega.{arith}
use lib.ListN.{get_or}
use lib.Ieee.{nan}
use Rattle.rows.specs.RowKey.{row_key_at}
use Rattle.tidy_speeds_entries.specs.Speed.{speed_value_of, near_speed, no_speed, speed_values, speed_entries}
use Rattle.tidy_speeds_entries.proofs.SpeedColumns.{many-values, many-speeds, speed-here, speed-entry}
use Rattle.tidy_kept.proofs.PlacedInColumns.{placing_none, beats-stand, placing_falls, placing_more, placing_ends}
use Rattle.tidy_speeds_placed.proofs.place_all.Goals as goal

pub loop-i-init : goal.loop-i-init
loop-i-init c = (c.requires.kept_beats_len.0, c.requires.kept_beats_len.1, c.requires.kept_beats_len.2, c.requires.kept_beats_len.3, placing_none row_key_at near_speed (speed_entries c.args.beats.now c.args.ratios.now c.args.delays.now c.args.units.now) c.args.kept_beats.now (speed_values c.args.kept_ratios.now c.args.kept_delays.now c.args.kept_units.now))

pub returns-then-kept : goal.returns-then-kept
returns-then-kept c =
    let more = c.loop-i-test.true in
    placing_falls row_key_at near_speed (speed_entries c.args.beats.now c.args.ratios.now c.args.delays.now c.args.units.now) c.loop-i.kept_beats (speed_values c.loop-i.kept_ratios c.loop-i.kept_delays c.loop-i.kept_units) c.loop-i.kept.count c.loop-i.kept.falls c.loop-i.i c.loop-i.invariant.4 (get_or c.args.beats.now c.loop-i.i nan, (get_or c.args.ratios.now c.loop-i.i nan, (get_or c.args.delays.now c.loop-i.i nan, get_or c.args.units.now c.loop-i.i 0))) (nan, no_speed) (omega (arith, more, c.requires.n_bound.1, many-speeds c.args.ratios.now c.args.delays.now c.args.units.now c.args.beats.now)) (speed-here c.args.ratios.now c.args.delays.now c.args.units.now c.args.beats.now c.loop-i.i (omega (arith, more, c.requires.n_bound.1))) c.if-kept.true

pub speed_at-value-requires : goal.speed_at-value-requires
speed_at-value-requires c =
    let more = c.loop-i-test.true in
    (omega (arith, more, c.requires.n_bound.1), omega (arith, more, c.requires.n_bound.1), omega (arith, more, c.requires.n_bound.1))

pub add_speed_segment_slow-kept-requires : goal.add_speed_segment_slow-kept-requires
add_speed_segment_slow-kept-requires c =
    let more = c.loop-i-test.true in
    let p = c.loop-i.invariant.4 in
    record {
      n_bound = (omega (arith, more, p.few, c.requires.n_bound.0), omega (arith, more, p.few, c.requires.n_bound.0, c.loop-i.invariant.0));
      beats_len = (c.loop-i.invariant.0 ∙ sym c.loop-i.invariant.1, c.loop-i.invariant.0 ∙ sym c.loop-i.invariant.2, c.loop-i.invariant.0 ∙ sym c.loop-i.invariant.3);
      beats_value = beats-stand row_key_at near_speed (speed_entries c.args.beats.now c.args.ratios.now c.args.delays.now c.args.units.now) c.loop-i.kept_beats (speed_values c.loop-i.kept_ratios c.loop-i.kept_delays c.loop-i.kept_units) c.loop-i.kept.count c.loop-i.kept.falls c.loop-i.i c.loop-i.invariant.4 c.if-kept.false (omega (arith, more, c.requires.n_bound.0, c.loop-i.invariant.0)) (omega (arith, more, c.requires.n_bound.0, c.loop-i.invariant.1, c.loop-i.invariant.2, c.loop-i.invariant.3, many-values c.loop-i.kept_ratios c.loop-i.kept_delays c.loop-i.kept_units));
    }

pub loop-i-preserved : goal.loop-i-preserved
loop-i-preserved c =
    let more = c.loop-i-test.true in
    let v = speed_value_of c.speed_at-value.result in (
      c.add_speed_segment_slow-kept.auto.beats ∙ c.loop-i.invariant.0,
      c.add_speed_segment_slow-kept.auto.ratios ∙ c.loop-i.invariant.1,
      c.add_speed_segment_slow-kept.auto.delays ∙ c.loop-i.invariant.2,
      c.add_speed_segment_slow-kept.auto.units ∙ c.loop-i.invariant.3,
      placing_more row_key_at near_speed (speed_entries c.args.beats.now c.args.ratios.now c.args.delays.now c.args.units.now) c.loop-i.kept_beats (speed_values c.loop-i.kept_ratios c.loop-i.kept_delays c.loop-i.kept_units) c.loop-i.kept.count c.loop-i.kept.falls c.loop-i.i c.loop-i.invariant.4 (get_or c.args.beats.now c.loop-i.i nan, v) (nan, no_speed) (omega (arith, more, c.requires.n_bound.1, many-speeds c.args.ratios.now c.args.delays.now c.args.units.now c.args.beats.now)) (speed-entry c.args.ratios.now c.args.delays.now c.args.units.now c.args.beats.now c.loop-i.i v (omega (arith, more, c.requires.n_bound.1)) c.speed_at-value.ensures) _ _ _ _ c.if-kept.false c.add_speed_segment_slow-kept.ensures,
    )

pub returns : goal.returns
returns c =
    placing_ends row_key_at near_speed (speed_entries c.args.beats.now c.args.ratios.now c.args.delays.now c.args.units.now) c.loop-i.kept_beats (speed_values c.loop-i.kept_ratios c.loop-i.kept_delays c.loop-i.kept_units) c.loop-i.kept.count c.loop-i.kept.falls c.loop-i.i c.loop-i.invariant.4 (omega (arith, c.loop-i-test.false, c.requires.n_bound.1, many-speeds c.args.ratios.now c.args.delays.now c.args.units.now c.args.beats.now))
