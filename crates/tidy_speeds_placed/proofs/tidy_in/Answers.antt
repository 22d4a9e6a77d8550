-- `tidy_speeds_placed::tidy_in` refuses a list that falls, or for want of room, or lays. Assumes nothing.
use native.Mathlib.Omega.{arith}
use Rattle.tidy_speeds_entries.specs.Speed.{speed_entries}
use Rattle.tidy_speeds_entries.proofs.SpeedColumns.{many-speeds}
use Rattle.tidy_speeds_placed.proofs.Outcomes.{falls-refused, placed-refused, placed-laid}
use Rattle.tidy_speeds_placed.proofs.tidy_in.Goals as goal

pub place_all-kept-requires : goal.place_all-kept-requires
place_all-kept-requires c = let g = c in
    record {
      n_bound = g.requires.n_bound;
      kept_beats_len = g.requires.kept_beats_len;
    }

pub returns-then-kept : goal.returns-then-kept
returns-then-kept c =
    let g = c in
    let kept = c.place_all-kept in
    rw c.refused.ensures (falls-refused (speed_entries g.args.beats.now g.args.ratios.now g.args.delays.now g.args.units.now) g.args.out_beats.now g.args.out_ratios.now g.args.out_delays.now g.args.out_units.now (omega (arith, many-speeds g.args.ratios.now g.args.delays.now g.args.units.now g.args.beats.now, g.requires.n_bound.0, g.requires.n_bound.1)) kept.result.count kept.result.falls _ _ _ _ kept.ensures c.if-kept.true)

pub returns-then-kept-least_of : goal.returns-then-kept-least_of
returns-then-kept-least_of c =
    let g = c in
    let kept = c.place_all-kept in
    rw c.refused-then-kept-least_of.ensures (placed-refused (speed_entries g.args.beats.now g.args.ratios.now g.args.delays.now g.args.units.now) g.args.out_beats.now g.args.out_ratios.now g.args.out_delays.now g.args.out_units.now (omega (arith, many-speeds g.args.ratios.now g.args.delays.now g.args.units.now g.args.beats.now, g.requires.n_bound.0, g.requires.n_bound.1)) kept.result.count kept.result.falls _ _ _ _ kept.ensures c.if-kept.false (omega (arith, kept.ensures.few, many-speeds g.args.ratios.now g.args.delays.now g.args.units.now g.args.beats.now, g.requires.n_bound.0, g.requires.n_bound.1, kept.auto.kept_beats, g.requires.kept_beats_len.0)) (omega (arith, kept.ensures.few, many-speeds g.args.ratios.now g.args.delays.now g.args.units.now g.args.beats.now, g.requires.n_bound.0, g.requires.n_bound.1, kept.auto.kept_ratios, g.requires.kept_beats_len.1)) (omega (arith, kept.ensures.few, many-speeds g.args.ratios.now g.args.delays.now g.args.units.now g.args.beats.now, g.requires.n_bound.0, g.requires.n_bound.1, kept.auto.kept_delays, g.requires.kept_beats_len.2)) (omega (arith, kept.ensures.few, many-speeds g.args.ratios.now g.args.delays.now g.args.units.now g.args.beats.now, g.requires.n_bound.0, g.requires.n_bound.1, kept.auto.kept_units, g.requires.kept_beats_len.3)) (omega (arith, c.if-kept-least_of.true, c.least_of.ensures)))

pub lay_rows-requires : goal.lay_rows-requires
lay_rows-requires c =
    let g = c in
    let kept = c.place_all-kept in
    record {
      count_in_bounds = (omega (arith, kept.ensures.few, many-speeds g.args.ratios.now g.args.delays.now g.args.units.now g.args.beats.now, g.requires.n_bound.0, g.requires.n_bound.1, kept.auto.kept_beats, g.requires.kept_beats_len.0), omega (arith, kept.ensures.few, many-speeds g.args.ratios.now g.args.delays.now g.args.units.now g.args.beats.now, g.requires.n_bound.0, g.requires.n_bound.1, kept.auto.kept_ratios, g.requires.kept_beats_len.1), omega (arith, kept.ensures.few, many-speeds g.args.ratios.now g.args.delays.now g.args.units.now g.args.beats.now, g.requires.n_bound.0, g.requires.n_bound.1, kept.auto.kept_delays, g.requires.kept_beats_len.2), omega (arith, kept.ensures.few, many-speeds g.args.ratios.now g.args.delays.now g.args.units.now g.args.beats.now, g.requires.n_bound.0, g.requires.n_bound.1, kept.auto.kept_units, g.requires.kept_beats_len.3));
      count_bound = omega (arith, c.if-kept-least_of.false, c.least_of.ensures);
    }

pub returns : goal.returns
returns c =
    let g = c in
    let kept = c.place_all-kept in
    placed-laid (speed_entries g.args.beats.now g.args.ratios.now g.args.delays.now g.args.units.now) g.args.out_beats.now g.args.out_ratios.now g.args.out_delays.now g.args.out_units.now (omega (arith, many-speeds g.args.ratios.now g.args.delays.now g.args.units.now g.args.beats.now, g.requires.n_bound.0, g.requires.n_bound.1)) kept.result.count kept.result.falls _ _ _ _ kept.ensures c.if-kept.false (omega (arith, kept.ensures.few, many-speeds g.args.ratios.now g.args.delays.now g.args.units.now g.args.beats.now, g.requires.n_bound.0, g.requires.n_bound.1, kept.auto.kept_beats, g.requires.kept_beats_len.0)) (omega (arith, kept.ensures.few, many-speeds g.args.ratios.now g.args.delays.now g.args.units.now g.args.beats.now, g.requires.n_bound.0, g.requires.n_bound.1, kept.auto.kept_ratios, g.requires.kept_beats_len.1)) (omega (arith, kept.ensures.few, many-speeds g.args.ratios.now g.args.delays.now g.args.units.now g.args.beats.now, g.requires.n_bound.0, g.requires.n_bound.1, kept.auto.kept_delays, g.requires.kept_beats_len.2)) (omega (arith, kept.ensures.few, many-speeds g.args.ratios.now g.args.delays.now g.args.units.now g.args.beats.now, g.requires.n_bound.0, g.requires.n_bound.1, kept.auto.kept_units, g.requires.kept_beats_len.3)) _ _ _ _ (omega (arith, c.if-kept-least_of.false, c.least_of.ensures)) c.lay_rows.ensures
