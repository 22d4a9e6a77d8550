-- `tidy_speeds_placed::add_speed_segment_slow` writes the first entry, or makes the change. Assumes nothing.
use native.Mathlib.Omega.{arith}
use Rattle.tidy_speeds_placed.proofs.add_speed_segment_slow.Goals as goal

pub place_first-requires : goal.place_first-requires
place_first-requires c = let g = c in (omega (arith, g.requires.n_bound.1), omega (arith, g.requires.n_bound.1, g.requires.beats_len.0), omega (arith, g.requires.n_bound.1, g.requires.beats_len.1), omega (arith, g.requires.n_bound.1, g.requires.beats_len.2))

pub shape_of-beats-then-n-eq0 : goal.shape_of-beats-then-n-eq0
shape_of-beats-then-n-eq0 c = c.place_first.auto.beats

pub shape_of-ratios-then-n-eq0 : goal.shape_of-ratios-then-n-eq0
shape_of-ratios-then-n-eq0 c = c.place_first.auto.ratios

pub shape_of-delays-then-n-eq0 : goal.shape_of-delays-then-n-eq0
shape_of-delays-then-n-eq0 c = c.place_first.auto.delays

pub shape_of-units-then-n-eq0 : goal.shape_of-units-then-n-eq0
shape_of-units-then-n-eq0 c = c.place_first.auto.units

pub returns-then-n-eq0 : goal.returns-then-n-eq0
returns-then-n-eq0 c = rw c.if-n-eq0.true c.place_first.ensures

pub place_later-requires : goal.place_later-requires
place_later-requires c = let g = c in
    record {
      n_nonzero = (omega (arith, c.if-n-eq0.false), g.requires.n_bound.0, g.requires.n_bound.1);
      beats_len = g.requires.beats_len;
      beats_value = g.requires.beats_value;
    }

pub shape_of-beats : goal.shape_of-beats
shape_of-beats c = c.place_later.auto.beats

pub shape_of-ratios : goal.shape_of-ratios
shape_of-ratios c = c.place_later.auto.ratios

pub shape_of-delays : goal.shape_of-delays
shape_of-delays c = c.place_later.auto.delays

pub shape_of-units : goal.shape_of-units
shape_of-units c = c.place_later.auto.units

pub returns : goal.returns
returns c = c.place_later.ensures
