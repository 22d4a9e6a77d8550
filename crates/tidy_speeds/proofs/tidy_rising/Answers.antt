-- `tidy_speeds::tidy_rising` lays the columns where every entry is kept and has room, and else goes the longer way. Assumes nothing.
use Prim.Native.Nat.{◌≤◌}
use mathlib.Core.Path.{sym, ◌∙◌}
use native.Mathlib.Omega.{arith}
use lib.ListN.{length}
use Rattle.tidy_speeds_entries.specs.LaidSpeeds.{least_of}
use Rattle.tidy_speeds.proofs.Rising.{as_ordered, columns-apart, columns-tidied}
use borrow.Author.Rules.{rules}
use Rattle.tidy_speeds.proofs.tidy_rising.Goals as goal

pub lay_columns-requires : goal.lay_columns-requires
lay_columns-requires c =
    let given = c.args in
    record {
      columns_apart = columns-apart given.beats.now given.ratios.now given.delays.now given.units.now c.requires.0 c.requires.1 (sym c.all_apart.ensures ∙ c.if-all_apart.true);
      beats_len_bound = omega (arith, c.if-beats-room.true, c.least_of-room.ensures);
    }

pub returns-then-all_apart : goal.returns-then-all_apart
returns-then-all_apart c =
    let given = c.args in
    let room : length given.beats.now ≤ least_of (length given.out_beats.now) (length given.out_ratios.now) (length given.out_delays.now) (length given.out_units.now) = omega (arith, c.if-beats-room.true, c.least_of-room.ensures) in
    columns-tidied given.beats.now given.ratios.now given.delays.now given.units.now c.requires.0 c.requires.1 (sym c.all_apart.ensures ∙ c.if-all_apart.true) given.out_beats.now given.out_ratios.now given.out_delays.now given.out_units.now room c.lay_columns.ensures

pub returns : goal.returns
returns c = let given = c.args in as_ordered given.beats.now given.ratios.now given.delays.now given.units.now c.requires.0 c.requires.1 c.tidy_ordered_untested.ensures
