-- `tidy_scrolls::tidy_ordered` refuses for want of room, or lays. Assumes nothing.
use Rattle.tidy_scrolls.proofs.Outcomes.{even-columns, ordered-refused, ordered-laid}
use Rattle.tidy_scrolls.specs.inside.Ways.{no_scroll_held}
use Rattle.tidy_kept.specs.Passing.{still_written}
use Rattle.tidy_kept.specs.Near.{near_to}
use Rattle.rows.specs.RowKey.{row_key_at}
use Rattle.order.specs.Entries.{entries}
use borrow.Author.Tests.{not-true, not-false, leb-true, leb-false}
use lib.ListN.{length}
use native.Mathlib.Omega.{arith}
use mathlib.Core.Path.{sym, ◌∙◌}
use Rattle.tidy_scrolls.proofs.tidy_ordered.Goals as goal

pub fits-requires : goal.fits-requires
fits-requires c = even-columns c.args.beats.now c.args.values.now c.requires.values_value

pub returns-then-not-fits : goal.returns-then-not-fits
returns-then-not-fits c =
    let g = c in
    rw c.refused.ensures (ordered-refused g.args.beats.now g.args.values.now g.args.out_beats.now g.args.out_values.now g.requires.values_value g.requires.beats_value (omega (arith, leb-false (length (still_written row_key_at near_to no_scroll_held (entries g.args.beats.now g.args.values.now))) c.room_of-room.result (sym c.fits.ensures ∙ not-true _ c.if-not-fits.true-raw), c.room_of-room.ensures)))

pub lay_kept-count-requires : goal.lay_kept-count-requires
lay_kept-count-requires c =
    let g = c in
    record {
      beats_len = even-columns g.args.beats.now g.args.values.now g.requires.values_value;
      values_len_bound = omega (arith, leb-true (length (still_written row_key_at near_to no_scroll_held (entries g.args.beats.now g.args.values.now))) c.room_of-room.result (sym c.fits.ensures ∙ not-false _ c.if-not-fits.false-raw), c.room_of-room.ensures);
    }

pub returns : goal.returns
returns c =
    let g = c in
    ordered-laid g.args.beats.now g.args.values.now g.args.out_beats.now g.args.out_values.now g.requires.values_value g.requires.beats_value _ _ _ (omega (arith, leb-true (length (still_written row_key_at near_to no_scroll_held (entries g.args.beats.now g.args.values.now))) c.room_of-room.result (sym c.fits.ensures ∙ not-false _ c.if-not-fits.false-raw), c.room_of-room.ensures)) c.lay_kept-count.ensures.value c.lay_kept-count.ensures.fact
