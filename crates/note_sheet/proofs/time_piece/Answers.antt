-- `note_sheet::time_piece` times at most 64 rows. Assumes nothing.
use mathlib.Core.Path.{refl, sym, ap, ◌∙◌}
use lib.ListN.{length}
use lib.Seq.{length-take-le}
use Rattle.order.specs.Entries.{total}
use Rattle.note_sheet.proofs.PieceByPiece.{front-beats, beats-many, piece_ran}
use Rattle.note_sheet.proofs.time_piece.Goals as goal

pub slice_bounds-run_checked-end : goal.slice_bounds-run_checked-end
slice_bounds-run_checked-end c = beats-many c.requires _ (front-beats c.args.rows.now _ c.beats_of.new.out c.beats_of.ensures c.requires.few)

pub slice_bounds-counts-end : goal.slice_bounds-counts-end
slice_bounds-counts-end c = (piece_ran c.requires _ (front-beats c.args.rows.now _ c.beats_of.new.out c.beats_of.ensures c.requires.few) c.run_checked-ran.result _ c.run_checked-ran.new.numbers _ c.run_checked-ran.new.times _ c.run_checked-ran.new.counts refl refl refl c.run_checked-ran.ensures).many

pub slice_bounds-sum-end : goal.slice_bounds-sum-end
slice_bounds-sum-end c = sym (length-take-le (length c.args.rows.now) _ (piece_ran c.requires _ (front-beats c.args.rows.now _ c.beats_of.new.out c.beats_of.ensures c.requires.few) c.run_checked-ran.result _ c.run_checked-ran.new.numbers _ c.run_checked-ran.new.times _ c.run_checked-ran.new.counts refl refl refl c.run_checked-ran.ensures).many)

pub sum-steps-requires : goal.sum-steps-requires
sum-steps-requires c = rw (piece_ran c.requires _ (front-beats c.args.rows.now _ c.beats_of.new.out c.beats_of.ensures c.requires.few) c.run_checked-ran.result _ c.run_checked-ran.new.numbers _ c.run_checked-ran.new.times _ c.run_checked-ran.new.counts refl refl refl c.run_checked-ran.ensures).counts c.requires.fits

pub returns : goal.returns
returns c = let p = piece_ran c.requires _ (front-beats c.args.rows.now _ c.beats_of.new.out c.beats_of.ensures c.requires.few) c.run_checked-ran.result _ c.run_checked-ran.new.numbers _ c.run_checked-ran.new.times _ c.run_checked-ran.new.counts refl refl refl c.run_checked-ran.ensures in record { cursor = p.cursor; steps = c.sum-steps.ensures ∙ ap total p.counts; times = p.times }
