-- `assembly_speeds::assemble_by` quantises and counts the beats, and assembles by them. Assumes nothing.
use mathlib.Core.Path.{◌≡◌, sym, ◌∙◌}
use mathlib.Core.List.{map}
use Rattle.rows.specs.Rows.{quantized}
use Rattle.columns.proofs.LaidEach.{laid-all}
use Rattle.columns_each.specs.OffGrid.{moved_in}
use Rattle.columns_each.proofs.OffGridCounts.{whole-counted, handed_up}
use borrow.Author.Rules.{rules}
use Rattle.assembly_speeds.proofs.assemble_by.Goals as goal
use Rattle.assembly_speeds.proofs.assemble_by.Goals.{After-quantize_beats-off, Start}

-- ---- once the beats are quantised
abbrev start : After-quantize_beats-off → Start
start c = (goal.at.After-quantize_beats-off c).Start

beats-are : (c : After-quantize_beats-off) → c.quantize_beats-off.new.to ≡ map quantized (start c).args.beats.now
beats-are c = let s = start c in c.quantize_beats-off.ensures.to_after ∙ laid-all quantized s.args.beats.now s.args.quantised.now (sym s.requires.beats_len_bound.1)

counted : (c : After-quantize_beats-off) → c.quantize_beats-off.result ≡ moved_in (start c).args.beats.now
counted c = let s = start c in c.quantize_beats-off.ensures.value ∙ whole-counted s.args.beats.now s.args.quantised.now s.requires.beats_len_bound.1 s.requires.beats_len_bound.0

pub assemble_quantised-outcome-requires : goal.assemble_quantised-outcome-requires
assemble_quantised-outcome-requires c = let q = c in
    record {
      even_speeds = (start (goal.at.assemble_quantised-outcome-requires q).After-quantize_beats-off).requires.even_speeds;
      beats_len_bound = ((start (goal.at.assemble_quantised-outcome-requires q).After-quantize_beats-off).requires.beats_len_bound.0, beats-are (goal.at.assemble_quantised-outcome-requires q).After-quantize_beats-off);
    }

pub returns : goal.returns
returns c =
    let q = c in
    let up = c.with_moved in
    record {
      fact = rw up.ensures.0 c.assemble_quantised-outcome.ensures;
      moved_value = handed_up q.quantize_beats-off.result (moved_in (start (goal.at.returns q).After-quantize_beats-off).args.beats.now) up.ensures.0 up.ensures.1 (counted (goal.at.returns q).After-quantize_beats-off);
    }
