-- `assembly_scrolls::assemble_by` quantises and counts the beats, and assembles by them. Assumes nothing.
use mathlib.Core.Path.{◌≡◌, sym, ◌∙◌}
use mathlib.Core.List.{map}
use Rattle.rows.specs.Rows.{quantized}
use Rattle.columns.proofs.LaidEach.{laid-all}
use Rattle.columns_each.specs.OffGrid.{moved_in}
use Rattle.columns_each.proofs.OffGridCounts.{whole-counted, handed_up}
use borrow.Author.Rules.{rules}
use Rattle.assembly_scrolls.proofs.assemble_by.Goals as goal
use Rattle.assembly_scrolls.proofs.assemble_by.Goals.{After-quantize_beats-off, Start}

-- ---- once the beats are quantised
abbrev start : After-quantize_beats-off → Start
start c = (goal.at.After-quantize_beats-off c).Start

beats-are : (c : After-quantize_beats-off) → c.quantize_beats-off.new.to ≡ map quantized (start c).args.beats.now
beats-are c = let s = start c in c.quantize_beats-off.ensures.to_after ∙ laid-all quantized s.args.beats.now s.args.quantised.now (sym s.requires.2)

counted : (c : After-quantize_beats-off) → c.quantize_beats-off.result ≡ moved_in (start c).args.beats.now
counted c = let s = start c in c.quantize_beats-off.ensures.value ∙ whole-counted s.args.beats.now s.args.quantised.now s.requires.2 s.requires.0

pub assemble_quantised-outcome-requires : goal.assemble_quantised-outcome-requires
assemble_quantised-outcome-requires c = let q = c in ((start (goal.at.assemble_quantised-outcome-requires q).After-quantize_beats-off).requires.0, (start (goal.at.assemble_quantised-outcome-requires q).After-quantize_beats-off).requires.1, beats-are (goal.at.assemble_quantised-outcome-requires q).After-quantize_beats-off)

pub returns : goal.returns
returns c =
    let q = c in
    let up = c.with_moved in
    record {
      scrolls_untested = rw up.ensures.0 c.assemble_quantised-outcome.ensures;
      moved_value = handed_up q.quantize_beats-off.result (moved_in (start (goal.at.returns q).After-quantize_beats-off).args.beats.now) up.ensures.0 up.ensures.1 (counted (goal.at.returns q).After-quantize_beats-off);
    }
