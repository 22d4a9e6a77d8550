-- `assembly_tempos::lay_warps_in` merges the marks into a column as long as the list, and lays the warps with those. Assumes nothing.
use Prim.Native.Nat.{ℕ}
use mathlib.Core.Path.{◌≡◌, sym, ◌∙◌}
use mathlib.Core.List.{map-id}
use Rattle.columns.proofs.LaidEach.{laid-all}
use Rattle.assembly_marks.specs.AssembledMarks.{merged_marks}
use Rattle.assembly_tempos.proofs.lay_warps_in.Goals as goal
use Rattle.assembly_tempos.proofs.lay_warps_in.Goals.{After-merge_marks}

merged : (c : After-merge_marks) → c.merge_marks.new.out ≡ merged_marks c.args.marks.now c.args.made
merged c =
    let s = c in
    let all = merged_marks s.args.marks.now s.args.made in
    c.merge_marks.ensures ∙ laid-all (λ (m : ℕ). m) all s.args.merged.now (sym s.requires.fact.even ∙ sym s.requires.merged_len) ∙ map-id all

pub lay_merged-requires : goal.lay_merged-requires
lay_merged-requires c = rw (merged (goal.at.lay_merged-requires c).After-merge_marks) c.requires.fact

pub returns : goal.returns
returns c = rw (merged (goal.at.returns c).After-merge_marks) at c.lay_merged.ensures
