-- `order_search::entries_passed` counts entry by entry. Assumes nothing.
use Rattle.std.proofs.Common.{◌≡◌, ℕ, ◌+◌, ◌-◌, ◌≤◌, List, get_or, refl, ap, ◌∙◌, arith}
use Rattle.std.proofs.Common.{take, drop, length, length-drop, ◌<◌}
use Rattle.std.proofs.lemmas.List.{get_or-drop, get_or-take, length-take}
use lib.Ieee.{Float, nan}
use Rattle.order_search.specs.Search.{how_many}
use Rattle.order_search.proofs.HowMany.{how_many_most, one_more}
use Rattle.order_search.proofs.entries_passed.Goals as goal
use Rattle.order_search.proofs.entries_passed.Invariants.{passes}

length_few : (column : List Float) (base size : ℕ) → base + size ≤ length column → length (take (base + size - base) (drop base column)) ≡ size
length_few column base size h = simp (length-take, length-drop) (omega arith)

entry_at : (column : List Float) (base size i : ℕ) → i < size → get_or (take (base + size - base) (drop base column)) i nan ≡ get_or column (base + i) nan
entry_at column base size i h = get_or-take (base + size - base) (drop base column) i nan (omega arith) ∙ get_or-drop base column i nan

pub loop-entry-init : goal.loop-entry-init
unfolding how_many
loop-entry-init c = refl

pub overflow_add-passed : goal.overflow_add-passed
overflow_add-passed c =
    let g = c.args in
    let i = c.loop-entry.entry-index in
    record { fits = omega (arith, how_many_most (passes g.column.now g.base g.at) i, length_few g.column.now g.base g.size c.requires.0) }

pub loop-entry-preserved : goal.loop-entry-preserved
loop-entry-preserved c =
    let g = c.args in
    let i = c.loop-entry.entry-index in
    let below : i < g.size = omega (arith, length_few g.column.now g.base g.size c.requires.0) in
    rw (c.loop-entry.invariant, c.counted-passed.ensures.0, entry_at g.column.now g.base g.size i below) (one_more (passes g.column.now g.base g.at) i)

pub returns : goal.returns
returns c =
    let g = c.args in
    let all : c.loop-entry.entry-index ≡ g.size = omega (arith, length_few g.column.now g.base g.size c.requires.0) in
    c.loop-entry.invariant ∙ ap (how_many (passes g.column.now g.base g.at)) all
