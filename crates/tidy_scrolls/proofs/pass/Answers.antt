-- `tidy_scrolls::pass` meets its contract. Assumes nothing.
use Rattle.tidy_scrolls.specs.inside.Ways.{scroll_waiting}
use Rattle.tidy_kept.proofs.PassTurns.{passed_later, passed_away, passed-by, passed_over, passed-alone}
use Rattle.tidy_kept.specs.Near.{near_to}
use Rattle.rows.specs.RowKey.{row_key_at}
use lib.Ieee.{Float}
use native.Mathlib.Omega.{arith}
use mathlib.Core.Path.{sym, ◌∙◌}
use Rattle.tidy_scrolls.proofs.pass.Goals as goal

pub returns-then-held-row : goal.returns-then-held-row
returns-then-held-row c =
    let g = c in
    let s = scroll_waiting g.args.held in
    let e : Float × Float = (g.args.beat, g.args.value) in
    c.come.ensures ∙ sym (passed_later row_key_at near_to s e c.if-held.true (omega (arith, g.requires)))

pub returns-then-near : goal.returns-then-near
returns-then-near c =
    let g = c in
    let s = scroll_waiting g.args.held in
    let e : Float × Float = (g.args.beat, g.args.value) in
    c.come-then-near.ensures ∙ sym (passed_away row_key_at near_to s e c.if-held.true (omega (arith, g.requires)) (sym c.near.ensures ∙ c.if-near.true))

pub returns-then-near-2 : goal.returns-then-near-2
returns-then-near-2 c =
    let g = c in
    let s = scroll_waiting g.args.held in
    let e : Float × Float = (g.args.beat, g.args.value) in
    sym (passed-by row_key_at near_to s e c.if-held.true (omega (arith, g.requires)) (sym c.near.ensures ∙ c.if-near.false) (sym c.near-then-held.ensures ∙ c.if-near-2.true))

pub returns-then-held : goal.returns-then-held
returns-then-held c =
    let g = c in
    let s = scroll_waiting g.args.held in
    let e : Float × Float = (g.args.beat, g.args.value) in
    c.come-then-held.ensures ∙ sym (passed_over row_key_at near_to s e c.if-held.true (omega (arith, g.requires)) (sym c.near.ensures ∙ c.if-near.false) (sym c.near-then-held.ensures ∙ c.if-near-2.false))

pub returns : goal.returns
returns c =
    let g = c in
    let s = scroll_waiting g.args.held in
    let e : Float × Float = (g.args.beat, g.args.value) in
    c.come-2.ensures ∙ sym (passed-alone row_key_at near_to s e c.if-held.false)
