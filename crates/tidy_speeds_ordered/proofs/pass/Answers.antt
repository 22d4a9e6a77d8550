-- `tidy_speeds_ordered::pass` meets its contract. Assumes nothing.
use mathlib.Core.Path.{sym, ◌∙◌}
use native.Mathlib.Omega.{arith}
use lib.Ieee.{Float}
use Rattle.rows.specs.RowKey.{row_key_at}
use Rattle.tidy_kept.proofs.PassTurns.{passed_later, passed_away, passed-by, passed_over, passed-alone}
use Rattle.tidy_speeds_entries.specs.Speed.{SpeedValue, speed_value_of, near_speed}
use Rattle.tidy_speeds_ordered.specs.inside.Waiting.{speed_waiting}
use Rattle.tidy_speeds_ordered.proofs.pass.Goals as goal

pub returns-then-held-row : goal.returns-then-held-row
returns-then-held-row c =
    let g = c in
    let s = speed_waiting g.args.held in
    let e : Float × SpeedValue = (g.args.beat, speed_value_of g.args.value) in
    c.come.ensures ∙ sym (passed_later row_key_at near_speed s e c.if-held.true (omega (arith, g.requires)))

pub returns-then-near : goal.returns-then-near
returns-then-near c =
    let g = c in
    let s = speed_waiting g.args.held in
    let e : Float × SpeedValue = (g.args.beat, speed_value_of g.args.value) in
    c.come-then-near.ensures ∙ sym (passed_away row_key_at near_speed s e c.if-held.true (omega (arith, g.requires)) (sym c.near.ensures ∙ c.if-near.true))

pub returns-then-near-2 : goal.returns-then-near-2
returns-then-near-2 c =
    let g = c in
    let s = speed_waiting g.args.held in
    let e : Float × SpeedValue = (g.args.beat, speed_value_of g.args.value) in
    sym (passed-by row_key_at near_speed s e c.if-held.true (omega (arith, g.requires)) (sym c.near.ensures ∙ c.if-near.false) (sym c.near-then-held.ensures ∙ c.if-near-2.true))

pub returns-then-held : goal.returns-then-held
returns-then-held c =
    let g = c in
    let s = speed_waiting g.args.held in
    let e : Float × SpeedValue = (g.args.beat, speed_value_of g.args.value) in
    c.come-then-held.ensures ∙ sym (passed_over row_key_at near_speed s e c.if-held.true (omega (arith, g.requires)) (sym c.near.ensures ∙ c.if-near.false) (sym c.near-then-held.ensures ∙ c.if-near-2.false))

pub returns : goal.returns
returns c =
    let g = c in
    let s = speed_waiting g.args.held in
    let e : Float × SpeedValue = (g.args.beat, speed_value_of g.args.value) in
    c.come-2.ensures ∙ sym (passed-alone row_key_at near_speed s e c.if-held.false)
