-- `clock_walk::last_up_to` meets its contract. Assumes nothing.
use Rattle.std.proofs.Common.{◌≡◌, true, false, get_or, sym, refl, ap, ◌∙◌, arith}
use lib.Ieee.{Float, le, nan}
use Rattle.clock_walk.proofs.LastUpTo.{beats-over, values-over, later, found}
use Rattle.clock_walk.proofs.last_up_to.Goals as goal

pub loop-i-init : goal.loop-i-init
loop-i-init c =
    record { same = refl }

pub returns-then-i-tempo_values : goal.returns-then-i-tempo_values
returns-then-i-tempo_values c =
    let a = c.args in
    let l = c.loop-i in
    values-over a.beat a.other a.tempo_beats.now a.tempo_values.now l.tempo l.i l.invariant c.if-i-tempo_values.true

pub loop-i-preserved : goal.loop-i-preserved
loop-i-preserved c =
    let a = c.args in
    let l = c.loop-i in
    let e : le (get_or a.tempo_beats.now l.i nan) a.beat ≡ true = sym (ap (λ (x : Float). le x a.beat) c.f32_to_f64_with_nan-at.ensures) ∙ c.if-at-beat.true in
    let go = found a.beat a.other a.tempo_beats.now a.tempo_values.now l.tempo l.i l.invariant c.loop-i-test.true (omega (arith, c.if-i-tempo_values.false)) e in
    rw c.f32_to_f64_with_nan-tempo.ensures go

pub returns-in-loop-i : goal.returns-in-loop-i
returns-in-loop-i c =
    let a = c.args in
    let l = c.loop-i in
    let e : le (get_or a.tempo_beats.now l.i nan) a.beat ≡ false = sym (ap (λ (x : Float). le x a.beat) c.f32_to_f64_with_nan-at.ensures) ∙ c.if-at-beat.false in
    later a.beat a.other a.tempo_beats.now a.tempo_values.now l.tempo l.i l.invariant c.loop-i-test.true (omega (arith, c.if-i-tempo_values.false)) e

pub returns : goal.returns
returns c =
    let a = c.args in
    let l = c.loop-i in
    beats-over a.beat a.other a.tempo_beats.now a.tempo_values.now l.tempo l.i l.invariant c.loop-i-test.false
