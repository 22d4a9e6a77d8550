-- `mend_speeds::near_last` compares with the entry kept last, if there is one. Assumes nothing.
use mathlib.Core.Path.{sym, ap, ◌∙◌}
use Prim.Native.Nat.{ℕ}
use lib.ListN.{get_or}
use borrow.Author.Tests.{eq-eqb, ne_eqb}
use Rattle.tidy_speeds_entries.specs.Speed.{SpeedValue, speed_value_of, near_speed, no_speed, speed_values}
use Rattle.mend_speeds.proofs.SpeedAtPlace.{speed_at_place}
use Rattle.mend_speeds.proofs.near_last.Goals as goal

pub returns-then-count-eq0 : goal.returns-then-count-eq0
returns-then-count-eq0 c = rw (eq-eqb c.args.count 0 c.if-count-eq0.true)

pub returns : goal.returns
returns c =
    let here = c in
    let last = here in
    let start = last in
    let given = start.args in
    let values = speed_values given.ratios.now given.delays.now given.units.now in
    let at = speed_at_place start.requires in
    rw (ne_eqb given.count 0 last.if-count-eq0.false)
    (c.near.ensures
    ∙ ap (λ (v : SpeedValue). near_speed v (speed_value_of c.speed_at-other.result)) (here.speed_at-speed.ensures ∙ sym (at given.place))
    ∙ ap (near_speed (get_or values given.place no_speed)) (c.speed_at-other.ensures ∙ sym (at last.place_at-last.result) ∙ ap (λ (p : ℕ). get_or values p no_speed) last.place_at-last.ensures))
