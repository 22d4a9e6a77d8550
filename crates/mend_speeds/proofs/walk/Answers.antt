-- `mend_speeds::walk` meets its contract, place by place in the order of rows. Assumes nothing.
use mathlib.Core.Path.{◌≡◌, refl, sym, ◌∙◌}
use mathlib.Core.List.{List}
use native.Mathlib.Omega.{arith}
use lib.ListN.{length}
use Rattle.tidy_speeds_entries.specs.Speed.{SpeedValue, near_speed, no_speed, speed_values}
use Rattle.mend_fates.proofs.BeatsWalked.{kept-long, work-sorted, walking_begins, as_many, walking_turns, walking_ends}
use Rattle.mend_speeds.proofs.SpeedAtPlace.{values-long}
use Rattle.mend_speeds.proofs.walk.Goals as goal
use Rattle.mend_speeds.proofs.walk.Goals.{At-loop-i, Start}

-- the entry of the function, from the loop
abbrev start : (at : At-loop-i) → Start
start at = (goal.at.At-loop-i at).Start

abbrev values : Start → List SpeedValue
values s = speed_values s.args.ratios.now s.args.delays.now s.args.units.now

even : (s : Start) → length s.args.beats.now ≡ length (values s)
even s = s.requires.beats_len.0 ∙ sym (values-long s.requires.beats_len.1)

pub loop-i-init : goal.loop-i-init
loop-i-init c =
    let begin = c in
    (refl, walking_begins no_speed near_speed begin.args.beats.now (values (goal.at.loop-i-init begin).Start) (even (goal.at.loop-i-init begin).Start) begin.requires.work_for.kept_long)

pub fate_at-fate-requires : goal.fate_at-fate-requires
fate_at-fate-requires c = (c.loop-i-test.true, (start (goal.at.fate_at-fate-requires c).At-loop-i).requires.beats_len.1)

pub loop-i-preserved : goal.loop-i-preserved
loop-i-preserved c =
    let settled = c in
    let asked = settled in
    let at = asked in
    let begin = start (goal.at.loop-i-preserved at).At-loop-i in
    let beats = begin.args.beats.now in
    let few = begin.requires.work_for.few in
    let sorted = work-sorted beats begin.requires.work_for at.sort_places.ensures.numbers_after in
    let more = as_many no_speed near_speed beats (values begin) (even begin) few sorted in
    let left = settled.settle-count.ensures in (
      kept-long asked.fate_at-fate.result at.loop-i.count _ at.loop-i.kept left.kept_after ∙ at.loop-i.invariant.0,
      walking_turns no_speed near_speed beats (values begin) (even begin) few sorted at.loop-i.invariant.1 (omega (arith, asked.loop-i-test.true, more)) asked.fate_at-fate.ensures left.fates_after left.kept_after left.value,
    )

pub returns : goal.returns
returns c =
    let at = c in
    let begin = start (goal.at.returns at).At-loop-i in
    let beats = begin.args.beats.now in
    let sorted = work-sorted beats begin.requires.work_for at.sort_places.ensures.numbers_after in
    let more = as_many no_speed near_speed beats (values begin) (even begin) begin.requires.work_for.few sorted in
    walking_ends no_speed near_speed beats (values begin) (even begin) at.loop-i.invariant.1 (omega (arith, c.loop-i-test.false, more)) begin.requires.work_for.fates_long
