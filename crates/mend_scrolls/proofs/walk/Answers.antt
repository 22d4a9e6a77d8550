-- `mend_scrolls::walk` meets its contract, place by place in the order of rows. Assumes nothing.
use mathlib.Core.Path.{refl, ◌∙◌}
use native.Mathlib.Omega.{arith}
use lib.Ieee.{nan}
use Rattle.tidy_kept.specs.Near.{near_to}
use Rattle.mend_fates.proofs.BeatsWalked.{kept-long, work-sorted, walking_begins, as_many, walking_turns, walking_ends}
use Rattle.mend_scrolls.proofs.walk.Goals as goal
use Rattle.mend_scrolls.proofs.walk.Goals.{At-loop-i, Start}

-- the entry of the function, from the loop
abbrev start : (at : At-loop-i) → Start
start at = (goal.at.At-loop-i at).Start

pub loop-i-init : goal.loop-i-init
loop-i-init c =
    let begin = c in
    (refl, walking_begins nan near_to begin.args.beats.now begin.args.values.now begin.requires.beats_len begin.requires.work_for.kept_long)

pub loop-i-preserved : goal.loop-i-preserved
loop-i-preserved c =
    let settled = c in
    let asked = settled in
    let at = asked in
    let begin = start (goal.at.loop-i-preserved at).At-loop-i in
    let beats = begin.args.beats.now in
    let few = begin.requires.work_for.few in
    let sorted = work-sorted beats begin.requires.work_for at.sort_places.ensures.numbers_after in
    let more = as_many nan near_to beats begin.args.values.now begin.requires.beats_len few sorted in
    let left = settled.settle-count.ensures in (
      kept-long asked.fate_at-fate.result at.loop-i.count _ at.loop-i.kept left.kept_after ∙ at.loop-i.invariant.0,
      walking_turns nan near_to beats begin.args.values.now begin.requires.beats_len few sorted at.loop-i.invariant.1 (omega (arith, asked.loop-i-test.true, more)) asked.fate_at-fate.ensures left.fates_after left.kept_after left.value,
    )

pub returns : goal.returns
returns c =
    let at = c in
    let begin = start (goal.at.returns at).At-loop-i in
    let beats = begin.args.beats.now in
    let sorted = work-sorted beats begin.requires.work_for at.sort_places.ensures.numbers_after in
    let more = as_many nan near_to beats begin.args.values.now begin.requires.beats_len begin.requires.work_for.few sorted in
    walking_ends nan near_to beats begin.args.values.now begin.requires.beats_len at.loop-i.invariant.1 (omega (arith, c.loop-i-test.false, more)) begin.requires.work_for.fates_long
