-- `clock_by_time::answer_from` answers time by time, over the fronts of the columns. Assumes nothing.
use mathlib.Core.Bool.{Bool, true, false}
use mathlib.Core.Path.{◌≡◌, refl, ap, ◌∙◌}
use native.Mathlib.Omega.{arith}
use lib.Ieee.{nan}
use mir.Val.{bool_byte}
use Rattle.picks.specs.Pick.{pick}
use Rattle.columns.proofs.LaidEach.{begun, turned, ended}
use Rattle.chart.specs.Timing.{timing}
use Rattle.clock_by_time.specs.ManyTimes.{freeze_mark, delay_mark}
use Rattle.clock_by_time.specs.declared.BeatInfo.{BeatInfo}
use Rattle.clock_by_time.proofs.LaterTimes.{way_begins}
use Rattle.clock_by_time.proofs.answer_from.Goals as goal

pub loop-i-init : goal.loop-i-init
loop-i-init c =
    let s = c in
    let a = s.args in
    let r = s.requires in
    (begun (omega (arith, r.in_numbers)), begun (omega (arith, r.in_beats)), begun (omega (arith, r.in_freezes)), begun (omega (arith, r.in_delays)), begun (omega (arith, r.in_counts)), way_begins a.early (timing a.tempo_beats.now a.tempo_values.now a.stop_beats.now a.stop_values.now a.delay_beats.now a.delay_values.now a.warp_beats.now a.warp_lengths.now) a.start _)

as-mark : (yes : Bool) → bool_byte yes ≡ pick yes 1 0
as-mark true = refl
as-mark false = refl

pub loop-i-preserved : goal.loop-i-preserved
loop-i-preserved c =
    let turn = c in
    let at = turn in
    let step = c.answer_on-step in
    let is = step.ensures.0 in
    let more = turn.loop-i-test.true in
    let i = at.loop-i.invariant in
    (turned i.0 nan more (ap (λ (b : BeatInfo). b.number) is), turned i.1 nan more (ap (λ (b : BeatInfo). b.beat) is), turned i.2 nan more (as-mark step.result.info.is_in_freeze ∙ ap freeze_mark is), turned i.3 nan more (as-mark step.result.info.is_in_delay ∙ ap delay_mark is), turned i.4 nan more (ap (λ (b : BeatInfo). b.count) is), step.ensures.1)

pub returns : goal.returns
returns c =
    let i = c.loop-i.invariant in
    let end = c.loop-i-test.false in
    record { numbers_are = ended i.0 end; beats_are = ended i.1 end; freezes_are = ended i.2 end; delays_are = ended i.3 end; counts_are = ended i.4 end }
