-- `lookup::judge` moves a cursor on to a row and answers. Assumes nothing.
use Rattle.std.proofs.Common.{Bool, sym, ap, ◌∙◌, w32}
use mir.ValLaws.{to_z-of_z}
use Rattle.lookup_tests.specs.LookupLists.{LookupLists, lookup_lists, but_fakes}
use Rattle.lookup.specs.Lookups.{byte}
use borrow.Author.Tests.{not-true, not-false}
use Rattle.lookup.proofs.HeldSpans.{in_fake_lem, warped-inside, warped-outside, judged}
use Rattle.lookup.proofs.judge.Goals as goal
use Rattle.lookup.proofs.judge.Goals.{Start}

abbrev lists_at : Start → LookupLists
lists_at start =
    lookup_lists start.args.stop_beats.now start.args.stop_values.now start.args.delay_beats.now start.args.delay_values.now start.args.warp_beats.now start.args.warp_lengths.now start.args.fake_beats.now start.args.fake_lengths.now

pub reach_warp-warps-requires : goal.reach_warp-warps-requires
reach_warp-warps-requires c = (c.requires.0.warps, c.requires.1.warps)

pub reach_fake-fakes-requires : goal.reach_fake-fakes-requires
reach_fake-fakes-requires c = (c.requires.0.fakes, c.requires.1.fakes)

pub returns-then-not-covers : goal.returns-then-not-covers
returns-then-not-covers c =
    let start = c in
    let back = to_z-of_z w32 start.args.row start.ranges.row in
    let key = rw back at c.key_of_row-key.ensures in
    let beat = rw back at c.note_row_to_beat_f32-at.ensures in
    let warps = c.reach_warp-warps in
    let fakes = c.reach_fake-fakes in
    let fake = in_fake_lem start.args.row fakes.result.count fakes.result.start fakes.result.end start.args.fake_beats.now start.args.fake_lengths.now start.requires.0.fakes (rw key at fakes.ensures.1) fakes.ensures.0.first fakes.ensures.0.last ∙ sym (rw beat at c.covers-is_fake.ensures) in
    let warped = warped-outside start.args.row warps.result.count warps.result.start warps.result.end (but_fakes (lists_at (goal.at.returns-then-not-covers start).Start)) start.requires.0.warps (rw key at warps.ensures.1) warps.ensures.0.first warps.ensures.0.last (sym (rw beat at c.covers.ensures) ∙ not-true c.covers.result c.if-not-covers.true-raw) in
    (record { stops = start.requires.1.stops; delays = start.requires.1.delays; warps = warps.ensures.0; fakes = fakes.ensures.0 }, c.byte_of.ensures ∙ ap (λ (t : Bool). byte t) (sym (judged (lists_at (goal.at.returns-then-not-covers start).Start) start.args.row _ _ warped fake)))

pub reach-stops-requires : goal.reach-stops-requires
reach-stops-requires c =
    record {
      beats_value = c.requires.0.stops.1;
      stands = c.requires.1.stops;
    }

pub reach-delays-requires : goal.reach-delays-requires
reach-delays-requires c =
    record {
      beats_value = c.requires.0.delays.1;
      stands = c.requires.1.delays;
    }

pub is_unpaused-unpaused-requires : goal.is_unpaused-unpaused-requires
is_unpaused-unpaused-requires c =
    record {
      usable = (c.requires.0.stops, c.reach-stops.ensures.0, c.reach-stops.ensures.1);
      usable_2 = (c.requires.0.delays, c.reach-delays.ensures.0, c.reach-delays.ensures.1);
    }

pub returns : goal.returns
returns c =
    let start = c in
    let back = to_z-of_z w32 start.args.row start.ranges.row in
    let key = rw back at c.key_of_row-key.ensures in
    let beat = rw back at c.note_row_to_beat_f32-at.ensures in
    let warps = c.reach_warp-warps in
    let fakes = c.reach_fake-fakes in
    let fake = in_fake_lem start.args.row fakes.result.count fakes.result.start fakes.result.end start.args.fake_beats.now start.args.fake_lengths.now start.requires.0.fakes (rw key at fakes.ensures.1) fakes.ensures.0.first fakes.ensures.0.last ∙ sym (rw beat at c.covers-is_fake.ensures) in
    let warped = warped-inside start.args.row warps.result.count warps.result.start warps.result.end (but_fakes (lists_at (goal.at.returns start).Start)) start.requires.0.warps (rw key at warps.ensures.1) warps.ensures.0.first warps.ensures.0.last (sym (rw beat at c.covers.ensures) ∙ not-false c.covers.result c.if-not-covers.false-raw) ∙ sym (rw key at c.is_unpaused-unpaused.ensures) in
    (record { stops = c.reach-stops.ensures.0; delays = c.reach-delays.ensures.0; warps = warps.ensures.0; fakes = fakes.ensures.0 }, c.byte_of-2.ensures ∙ ap (λ (t : Bool). byte t) (c.neither.ensures ∙ sym (judged (lists_at (goal.at.returns start).Start) start.args.row _ _ warped fake)))
