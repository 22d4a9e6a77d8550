-- `assembly_tempos::lay_lists` asks for the warps' number and for every room, and then lays the three lists, warps with their marks. Assumes nothing.
use Prim.Native.Nat.{ℕ, ◌≤◌, min}
use mathlib.Core.Path.{◌≡◌, refl, sym, ap, ◌∙◌}
use native.Mathlib.Omega.{arith}
use lib.ListN.{length}
use Rattle.limits.specs.Refusals.{lower}
use Rattle.process_raw.specs.LentLists.{ThreeColumns, three_columns}
use Rattle.process_raw.specs.RawLists.{room_for}
use Rattle.process.specs.ByFormat.{ThreeLists}
use Rattle.assembly_tempos.specs.AssembledTempos.{assembled_tempos, assembled_stops, assembled_warps, fit_number, three_rooms}
use Rattle.assembly_tempos.specs.inside.ProcessedColumns.{lists_of}
use Rattle.assembly_tempos.proofs.Ends.{too_many, later-refused, all_laid}
use Rattle.assembly_tempos.proofs.OnRows.{on_row_held}
use Rattle.assembly_tempos.proofs.ProcessedColumns.{warps-count, tempos-laid, stops-laid, AllFit, all_fit}
use Rattle.assembly_tempos.proofs.WarpsWithMarks.{warps-fit, list_written, marks-written, moved-written}
use Rattle.assembly_tempos.proofs.lay_lists.Goals as goal
use Rattle.assembly_tempos.proofs.lay_lists.Goals.{After-lower_of-number, Else-number-ne-TAKEN, Start}

-- ---- what is given
abbrev columns : Start → ThreeColumns
columns s = three_columns s.args.tempo_beats.now s.args.tempo_values.now s.args.stop_beats.now s.args.stop_values.now s.args.warp_beats.now s.args.warp_lengths.now

abbrev lists : Start → ThreeLists
lists s = lists_of (columns s) s.args.offset

abbrev tempo_room : Start → ℕ
tempo_room s = room_for s.args.out_tempo_beats.now s.args.out_tempo_values.now

abbrev stop_room : Start → ℕ
stop_room s = room_for s.args.out_stop_beats.now s.args.out_stop_values.now

abbrev warp_room : Start → ℕ
warp_room s = min (room_for s.args.out_warp_beats.now s.args.out_warp_lengths.now) (length s.args.out_warp_marks.now)

-- ---- once the rooms are asked
abbrev start : After-lower_of-number → Start
start c = (goal.at.After-lower_of-number c).Start

few-enough : (c : After-lower_of-number) → length (lists (start c)).warps ≤ min (start c).args.most_warps 1024
few-enough c = omega (arith, warps-count (columns (start c)) (start c).args.offset (start c).requires.0, c.room_of.ensures, c.if-warp_beats-room_of.false)

few : (c : After-lower_of-number) → length (start c).args.warp_beats.now ≤ 1024
few c = omega (arith, c.room_of.ensures, c.if-warp_beats-room_of.false)

number_is : (c : After-lower_of-number) → c.lower_of-number.result ≡ lower (start c).args.later (three_rooms (lists (start c)) (tempo_room (start c)) (stop_room (start c)) (warp_room (start c)))
number_is c =
    c.lower_of-number.ensures
    ∙ ap (lower (start c).args.later) (rw (c.room_of-2.ensures, c.room_of-3.ensures, c.room_of-5.ensures, c.room_of-4.ensures) at (c.rooms_number-rooms.ensures (start c).args.offset))

none : (c : Else-number-ne-TAKEN) → lower (start (goal.at.Else-number-ne-TAKEN c).After-lower_of-number).args.later (three_rooms (lists (start (goal.at.Else-number-ne-TAKEN c).After-lower_of-number)) (tempo_room (start (goal.at.Else-number-ne-TAKEN c).After-lower_of-number)) (stop_room (start (goal.at.Else-number-ne-TAKEN c).After-lower_of-number)) (warp_room (start (goal.at.Else-number-ne-TAKEN c).After-lower_of-number))) ≡ 0
none c = sym (number_is (goal.at.Else-number-ne-TAKEN c).After-lower_of-number) ∙ c.if-number-ne-TAKEN.false

fit : (c : Else-number-ne-TAKEN) → AllFit (start (goal.at.Else-number-ne-TAKEN c).After-lower_of-number).args.later (fit_number (assembled_tempos (lists (start (goal.at.Else-number-ne-TAKEN c).After-lower_of-number))) (tempo_room (start (goal.at.Else-number-ne-TAKEN c).After-lower_of-number))) (fit_number (assembled_stops (lists (start (goal.at.Else-number-ne-TAKEN c).After-lower_of-number))) (stop_room (start (goal.at.Else-number-ne-TAKEN c).After-lower_of-number))) (fit_number (assembled_warps (lists (start (goal.at.Else-number-ne-TAKEN c).After-lower_of-number))) (warp_room (start (goal.at.Else-number-ne-TAKEN c).After-lower_of-number)))
fit c = all_fit _ _ _ _ (none c)

pub returns-then-warp_beats-room_of : goal.returns-then-warp_beats-room_of
returns-then-warp_beats-room_of c =
    let s = c in
    rw c.refused.ensures (too_many 0 s.args.later s.args.most_warps (lists (goal.at.returns-then-warp_beats-room_of s).Start) refl (omega (arith, warps-count (columns (goal.at.returns-then-warp_beats-room_of s).Start) s.args.offset s.requires.0, c.room_of.ensures, c.if-warp_beats-room_of.true)))

pub rooms_number-rooms-requires : goal.rooms_number-rooms-requires
rooms_number-rooms-requires c = (c.requires.0, omega (arith, c.room_of.ensures, c.if-warp_beats-room_of.false))

pub returns-then-number-ne-TAKEN : goal.returns-then-number-ne-TAKEN
returns-then-number-ne-TAKEN c =
    let at = c in
    let s = start (goal.at.returns-then-number-ne-TAKEN at).After-lower_of-number in
    rw c.refused-then-number-ne-TAKEN.ensures (later-refused 0 s.args.later s.args.most_warps (lists s) refl (few-enough (goal.at.returns-then-number-ne-TAKEN at).After-lower_of-number) (number_is (goal.at.returns-then-number-ne-TAKEN at).After-lower_of-number) c.if-number-ne-TAKEN.true)

pub cast_column-requires : goal.cast_column-requires
cast_column-requires c = on_row_held c.args.tempo_beats.now c.requires.0.tempos_on_rows

pub narrow_values-requires : goal.narrow_values-requires
narrow_values-requires c = c.requires.1

pub assemble_stops-stops-requires : goal.assemble_stops-stops-requires
assemble_stops-stops-requires c = (c.requires.0.stops, c.requires.0.on_rows, c.requires.2)

pub lay_warps-warps-requires : goal.lay_warps-warps-requires
lay_warps-warps-requires c =
    let at = c in
    let s = start (goal.at.lay_warps-warps-requires at).After-lower_of-number in
    warps-fit (columns s) s.args.offset s.requires.0 (few (goal.at.lay_warps-warps-requires at).After-lower_of-number) s.args.warp_marks.now s.args.made s.requires.3 (length s.args.out_warp_beats.now) (length s.args.out_warp_lengths.now) (length s.args.out_warp_marks.now) (fit (goal.at.lay_warps-warps-requires at).Else-number-ne-TAKEN).warp_fit

pub shape_of-out_tempo_beats : goal.shape_of-out_tempo_beats
shape_of-out_tempo_beats c = c.out_tempo_beats-1.given

pub shape_of-out_tempo_values : goal.shape_of-out_tempo_values
shape_of-out_tempo_values c = c.out_tempo_values-1.given

pub shape_of-out_stop_beats : goal.shape_of-out_stop_beats
shape_of-out_stop_beats c = c.out_stop_beats-1.given

pub shape_of-out_stop_values : goal.shape_of-out_stop_values
shape_of-out_stop_values c = c.out_stop_values-1.given

pub shape_of-out_warp_beats : goal.shape_of-out_warp_beats
shape_of-out_warp_beats c = c.out_warp_beats-1.given

pub shape_of-out_warp_lengths : goal.shape_of-out_warp_lengths
shape_of-out_warp_lengths c = c.out_warp_lengths-1.given

pub shape_of-out_warp_marks : goal.shape_of-out_warp_marks
shape_of-out_warp_marks c = c.out_warp_marks-1.given

pub returns : goal.returns
returns c =
    let at = c in
    let s = start (goal.at.returns at).After-lower_of-number in
    let p = s.requires.0 in
    let warps = c.lay_warps-warps.ensures in
    all_laid 0 s.args.later s.args.most_warps (lists s) refl (few-enough (goal.at.returns at).After-lower_of-number) (none (goal.at.returns at).Else-number-ne-TAKEN)
    (tempos-laid (columns s) s.args.offset p (fit (goal.at.returns at).Else-number-ne-TAKEN).tempo_fit c.cast_column.ensures c.narrow_values.ensures)
    (stops-laid (columns s) s.args.offset p (fit (goal.at.returns at).Else-number-ne-TAKEN).stop_fit c.assemble_stops-stops.ensures)
    (list_written (columns s) s.args.offset p warps)
    (marks-written (columns s) s.args.offset p warps)
    c.narrow_f64.ensures
    (moved-written (columns s) s.args.offset p warps)
