-- Work columns that are long enough have room for the walk, so that lists are refused by their own tests alone. Assumes nothing.
use Rattle.std.proofs.Common.{◌≡◌, List, length, arith}
use native.Mathlib.Nat.{le-max_left, le-max_right, max-le, min-le_left, min-le_right}
use lib.Ieee.{Float}
use Rattle.process_raw.specs.LentLists.{two_columns, ThreeColumns}
use Rattle.process_raw.specs.RawLists.{raw_numbers}
use Rattle.process_raw.proofs.BothTaken.{both-taken}
use Rattle.process_sm_changes.specs.SmChanges.{sm_changes}
use Rattle.process_sm_walk.specs.Columns.{Columns, columns, most_written}
use Rattle.process_sm_walk.specs.inside.Rooms.{Room}
use Rattle.process_sm.specs.inside.Rooms.{WalkRooms}
use Rattle.process_sm_laws.proofs.ChangesTaken.{few-changes}
use Rattle.process_raw.specs.declared.Processed.{Processed}
use Rattle.process_sm_walk_raw.proofs.Numbers.{number_with_room}
use Rattle.process_sm_lent.specs.Lent.{LentLaid}
use Rattle.process_sm.specs.Sm.{SmLaid}

-- room for the walk
pub room_for_lem : (tb tv sb sv : List Float) {wtb wtv wsb wsv wwb wwl : List Float} → WalkRooms (two_columns tb tv sb sv) (columns wtb wtv wsb wsv wwb wwl) → raw_numbers tb tv sb sv ≡ 0
    → Room (most_written (length (sm_changes tb tv)) (length (sm_changes sb sv))) (columns wtb wtv wsb wsv wwb wwl)
room_for_lem tb tv sb sv {wtb} {wtv} {wsb} {wsv} {wwb} {wwl} w h =
    let both = both-taken h in
    let t = few-changes tb tv both.tempos in
    let s = few-changes sb sv both.stops in
    let rt = w.tempos h in let rs = w.stops h in let rw-room = w.warps h in
    let l = le-max_left (length tb) 1 in let m = le-max_right (length tb) 1 in
    record {
      tempo_beats = max-le {a = length (sm_changes tb tv)} {b = 1} {k = length wtb} (omega (arith, min-le_left (length wtb) (length wtv))) (omega (arith, min-le_left (length wtb) (length wtv)));
      tempo_values = max-le {a = length (sm_changes tb tv)} {b = 1} {k = length wtv} (omega (arith, min-le_right (length wtb) (length wtv))) (omega (arith, min-le_right (length wtb) (length wtv)));
      stop_beats = omega (arith, min-le_left (length wsb) (length wsv));
      stop_values = omega (arith, min-le_right (length wsb) (length wsv));
      warp_beats = omega (arith, min-le_left (length wwb) (length wwl));
      warp_lengths = omega (arith, min-le_right (length wwb) (length wwl));
    }

-- by the tests of both lists, where the work columns have room
pub with_room : {tb tv sb sv : List Float} {outcome : Processed} {wtb wtv wsb wsv wwb wwl : List Float} {work_new : Columns} {old new : ThreeColumns}
    → LentLaid (two_columns tb tv sb sv) outcome (columns wtb wtv wsb wsv wwb wwl) work_new old new
    → WalkRooms (two_columns tb tv sb sv) (columns wtb wtv wsb wsv wwb wwl) → SmLaid (two_columns tb tv sb sv) outcome old new
with_room {tb} {tv} {sb} {sv} {outcome} {wtb} {wtv} {wsb} {wsv} {wwb} {wwl} p w = rw (number_with_room tb tv sb sv (columns wtb wtv wsb wsv wwb wwl) (room_for_lem tb tv sb sv w)) at p.lists
