-- Warps that are made are written behind the given ones, whose front is filled afterwards; and a refusal leaves the rooms alone. Assumes nothing.
use Prim.Native.Nat.{ℕ, ◌+◌, ◌-◌, ◌≤◌, ◌<◌, min}
use mathlib.Core.Path.{◌≡◌, refl, sym, ap, ◌∙◌}
use mathlib.Core.Bool.{Bool, true, false}
use mathlib.Core.List.{List, [], ◌∷◌, ◌++◌, map, map-id, map-append, append_assoc, append-nil}
use native.Mathlib.Omega.{arith}
use borrow.Author.Tests.{eq-eqb, ne_eqb, eqb-true, le-leb, lt-leb, leb-true, leb-false}
use borrow.Rule.Slice.PartMut.{put_mid, put_same, same_len_mid}
use lib.Dec.{leb, eqb}
use lib.ListN.{length, take, drop, length-append, length-drop, length-map, drop_of_length-le}
use lib.Seq.{length-take-le, take_all, drop_at, drop-drop}
use lib.Ieee.{Float}
use Rattle.picks.specs.Pick.{pick}
use Rattle.limits.specs.Refusals.{lower}
use Rattle.limits.proofs.NoRefusal.{lower-none, lower_than_none}
use Rattle.order.specs.Order.{laid}
use Rattle.order.specs.Entries.{entries, first, second}
use Rattle.order.proofs.Columns.{length-entries, first-entries, second-entries}
use Rattle.columns.specs.Each.{laid_each}
use Rattle.columns.specs.Laying.{room_number, given, LaidList}
use Rattle.columns.proofs.Rooms.{list-refused, list-laid}
use Rattle.columns.proofs.EachOverFront.{each_over_front}
use Rattle.columns.proofs.OneOutcome.{one_list}
use Rattle.process_raw.specs.declared.Processed.{Processed}
use Rattle.process_raw.specs.RawLists.{raw_numbers, room_for, processed_nothing}
use Rattle.process.specs.ByFormat.{ThreeLists, ListsLaid}
use Rattle.process_sm_lent.proofs.Ends.{by_tests, for_stops, for_warps}
use Rattle.assembly_warps.specs.inside.OrNoRoom.{or_no_room}
use Rattle.chart.specs.ChartColumns.{ListColumns, list_columns}
use Rattle.process_raw.specs.LentLists.{ThreeColumns}
use Rattle.assembly_warps.specs.MergedWarps.{behind_given, ListsOver}

-- ---- the number

-- a part of a room holds some where the whole room holds them and those before them
pub same-room : (number count given part room : ℕ) → part + given ≡ room → room_number number count part ≡ room_number number (given + count) room
unfolding room_number
same-room number count given part room e = ap (λ (t : Bool). pick (eqb number 0) (pick t 0 7) number) (go (leb count part) refl)
  where
    go : (t : Bool) → leb count part ≡ t → leb count part ≡ leb (given + count) room
    go true h = h ∙ sym (le-leb (given + count) room (omega (arith, leb-true count part h)))
    go false h = h ∙ sym (lt-leb (given + count) room (omega (arith, leb-false count part h)))

pub taken-fits : {tests count room : ℕ} → 0 ≡ room_number tests count room → (tests ≡ 0) × (count ≤ room)
unfolding room_number
taken-fits {tests} {count} {room} h = go (eqb tests 0) (leb count room) refl refl h
  where
    go : (t u : Bool) → eqb tests 0 ≡ t → leb count room ≡ u → 0 ≡ pick t (pick u 0 7) tests → (tests ≡ 0) × (count ≤ room)
    go true true a b k = (eqb-true tests 0 a, leb-true count room b)
    go true false a b k = absurd (omega arith)
    go false u a b k = let z : ◌≡◌ {A = Bool} true false = sym (eq-eqb tests 0 (sym k)) ∙ a in let w : ◌≡◌ {A = ℕ} 0 1 = cc in absurd (omega arith)

-- ---- columns

module _ {A : Type 0} where
  behind-front : (x y old : List A) → x ++ laid y (drop (length x) old) ≡ laid (x ++ y) old
  unfolding laid
  behind-front x y old = rw (drop-drop, length-append, append_assoc)

  over-front : (x room rest : List A) → drop (length x) room ≡ rest → laid x room ≡ x ++ rest
  unfolding laid
  over-front x room rest e = rw e

  pub front-filled : (x y old back : List A) (at : ℕ) → at ≡ length x → at ≤ length old → back ≡ laid y (take (length old - at) (drop at old))
      → laid x (put_mid at (length old - at) old back) ≡ laid (x ++ y) old
  front-filled x y old back at a room lent =
      let rest : length (drop at old) ≤ length old - at = simp length-drop (omega arith) in
      let all : back ≡ laid y (drop at old) = lent ∙ ap (laid y) (take_all (length old - at) (drop at old) rest) in
      let none : drop (length old - at) (drop at old) ≡ [] = drop_of_length-le (drop at old) rest in
      let behind : drop at (put_mid at (length old - at) old back) ≡ laid y (drop at old) =
      drop_at (take at old) (back ++ drop (length old - at) (drop at old)) at (length-take-le at old room) ∙ rw (none, append-nil, all) in
      over-front x (put_mid at (length old - at) old back) (laid y (drop at old)) (rw (← a) behind) ∙ rw a (behind-front x y old)

pub part_length : (at : ℕ) (old : List Float) → length (take (length old - at) (drop at old)) ≡ length old - at
part_length at old = length-take-le (length old - at) (drop at old) (simp length-drop (omega arith))

pub copied : (column made old back : List Float) (at : ℕ) → at ≡ length column → at ≤ length old → back ≡ laid made (take (length old - at) (drop at old)) → length back ≡ length old - at
    → laid_each (λ (x : Float). x) column (put_mid at (length old - at) old back) ≡ laid (column ++ made) old
copied column made old back at a room lent same =
    let room' = put_mid at (length old - at) old back in
    let long : length room' ≡ length old = same_len_mid at (length old - at) old back (same ∙ sym (part_length at old)) in
    each_over_front (λ (x : Float). x) column room' (omega (arith, a, long)) ∙ rw (map-id column) (front-filled column made old back at a room lent)

-- ---- the ends of the call

abbrev LeftAs : (raw warps : ℕ) → ThreeLists → (old : ThreeColumns) → ℕ → Type 0
LeftAs raw warps merged old number = ListsOver (lower raw warps) merged (processed_nothing number) old old

merged-length : (lists : ThreeLists) (warps : ListColumns) → length warps.beats ≡ length warps.values → length (behind_given warps lists).warps ≡ length warps.beats + length lists.warps
merged-length lists warps even = simp length-append (rw (length-entries warps.beats warps.values even))

module _ (raw warps : ℕ) (lists : ThreeLists) (list : ListColumns) {old : ThreeColumns} where
  pub refused-warps : (warps ≡ 0 → ⊥) → LeftAs raw warps (behind_given list lists) old (or_no_room (lower raw warps))
  unfolding or_no_room
  refused-warps h =
      let some : lower raw warps ≡ 0 → ⊥ = λ e. h (lower-none raw warps e).1 in
      rw (ne_eqb (lower raw warps) 0 some) (by_tests some)

  pub no_room : length list.beats ≡ length list.values → room_for old.warps.beats old.warps.values < length list.beats → LeftAs raw warps (behind_given list lists) old (or_no_room (lower raw warps))
  unfolding or_no_room
  no_room even short = go (eqb (lower raw warps) 0) (leb (length lists.stops) (room_for old.stops.beats old.stops.values)) refl refl
    where
      long : room_for old.warps.beats old.warps.values < length (behind_given list lists).warps
      long = omega (arith, merged-length lists list even)

      go : (t u : Bool) → eqb (lower raw warps) 0 ≡ t → leb (length lists.stops) (room_for old.stops.beats old.stops.values) ≡ u → LeftAs raw warps (behind_given list lists) old (pick t 7 (lower raw warps))
      go true true a b = for_warps (eqb-true (lower raw warps) 0 a) (leb-true _ _ b) long
      go true false a b = for_stops (eqb-true (lower raw warps) 0 a) (leb-false _ _ b)
      go false u a b = by_tests (λ e. let z : ◌≡◌ {A = Bool} true false = sym (eq-eqb (lower raw warps) 0 e) ∙ a in let w : ◌≡◌ {A = ℕ} 0 1 = cc in absurd (omega arith))

-- processing has been lent the rooms of warps from behind the given ones on
module _ (raw : ℕ) {warps : ℕ} (h : warps ≡ 0) (lists : ThreeLists) (warp_beats warp_lengths : List Float) (even : length warp_beats ≡ length warp_lengths) {outcome : Processed}
    {tempo_beats_old tempo_beats_new tempo_values_old tempo_values_new stop_beats_old stop_beats_new stop_values_old stop_values_new warp_beats_back warp_lengths_back : List Float} (warp_beats_old warp_lengths_old : List Float) (room : length warp_beats ≤ room_for warp_beats_old warp_lengths_old)
    (p : ListsLaid raw lists outcome tempo_beats_old tempo_beats_new tempo_values_old tempo_values_new stop_beats_old stop_beats_new stop_values_old stop_values_new
    (take (length warp_beats_old - length warp_beats) (drop (length warp_beats) warp_beats_old)) warp_beats_back (take (length warp_lengths_old - length warp_beats) (drop (length warp_beats) warp_lengths_old)) warp_lengths_back) where
  merged-number :
      outcome.number
      ≡ room_number
      (room_number (room_number (lower raw warps) (length lists.stops) (room_for stop_beats_old stop_values_old)) (length (behind_given (list_columns warp_beats warp_lengths) lists).warps) (room_for warp_beats_old warp_lengths_old))
      (length lists.tempos) (room_for tempo_beats_old tempo_values_old)
  merged-number =
      let lowered : lower raw warps ≡ raw = rw h (lower_than_none raw) in
      let at = length warp_beats in
      let rooms : room_for (take (length warp_beats_old - at) (drop at warp_beats_old)) (take (length warp_lengths_old - at) (drop at warp_lengths_old)) + at ≡ room_for warp_beats_old warp_lengths_old =
      rw (part_length at warp_beats_old, part_length at warp_lengths_old) (omega arith) in
      rw (lowered, merged-length lists (list_columns warp_beats warp_lengths) even)
      (p.number
      ∙ ap (λ (n : ℕ). room_number n (length lists.tempos) (room_for tempo_beats_old tempo_values_old))
      (same-room (room_number raw (length lists.stops) (room_for stop_beats_old stop_values_old)) (length lists.warps) at (room_for (take (length warp_beats_old - at) (drop at warp_beats_old)) (take (length warp_lengths_old - at) (drop at warp_lengths_old))) (room_for warp_beats_old warp_lengths_old) rooms))

  pub passed_on : (outcome.number ≡ 0 → ⊥)
      → ListsLaid (lower raw warps) (behind_given (list_columns warp_beats warp_lengths) lists) outcome tempo_beats_old tempo_beats_new tempo_values_old tempo_values_new stop_beats_old stop_beats_new stop_values_old stop_values_new
      warp_beats_old (put_mid (length warp_beats) (length warp_beats_old - length warp_beats) warp_beats_old warp_beats_back) warp_lengths_old (put_mid (length warp_beats) (length warp_lengths_old - length warp_beats) warp_lengths_old warp_lengths_back)
  passed_on some =
      let same = one_list p.warps_laid (list-refused some) in
      let beats : put_mid (length warp_beats) (length warp_beats_old - length warp_beats) warp_beats_old warp_beats_back ≡ warp_beats_old =
      rw same.1 (put_same (length warp_beats) (length warp_beats_old - length warp_beats) warp_beats_old) in
      let lengths : put_mid (length warp_beats) (length warp_lengths_old - length warp_beats) warp_lengths_old warp_lengths_back ≡ warp_lengths_old =
      rw same.2 (put_same (length warp_beats) (length warp_lengths_old - length warp_beats) warp_lengths_old) in
      record {
        number = merged-number;
        tempos_laid = p.tempos_laid;
        stops_laid = p.stops_laid;
        warps_laid = rw (beats, lengths, same.0) (list-refused some);
        offset_is = p.offset_is;
      }

  module _ (taken : outcome.number ≡ 0) where
    made-laid : LaidList 0 lists.warps outcome.warps (take (length warp_beats_old - length warp_beats) (drop (length warp_beats) warp_beats_old)) warp_beats_back (take (length warp_lengths_old - length warp_beats) (drop (length warp_beats) warp_lengths_old)) warp_lengths_back
    made-laid = rw taken at p.warps_laid

    pub made-fit : length warp_beats + outcome.warps ≤ length warp_beats_old
    unfolding given
    made-fit =
        let fit = (taken-fits (sym (taken-fits (sym taken ∙ merged-number)).0)).1 in
        let made : outcome.warps ≡ length lists.warps = made-laid.counted in
        omega (arith, merged-length lists (list_columns warp_beats warp_lengths) even)

    pub all_laid : length warp_beats_back ≡ length warp_beats_old - length warp_beats → length warp_lengths_back ≡ length warp_lengths_old - length warp_beats
        → ListsLaid (lower raw warps) (behind_given (list_columns warp_beats warp_lengths) lists) (record { number = 0; tempos = outcome.tempos; stops = outcome.stops; warps = length warp_beats + outcome.warps; offset = outcome.offset }) tempo_beats_old tempo_beats_new tempo_values_old tempo_values_new stop_beats_old stop_beats_new stop_values_old stop_values_new
        warp_beats_old (laid_each (λ (x : Float). x) warp_beats (put_mid (length warp_beats) (length warp_beats_old - length warp_beats) warp_beats_old warp_beats_back)) warp_lengths_old (laid_each (λ (x : Float). x) warp_lengths (put_mid (length warp_beats) (length warp_lengths_old - length warp_beats) warp_lengths_old warp_lengths_back))
    unfolding given
    all_laid beats_long lengths_long =
        let made : outcome.warps ≡ length lists.warps = made-laid.counted in
        record {
          number = sym taken ∙ merged-number;
          tempos_laid = rw taken at p.tempos_laid;
          stops_laid = rw taken at p.stops_laid;
          warps_laid =
              list-laid (omega (arith, merged-length lists (list_columns warp_beats warp_lengths) even))
              (rw (map-append, first-entries warp_beats warp_lengths even) (copied warp_beats (map first lists.warps) warp_beats_old warp_beats_back (length warp_beats) refl (omega arith) made-laid.first_is beats_long))
              (rw (map-append, second-entries warp_beats warp_lengths even) (copied warp_lengths (map second lists.warps) warp_lengths_old warp_lengths_back (length warp_beats) even (omega arith) made-laid.second_is lengths_long));
          offset_is = rw taken at p.offset_is;
        }
