-- A refusal leaves the six rooms as they were; a chart that is taken has even columns, no NaN among its tempos and room for the most, and is laid over the fronts. Assumes nothing.
use Rattle.std.proofs.Common.{◌≡◌, ℕ, zero, suc, ◌+◌, ◌≤◌, min, max, Bool, true, false, eqb, leb, List, [], ◌∷◌, map, length, refl, ap, ◌∙◌, arith, ne_eqb, eqb-true, leb-true}
use native.Mathlib.Nat.{min-le_left, min-le_right}
use lib.ListN.{length-map}
use lib.Ieee.{Float}
use Rattle.ieee.specs.Constants.{plus_zero32}
use Rattle.picks.specs.Pick.{pick}
use Rattle.limits.specs.Numbers.{every}
use Rattle.limits.proofs.Every.{every_rest}
use Rattle.order.specs.Order.{laid}
use Rattle.order.specs.Entries.{entries, first, second}
use Rattle.columns.specs.Laying.{given, column_laid}
use Rattle.columns.proofs.Rooms.{nothing-given}
use Rattle.process_sm_walk.specs.declared.Finished.{Finished}
use Rattle.process_sm_walk.specs.Chart.{processed, offset_of, TemposNumbers, Chart}
use Rattle.process_sm_walk.specs.Columns.{Columns, most_written}
use Rattle.process_sm_walk.specs.Walking.{is_number, room_for_counts, has_room, chart_number, walk_number, WalkLaid}
use Rattle.process_sm_walk.specs.inside.Written.{laid_from, written_into, counted, none_counted}
use Rattle.process_sm_walk.specs.inside.Rooms.{Room}
use Rattle.process_sm_walk.proofs.PlacedInColumns.{placed-laid}
use Rattle.process_sm_walk.proofs.Lengths.{bounded}

-- ---- the number, by the rooms of the lists

pub number_by_rooms : (tb tv sb sv : List Float) (into : Columns) (number tempo_room stop_room warp_room : ℕ)
    → tempo_room ≡ min (length into.tempo_beats) (length into.tempo_values) → stop_room ≡ min (length into.stop_beats) (length into.stop_values)
    → warp_room ≡ min (length into.warp_beats) (length into.warp_lengths)
    → number ≡ pick (eqb (chart_number tb tv sb sv) 0) (pick (room_for_counts (most_written (length tb) (length sb)) tempo_room stop_room warp_room) 0 7) (chart_number tb tv sb sv)
    → number ≡ walk_number tb tv sb sv into
unfolding walk_number has_room
number_by_rooms tb tv sb sv into number tempo_room stop_room warp_room t s w e = rw (← t, ← s, ← w) e

-- ---- a refusal

none-laid : (field : Float × Float → Float) (n : ℕ) (list : List (Float × Float)) (old : List Float) → (n ≡ 0 → ⊥) → old ≡ column_laid field n list old
unfolding laid
none-laid field n list old h = rw (nothing-given list n h)

pub refused-laid : (tempos stops : List (Float × Float)) (n : ℕ) (old : Columns) → (n ≡ 0 → ⊥) → WalkLaid tempos stops n (record { number = n; tempos = 0; stops = 0; warps = 0; offset = plus_zero32 }) old old
refused-laid tempos stops n old h =
    let out = processed tempos stops in
    record {
      number = refl;
      tempos = rw (nothing-given out.tempos n h);
      stops = rw (nothing-given out.stops n h);
      warps = rw (nothing-given out.warps n h);
      offset = rw (ne_eqb n 0 h);
      tempo_beats = none-laid first n out.tempos old.tempo_beats h;
      tempo_values = none-laid second n out.tempos old.tempo_values h;
      stop_beats = none-laid first n out.stops old.stop_beats h;
      stop_values = none-laid second n out.stops old.stop_values h;
      warp_beats = none-laid first n out.warps old.warp_beats h;
      warp_lengths = none-laid second n out.warps old.warp_lengths h;
    }

-- ---- what a number of 0 says of each test

chart-passed : (a b c : Bool) → ◌≡◌ {A = ℕ} (pick a (pick b (pick c 0 4) 2) 2) 0 → (a ≡ true) × (b ≡ true) × (c ≡ true)
chart-passed true true true h = (refl, refl, refl)
chart-passed false b c h = absurd (omega arith)
chart-passed true false c h = absurd (omega arith)
chart-passed true true false h = absurd (omega arith)

room-passed : (a b c : Bool) → pick a (pick b c false) false ≡ true → (a ≡ true) × (b ≡ true) × (c ≡ true)
room-passed true true true h = (refl, refl, refl)
room-passed false b c h = let z : ◌≡◌ {A = ℕ} 0 1 = cc in absurd (omega arith)
room-passed true false c h = let z : ◌≡◌ {A = ℕ} 0 1 = cc in absurd (omega arith)
room-passed true true false h = let z : ◌≡◌ {A = ℕ} 0 1 = cc in absurd (omega arith)

walk-passed : (n : ℕ) (room : Bool) → pick (eqb n 0) (pick room 0 7) n ≡ 0 → (n ≡ 0) × (room ≡ true)
walk-passed zero true h = (refl, refl)
walk-passed zero false h = absurd (omega arith)
walk-passed (suc n) room h = let k = rw (ne_eqb (suc n) 0 (λ e. omega arith)) at h in absurd (omega arith)

numbers : (beats values : List Float) → every is_number values ≡ true → TemposNumbers (entries beats values)
unfolding entries
numbers [] values h = tt
numbers (b ∷ beats) [] h = tt
numbers (b ∷ beats) (v ∷ values) h = let k = every_rest is_number v values h in (k.0, numbers beats values k.1)

module _ (tb tv sb sv : List Float) (into : Columns) (h : walk_number tb tv sb sv into ≡ 0) where
  passed : (chart_number tb tv sb sv ≡ 0) × (has_room (most_written (length tb) (length sb)) into ≡ true)
  unfolding walk_number
  passed = walk-passed (chart_number tb tv sb sv) (has_room (most_written (length tb) (length sb)) into) h

  pub chart-taken : Chart tb tv sb sv
  unfolding chart_number
  chart-taken =
      let p = chart-passed (eqb (length tb) (length tv)) (eqb (length sb) (length sv)) (every is_number tv) passed.0 in
      record { tempos = eqb-true (length tb) (length tv) p.0; stops = eqb-true (length sb) (length sv) p.1; numbers = numbers tb tv p.2 }

  pub room-taken : Room (most_written (length tb) (length sb)) into
  unfolding has_room
  room-taken =
      let p =
      room-passed (leb (max (length tb) 1) (min (length into.tempo_beats) (length into.tempo_values))) (leb (length sb) (min (length into.stop_beats) (length into.stop_values)))
      (leb (length tb + length sb) (min (length into.warp_beats) (length into.warp_lengths))) passed.1 in
      let t = leb-true (max (length tb) 1) (min (length into.tempo_beats) (length into.tempo_values)) p.0 in
      let s = leb-true (length sb) (min (length into.stop_beats) (length into.stop_values)) p.1 in
      let w = leb-true (length tb + length sb) (min (length into.warp_beats) (length into.warp_lengths)) p.2 in
      record {
        tempo_beats = omega (arith, min-le_left (length into.tempo_beats) (length into.tempo_values));
        tempo_values = omega (arith, min-le_right (length into.tempo_beats) (length into.tempo_values));
        stop_beats = omega (arith, min-le_left (length into.stop_beats) (length into.stop_values));
        stop_values = omega (arith, min-le_right (length into.stop_beats) (length into.stop_values));
        warp_beats = omega (arith, min-le_left (length into.warp_beats) (length into.warp_lengths));
        warp_lengths = omega (arith, min-le_right (length into.warp_beats) (length into.warp_lengths));
      }

  -- ---- a chart that is taken

  column-laid : (field : Float × Float → Float) (list : List (Float × Float)) (old : List Float) → length list ≤ length old → laid_from 0 (map field list) old ≡ column_laid field 0 list old
  unfolding given
  column-laid field list old k = placed-laid (map field list) old (rw (length-map list field) k)

  pub taken-laid : (done : Finished) (last : Columns)
      → done ≡ record { offset = offset_of (entries sb sv); counts = counted none_counted (processed (entries tb tv) (entries sb sv)) }
      → last ≡ written_into none_counted (processed (entries tb tv) (entries sb sv)) into
      → WalkLaid (entries tb tv) (entries sb sv) 0 (record { number = 0; tempos = done.counts.tempos; stops = done.counts.stops; warps = done.counts.warps; offset = done.offset }) into last
  unfolding given
  taken-laid done last d e =
      let out = processed (entries tb tv) (entries sb sv) in
      let b = bounded tb tv sb sv chart-taken in
      let t = b.tempos in let s = b.stops in let w = b.warps in
      let r = room-taken in
      record {
        number = refl;
        tempos = ap (λ (f : Finished). f.counts.tempos) d ∙ omega arith;
        stops = ap (λ (f : Finished). f.counts.stops) d ∙ omega arith;
        warps = ap (λ (f : Finished). f.counts.warps) d ∙ omega arith;
        offset = ap (λ (f : Finished). f.offset) d;
        tempo_beats = ap (λ (c : Columns). c.tempo_beats) e ∙ column-laid first out.tempos into.tempo_beats (omega (arith, r.tempo_beats));
        tempo_values = ap (λ (c : Columns). c.tempo_values) e ∙ column-laid second out.tempos into.tempo_values (omega (arith, r.tempo_values));
        stop_beats = ap (λ (c : Columns). c.stop_beats) e ∙ column-laid first out.stops into.stop_beats (omega (arith, r.stop_beats));
        stop_values = ap (λ (c : Columns). c.stop_values) e ∙ column-laid second out.stops into.stop_values (omega (arith, r.stop_values));
        warp_beats = ap (λ (c : Columns). c.warp_beats) e ∙ column-laid first out.warps into.warp_beats (omega (arith, r.warp_beats));
        warp_lengths = ap (λ (c : Columns). c.warp_lengths) e ∙ column-laid second out.warps into.warp_lengths (omega (arith, r.warp_lengths));
      }
