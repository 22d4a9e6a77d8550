-- Where no warp opens: room for what is left of each list, and what the columns hold then. Assumes nothing.
use Rattle.std.proofs.Common.{◌≡◌, ℕ, ◌+◌, ◌-◌, ◌≤◌, List, map, length, drop, refl, ◌∙◌, add-zero, arith, length-drop}
use native.Mathlib.Nat.{le-max_left}
use lib.ListN.{length-map}
use lib.Ieee.{Float}
use Rattle.order.specs.Entries.{entries, first, second}
use Rattle.order.proofs.Columns.{length-entries}
use Rattle.process_sm_machine.specs.declared.State.{State}
use Rattle.process_sm_walk.specs.Changes.{changes_left}
use Rattle.process_sm_walk.specs.Chart.{walk_changes, Chart}
use Rattle.process_sm_walk.specs.Columns.{Columns, columns, most_written}
use Rattle.process_sm_walk.specs.inside.Written.{laid_from, written_into, counted}
use Rattle.process_sm_walk.specs.inside.Rooms.{Room, WrittenWithin, Reached}
use Rattle.process_sm_walk.specs.inside.NoWarp.{NoWarp, quantized_entry32, rowed}
use Rattle.process_sm_walk.specs.declared.Counts.{Counts}
use Rattle.process_sm_walk.specs.declared.Places.{Places}
use Rattle.process_sm_walk.proofs.NoWarpOpens.{walk_by_lists}

rowed-length : (beats values : List Float) (from : ℕ) → length beats ≡ length values → length (rowed beats values from) ≡ length beats - from
rowed-length beats values from e = length-map (drop from (entries beats values)) quantized_entry32 ∙ length-drop from (entries beats values) ∙ rw (length-entries beats values e)

module _ (tb tv sb sv : List Float) (chart : Chart tb tv sb sv) (from : Places) (opening : State) (so_far : Counts) where
  module _ (reached : Reached (length tb) (length sb) from) (within : WrittenWithin from opening so_far) (into : Columns) (room : Room (most_written (length tb) (length sb)) into) where
    pub room-tempos : (so_far.tempos + length (rowed tb tv from.tempo) ≤ length into.tempo_beats) × (so_far.tempos + length (rowed tb tv from.tempo) ≤ length into.tempo_values)
    room-tempos =
        let n = rowed-length tb tv from.tempo chart.tempos in let a = reached.tempo in let b = within.tempos in let m = le-max_left (length tb) 1 in
        let c = room.tempo_beats in let d = room.tempo_values in
        (omega arith, omega arith)

    pub room-stops : (so_far.stops + length (rowed sb sv from.stop) ≤ length into.stop_beats) × (so_far.stops + length (rowed sb sv from.stop) ≤ length into.stop_values)
    room-stops =
        let n = rowed-length sb sv from.stop chart.stops in let a = reached.stop in let b = within.stops in
        let c = room.stop_beats in let d = room.stop_values in
        (omega arith, omega arith)

  pub by-lists : NoWarp tv sv from opening → (tempos stops : ℕ) → tempos ≡ so_far.tempos + length (rowed tb tv from.tempo) → stops ≡ so_far.stops + length (rowed sb sv from.stop)
      → (otb otv osb osv owb owl : List Float) {a b c d : List Float}
      → a ≡ laid_from so_far.tempos (map first (rowed tb tv from.tempo)) otb
      → b ≡ laid_from so_far.tempos (map second (rowed tb tv from.tempo)) otv
      → c ≡ laid_from so_far.stops (map first (rowed sb sv from.stop)) osb
      → d ≡ laid_from so_far.stops (map second (rowed sb sv from.stop)) osv
      → (◌≡◌ {A = Counts} (record { tempos = tempos; stops = stops; warps = so_far.warps }) (counted so_far (walk_changes (changes_left (entries tb tv) (entries sb sv) from) opening)))
      × (columns a b c d owb owl ≡ written_into so_far (walk_changes (changes_left (entries tb tv) (entries sb sv) from) opening) (columns otb otv osb osv owb owl))
  unfolding laid_from
  by-lists none tempos stops t s otb otv osb osv owb owl e f g h =
      rw (walk_by_lists tb tv sb sv from opening chart none, t, s, e, f, g, h, add-zero so_far.warps) (refl, refl)
