-- The values of SM's changes are f32s, in both lists and in the walk's own order. Assumes nothing.
use Prim.Native.Nat.{max}
use mathlib.Core.Bool.{Bool, true, false}
use mathlib.Core.List.{List, [], ◌∷◌}
use lib.Dec.{T}
use lib.ListN.{drop}
use lib.Ieee.{Float, binary32, fits}
use Rattle.picks.specs.Pick.{pick}
use Rattle.ieee.proofs.Narrow.{narrow-fits}
use Rattle.order.specs.Entries.{entries}
use Rattle.order.proofs.OrderedList.{Each, each-ordered}
use Rattle.columns.specs.Kept.{kept}
use Rattle.process_sm_changes.specs.SmChanges.{stays_sm, narrowed, stayed_sm, beat_key32, sm_changes}
use Rattle.process_sm_machine.specs.declared.Change.{Change}
use Rattle.process_sm_walk.specs.Chart.{tempos_by0, stops_before, opening_places}
use Rattle.process_sm_walk.specs.Changes.{tempo_of, stop_of, changes_left}
use Rattle.process_sm_laws.specs.Beats.{beat_key}
use Rattle.process_sm_laws.proofs.ChangesInOrder.{change_key, each-merged, each-drop}
use Rattle.process_sm_laws.proofs.ArrowsKeepBounds.{value_of}

abbrev pub F32 : Float → Type 0
F32 x = T (fits binary32 x)

abbrev pub ValueF32 : Float × Float → Type 0
ValueF32 e = F32 e.1

abbrev pub ChangeF32 : Change → Type 0
ChangeF32 change = F32 (value_of change)

stayed_f32 : (beats values : List Float) → Each beat_key32 ValueF32 (stayed_sm beats values)
unfolding entries kept
stayed_f32 [] values = tt
stayed_f32 (beat ∷ beats) [] = tt
stayed_f32 (beat ∷ beats) (value ∷ values) = go (stays_sm (beat, value)) (stayed_f32 beats values)
  where
    go : (t : Bool) → Each beat_key32 ValueF32 (stayed_sm beats values) → Each beat_key32 ValueF32 (pick t (narrowed (beat, value) ∷ stayed_sm beats values) (stayed_sm beats values))
    go true rest = (narrow-fits value, rest)
    go false rest = rest

pub changes_f32 : (beats values : List Float) → Each beat_key32 ValueF32 (sm_changes beats values)
changes_f32 beats values = each-ordered beat_key32 ValueF32 (stayed_sm beats values) (stayed_f32 beats values)

pub all_f32 : (tempos stops : List (Float × Float)) → Each beat_key32 ValueF32 tempos → Each beat_key32 ValueF32 stops → Each change_key ChangeF32 (changes_left tempos stops (opening_places tempos stops))
all_f32 tempos stops a b =
    let t = max (tempos_by0 tempos) 1 in let s = stops_before stops in
    each-merged ChangeF32 (drop t tempos) (drop s stops)
    (each-drop (beat_key binary32) (λ (e : Float × Float). ChangeF32 (tempo_of e)) t tempos a) (each-drop (beat_key binary32) (λ (e : Float × Float). ChangeF32 (stop_of e)) s stops b)
