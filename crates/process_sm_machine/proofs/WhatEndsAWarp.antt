-- What ends a warp, and that nothing else does. Assumes nothing.
use mathlib.Core.Bool.{Bool, true, false, ◌&&◌}
use mathlib.Core.Path.{◌≡◌, refl}
use lib.Ieee.{Float, binary32, add, lt}
use Rattle.ieee.specs.Constants.{plus_zero32}
use Rattle.process_sm_machine.specs.declared.Change.{Change}
use Rattle.process_sm_machine.specs.declared.Change.TheVariants.{Tempo, Stop}
use Rattle.process_sm_machine.specs.declared.Opened.{Opened}
use Rattle.process_sm_machine.specs.declared.Warp.{Warp}
use Rattle.process_sm_machine.specs.declared.Warp.TheVariants.{Closed, Open}
use Rattle.process_sm_machine.specs.declared.State.{State}
use Rattle.process_sm_machine.specs.Machine.{fits, still, beat_at, finish_warp, finish_by, finish, time_passed, met}
use Rattle.process_sm_machine.specs.Fate.{owing, owed_by, Fate, goes_on_from, ended_by_time, ended_by_stop}
use Rattle.process_sm_machine.proofs.EachArrow.{time-keeps, tempo-keeps, stop-keeps}

module _ (state : State) (warp : Opened) (in_warp_lem : state.warp ≡ Open warp) where
  -- where the time up to a change leaves it, if it ends nothing
  abbrev there : Change → State
  there change = record { tempo = state.tempo; beat = beat_at change; warp = owing warp (owed_by state warp change) }

  abbrev held : Change → Opened
  held change = record { start = warp.start; former = warp.former; owed = owed_by state warp change }

  -- then the change ends it, or nothing does
  by-change : (change : Change) → time_passed state change ≡ still (there change) → Fate state warp change (time_passed state change) (met state change)
  by-change (Tempo entry) p = goes_on_from p (rw p (tempo-keeps (there (Tempo entry)) (held (Tempo entry)) refl entry.value))
  by-change (Stop entry) p = go (lt plus_zero32 entry.value && lt plus_zero32 (add binary32 (owed_by state warp (Stop entry)) entry.value)) refl
    where
      go : (b : Bool) → lt plus_zero32 entry.value && lt plus_zero32 (add binary32 (owed_by state warp (Stop entry)) entry.value) ≡ b → Fate state warp (Stop entry) (time_passed state (Stop entry)) (met state (Stop entry))
      go true h = ended_by_stop entry refl h
      go false h = goes_on_from p (rw p (stop-keeps (there (Stop entry)) (held (Stop entry)) refl entry.value h))

  pub what_ends_a_warp : (change : Change) → Fate state warp change (time_passed state change) (met state change)
  what_ends_a_warp change = go (fits state.tempo && lt plus_zero32 (owed_by state warp change)) refl
    where
      go : (b : Bool) → fits state.tempo && lt plus_zero32 (owed_by state warp change) ≡ b → Fate state warp change (time_passed state change) (met state change)
      go true h = ended_by_time h
      go false h = by-change change (time-keeps state warp in_warp_lem (beat_at change) h)

-- ---- the end of the chart ends every warp

finished : (warp : Warp) (tempo beat : Float) → (finish_by warp tempo beat).state.warp ≡ Closed
unfolding finish_warp
finished Closed tempo beat = refl
finished (Open warp) tempo beat = refl

pub after-end : (state : State) → (finish state).state.warp ≡ Closed
unfolding finish
after-end state = finished state.warp state.tempo state.beat
