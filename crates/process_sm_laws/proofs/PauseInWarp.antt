-- A pause in a warp that leaves the owed time at or below 0 keeps the warp, on the machine and on the whole walk. Assumes nothing.
use mathlib.Core.Bool.{false, ◌&&◌}
use mathlib.Core.List.{List, [], ◌∷◌, ◌++◌, append_assoc}
use mathlib.Core.Path.{◌≡◌, refl, sym, ap, ◌∙◌}
use lib.Ieee.{binary32, add, lt}
use Rattle.ieee.specs.Constants.{plus_zero32}
use Rattle.process_sm_machine.specs.declared.Entry.{Entry}
use Rattle.process_sm_machine.specs.declared.Change.{Change}
use Rattle.process_sm_machine.specs.declared.Change.TheVariants.{Stop}
use Rattle.process_sm_machine.specs.declared.Opened.{Opened}
use Rattle.process_sm_machine.specs.declared.Warp.TheVariants.{Open}
use Rattle.process_sm_machine.specs.declared.State.{State}
use Rattle.process_sm_machine.specs.declared.Moved.{Moved}
use Rattle.process_sm_machine.specs.Machine.{fits, still, time_passed, met}
use Rattle.process_sm_machine.specs.Fate.{owing, owed_by}
use Rattle.process_sm_machine.proofs.EachArrow.{time-keeps}
use Rattle.process_sm_machine.proofs.PauseKeeps.{pause_keeps}
use Rattle.process_sm_walk.specs.Chart.{Output, joined, written_by, written_at, walk_changes}
use Rattle.process_sm_laws.specs.PauseInWarp.{written_so_far, come_to, PauseKeepsWarp}

joined_assoc : (a b c : Output) → joined (joined a b) c ≡ joined a (joined b c)
joined_assoc a b c = rw (append_assoc a.tempos b.tempos c.tempos, append_assoc a.stops b.stops c.stops, append_assoc a.warps b.warps c.warps)

-- a walk goes on from where it has come to
walk_from : (before after : List Change) (start : State) → walk_changes (before ++ after) start ≡ joined (written_so_far before start) (walk_changes after (come_to before start))
unfolding walk_changes written_so_far come_to
walk_from [] after start = refl
walk_from (change ∷ before) after start =
    ap (joined (written_at start change)) (walk_from before after (met start change).state)
    ∙ sym (joined_assoc (written_at start change) (written_so_far before (met start change).state) (walk_changes after (come_to before (met start change).state)))

-- one such stop: the walk is that over what comes after it
module _ (state : State) (warp : Opened) (stop : Entry) (in_warp_lem : state.warp ≡ Open warp) (not-by-time : fits state.tempo && lt plus_zero32 (owed_by state warp (Stop stop)) ≡ false)
    (not-by-stop : lt plus_zero32 (add binary32 (owed_by state warp (Stop stop)) stop.value) ≡ false) where
  abbrev there : State
  there = record { tempo = state.tempo; beat = stop.beat; warp = owing warp (owed_by state warp (Stop stop)) }

  abbrev beyond : State
  beyond = record { tempo = state.tempo; beat = stop.beat; warp = owing warp (add binary32 (owed_by state warp (Stop stop)) stop.value) }

  by-time : time_passed state (Stop stop) ≡ still there
  by-time = time-keeps state warp in_warp_lem stop.beat not-by-time

  by-stop : met state (Stop stop) ≡ still beyond
  by-stop = rw by-time (pause_keeps there (record { start = warp.start; former = warp.former; owed = owed_by state warp (Stop stop) }) stop.value refl not-by-stop)

  onward : (after : List Change) (passing meeting : Moved) → passing ≡ still there → meeting ≡ still beyond
      → joined (joined (written_by passing) (written_by meeting)) (walk_changes after meeting.state) ≡ walk_changes after beyond
  onward after passing meeting p m = rw (p, m)

  stop_adds_nothing : (after : List Change) → walk_changes (Stop stop ∷ after) state ≡ walk_changes after beyond
  unfolding walk_changes
  stop_adds_nothing after = onward after (time_passed state (Stop stop)) (met state (Stop stop)) by-time by-stop

pub pause_keeps_warp : PauseKeepsWarp
pause_keeps_warp = record {
  machine = pause_keeps;
  on_the_walk = λ before after start warp stop in_warp_lem not-by-time not-by-stop.
      walk_from before (Stop stop ∷ after) start
      ∙ ap (joined (written_so_far before start)) (stop_adds_nothing (come_to before start) warp stop in_warp_lem not-by-time not-by-stop after);
}
