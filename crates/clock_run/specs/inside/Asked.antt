-- What the loop of a run leaves: all beats asked with a mark. Definitions only.
use Rattle.std.specs.Prelude.{◌≡◌, List, [], ◌∷◌, map, Float}
use Rattle.order.specs.Order.{laid}
use Rattle.chart.specs.Timing.{Timing}
use Rattle.clock_walk.specs.declared.Mark.{Mark}
use Rattle.clock.specs.Marked.{marked_asking}
use Rattle.clock.specs.History.{number_of, time_of, count_of}
use Rattle.clock.specs.declared.Cursor.{Cursor}
use Rattle.clock.specs.declared.Answer.{Answer}
use Rattle.clock_run.specs.Run.{RunColumns}

-- each beat is asked by the cursor that the one before it left
unfoldable pub each_asked : Mark → Timing → Float → Float → Cursor → List Float → List Answer
each_asked m t offset global c [] = []
each_asked m t offset global c (b ∷ beats) = marked_asking m t c offset global b ∷ each_asked m t offset global (marked_asking m t c offset global b).cursor beats

-- the cursor after the last of them
unfoldable pub last_asked : Mark → Timing → Float → Float → Cursor → List Float → Cursor
last_asked m t offset global c [] = c
last_asked m t offset global c (b ∷ beats) = last_asked m t offset global (marked_asking m t c offset global b).cursor beats

module _ (m : Mark) (t : Timing) (offset global : Float) (c : Cursor) (beats : List Float) where
  pub record AllAsked (last : Cursor) (old new : RunColumns) : Type 0 where
    pub cursor : last ≡ last_asked m t offset global c beats
    pub numbers_are : new.numbers ≡ laid (map number_of (each_asked m t offset global c beats)) old.numbers
    pub times_are : new.times ≡ laid (map time_of (each_asked m t offset global c beats)) old.times
    pub counts_are : new.counts ≡ laid (map count_of (each_asked m t offset global c beats)) old.counts
