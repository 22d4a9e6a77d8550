-- A list's columns, copied over the fronts of rooms that hold it, are the list laid there. Assumes nothing.
use Rattle.std.proofs.Common.{◌≡◌, ◌≤◌, List, map, length, sym, ap, ◌∙◌, arith}
use lib.Ieee.{Float}
use Rattle.order.specs.Order.{laid}
use Rattle.order.specs.Entries.{entries, first, second}
use Rattle.order.proofs.Columns.{length-entries, first-entries, second-entries}
use Rattle.columns.specs.Each.{laid_each}
use Rattle.columns.proofs.EachOverFront.{copied_over_front}
use Rattle.process_raw.specs.RawLists.{room_for}

module _ (beats values : List Float) (even : length beats ≡ length values) (beat_room value_room : List Float) (fits : length (entries beats values) ≤ room_for beat_room value_room) {new : List Float} where
  pub firsts-copied : new ≡ laid_each (λ (x : Float). x) beats beat_room → new ≡ laid (map first (entries beats values)) beat_room
  firsts-copied e =
      e ∙ copied_over_front beats beat_room (omega (arith, fits, length-entries beats values even)) ∙ ap (λ (l : List Float). laid l beat_room) (sym (first-entries beats values even))

  pub seconds-copied : new ≡ laid_each (λ (x : Float). x) values value_room → new ≡ laid (map second (entries beats values)) value_room
  seconds-copied e =
      e ∙ copied_over_front values value_room (omega (arith, fits, even, length-entries beats values even)) ∙ ap (λ (l : List Float). laid l value_room) (sym (second-entries beats values even))
