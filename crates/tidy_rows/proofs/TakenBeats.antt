-- A beat that is taken is an allowed beat, and so is each beat of a list that passes the tests. Assumes nothing.
use mathlib.Core.Path.{◌≡◌}
use mathlib.Core.Bool.{true}
use mathlib.Core.List.{List, [], ◌∷◌}
use lib.Dec.{T}
use lib.Ieee.{Float}
use Rattle.rows.specs.Rows.{allowed_beat}
use Rattle.limits.specs.declared.Kind.TheVariants.{Beat}
use Rattle.limits.specs.Numbers.{in_range, range_of, all_in}
use Rattle.limits.proofs.Every.{every_rest}
use Rattle.order.specs.Entries.{entries}
use Rattle.order.proofs.OrderedList.{Each}
use Rattle.rows.proofs.Allowed.{taken-allowed}
use Rattle.rows.specs.RowKey.{row_key_of}

pub beats-allowed : (beats values : List Float) → all_in (range_of Beat) beats ≡ true → Each row_key_of (λ (e : Float × Float). T (allowed_beat e.0)) (entries beats values)
unfolding entries
beats-allowed [] values h = tt
beats-allowed (beat ∷ beats) [] h = tt
beats-allowed (beat ∷ beats) (value ∷ values) h =
    let both = every_rest (in_range (range_of Beat)) beat beats h in
    (taken-allowed beat both.0, beats-allowed beats values both.1)
