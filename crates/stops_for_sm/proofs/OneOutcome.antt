-- What is said of stops for SM leaves one outcome: number, count, whose list it is, and the work list to its last place. Assumes nothing.
use Rattle.std.proofs.Common.{◌≡◌, List}
use lib.Ieee.{Float}
use Rattle.stops_for_sm.specs.declared.Filled.{Filled}
use Rattle.stops_for_sm.specs.Merging.{Sources}
use Rattle.stops_for_sm.specs.Filling.{StopsFilled}

pub one_outcome : {s : Sources} {a b : Filled} {old new_a new_b : List Float} → StopsFilled s a old new_a → StopsFilled s b old new_b → (a ≡ b) × (new_a ≡ new_b)
one_outcome {a = a} {b = b} x y =
    let same : ◌≡◌ {A = Filled} (record { number = a.number; count = a.count; own = a.own }) (record { number = b.number; count = b.count; own = b.own }) = cc in
    (same, cc)
