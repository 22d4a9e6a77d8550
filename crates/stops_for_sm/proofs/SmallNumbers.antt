-- A flat list whose numbers could all be beats has beats and pauses that are taken: what is small enough for a beat is so for a pause. Assumes nothing.
use Rattle.std.proofs.Common.{◌≡◌, true, List, [], ◌∷◌, refl, arith}
use lib.Ieee.{Float}
use Rattle.ieee.proofs.Magnitude.{sized, sized-within}
use Rattle.limits.specs.declared.Kind.TheVariants.{Beat, Pause}
use Rattle.limits.specs.Numbers.{range_of, in_range, all_in}
use Rattle.limits.proofs.Every.{every_rest}
use Rattle.limits.proofs.TakenWithin.{taken-within, within-taken}
use Rattle.stops_for_sm.specs.Filling.{beats_in, values_in}

beat_is_pause : (x : Float) → in_range (range_of Beat) x ≡ true → in_range (range_of Pause) x ≡ true
beat_is_pause x h =
    let z = sized 16 x (taken-within 16 x h) in
    within-taken 50 x (sized-within 50 x (record { negative = z.negative; num = z.num; den = z.den; den_pos = z.den_pos; value = z.value; small = omega (arith, z.small) }))

pub small-beats : (list : List Float) → all_in (range_of Beat) list ≡ true → beats_in (range_of Beat) list ≡ true
unfolding beats_in
small-beats [] h = refl
small-beats (beat ∷ []) h = (every_rest (in_range (range_of Beat)) beat [] h).0
small-beats (beat ∷ value ∷ list) h =
    let first = every_rest (in_range (range_of Beat)) beat (value ∷ list) h in
    rw first.0 (small-beats list (every_rest (in_range (range_of Beat)) value list first.1).1)

pub small-values : (list : List Float) → all_in (range_of Beat) list ≡ true → values_in (range_of Pause) list ≡ true
unfolding values_in
small-values [] h = refl
small-values (beat ∷ []) h = refl
small-values (beat ∷ value ∷ list) h =
    let second = every_rest (in_range (range_of Beat)) value list (every_rest (in_range (range_of Beat)) beat (value ∷ list) h).1 in
    rw (beat_is_pause value second.0) (small-values list second.1)
