use Rattle.std.proofs.Common.{refl, arith}
use Rattle.process_sm_walk.specs.inside.Written.{laid_from}
use Rattle.process_sm_walk.proofs.put.Goals as goal

pub bounds-beats-at : goal.bounds-beats-at
bounds-beats-at c = let r = rw c.in-Some.is at c.requires.0 in omega (arith, r)

pub bounds-values-at : goal.bounds-values-at
bounds-values-at c = let r = rw c.in-Some.is at c.requires.1 in omega (arith, r)

pub returns-in-None : goal.returns-in-None
unfolding laid_from
returns-in-None c =
    rw c.in-None.is (record { value = omega arith; beats_after = refl; values_after = refl })

pub returns-in-Some : goal.returns-in-Some
unfolding laid_from
returns-in-Some c =
    rw (c.in-Some.is, c.f32_to_f64_with_nan-in-Some.ensures, c.f32_to_f64_with_nan.ensures) (record { value = omega arith; beats_after = refl; values_after = refl })
