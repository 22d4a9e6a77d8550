-- A fake's end, a sum at f64 that is narrowed, is the sum at f32, as a warp's end is. Assumes nothing.
use Rattle.std.proofs.Common.{◌≡◌, false, T, ap}
use lib.Ieee.{Float, binary32, le, lt, add, fits}
use Rattle.picks.specs.Pick.{pick}
use Rattle.ieee.proofs.NarrowedSum.{narrowed-sum}
use Rattle.lookup.specs.Lookups.{fake_covers}

pub fake_in_f32 : (at beat length : Float) → T (fits binary32 beat) → T (fits binary32 length) → fake_covers at beat length ≡ pick (le beat at) (lt at (add binary32 beat length)) false
fake_in_f32 at beat length h k = ap (λ (end : Float). pick (le beat at) (lt at end) false) (narrowed-sum beat length h k)
