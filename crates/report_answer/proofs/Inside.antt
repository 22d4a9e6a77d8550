-- What is written ends on its page. Assumes nothing.
use Prim.Native.Nat.{ℕ, min, ◌+◌, ◌≤◌, ◌<◌}
use mathlib.Core.Path.{◌≡◌, refl, sym, ap, ◌∙◌}
use mathlib.Core.Bool.{Bool, true, false}
use mathlib.Core.List.{List, [], ◌∷◌}
use native.Mathlib.Omega.{arith}
use borrow.Author.Tests.{ltb-true}
use lib.Dec.{ltb}
use lib.ListN.{length, take, length-take}
use Rattle.picks.specs.Pick.{pick}
use Rattle.io.specs.Counts.{IsPrefixLen}
use Rattle.text_page.specs.Page.{next_place, place_behind, Wrote}
use Rattle.text_page.proofs.Joined.{wrote-length}

end-inside : (room at : ℕ) (bytes : List ℕ) → at ≤ room → place_behind room at bytes ≤ room
unfolding place_behind next_place
end-inside room at [] h = h
end-inside room at (byte ∷ bytes) h = end-inside room (next_place room at) bytes (by_case (ltb at room) refl)
  where
    by_case : (t : Bool) → ltb at room ≡ t → pick (ltb at room) (at + 1) at ≤ room
    by_case true e = let l = ltb-true at room e in rw e (omega arith)
    by_case false e = rw e h

pub wrote-counts : {bytes : List ℕ} {end : ℕ} {old new : List ℕ} → Wrote bytes 0 end old new → IsPrefixLen end new
wrote-counts {bytes} {end} {old} {new} w =
    let inside : end ≤ length old = rw w.ends (end-inside (length old) 0 bytes (omega arith)) in
    let same = wrote-length w in
    let low : end ≤ length new = omega arith in
    let taken : length (take end new) ≡ min end (length new) = length-take end new in
    (low, omega arith)
