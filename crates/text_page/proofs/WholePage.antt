-- On a page that has room for them, bytes stand whole at its front, and the rest of it stays. Assumes nothing.
use Prim.Native.Nat.{ℕ, suc, ◌+◌, ◌≤◌, ◌<◌}
use mathlib.Core.Path.{◌≡◌, refl, ap, ◌∙◌}
use mathlib.Core.List.{List, [], ◌∷◌, ◌++◌}
use native.Mathlib.Numerals.{add-one}
use native.Mathlib.Omega.{arith}
use borrow.Author.Tests.{lt-ltb}
use lib.ListN.{length, set, drop, length-set}
use lib.Seq.{sets, sets-eq}
use Rattle.text_page.specs.Page.{next_place, place_behind, page_with, Wrote, WroteWhole}

next : (room at : ℕ) → at < room → next_place room at ≡ at + 1
unfolding next_place
next room at h = rw (lt-ltb at room h)

end_whole : (room at : ℕ) (bytes : List ℕ) → at + length bytes ≤ room → place_behind room at bytes ≡ at + length bytes
unfolding place_behind
end_whole room at [] h = omega arith
end_whole room at (byte ∷ bytes) h = rw (next room at (omega arith)) (omega (arith, end_whole room (at + 1) bytes (omega arith)))

-- each byte at its place
written_sets : (at : ℕ) (bytes page : List ℕ) → at + length bytes ≤ length page → page_with at bytes page ≡ sets page at bytes
unfolding page_with
written_sets at [] page h = refl
written_sets at (byte ∷ bytes) page h =
    rw (next (length page) at (omega arith), add-one at)
    (written_sets (suc at) bytes (set page at byte) (omega (arith, length-set page at byte)))

pub wrote-whole : {bytes : List ℕ} {end : ℕ} {old new : List ℕ} → length bytes ≤ length old → Wrote bytes 0 end old new → WroteWhole bytes end old new
wrote-whole {bytes} {end} {old} {new} h w =
    let room : 0 + length bytes ≤ length old = omega arith in
    let from-none : 0 + length bytes ≡ length bytes = omega arith in
    record {
      all = omega (arith, w.ends, end_whole (length old) 0 bytes room);
      page = w.page ∙ written_sets 0 bytes old room ∙ sets-eq bytes old 0 room ∙ ap (λ (n : ℕ). bytes ++ drop n old) from-none;
    }
