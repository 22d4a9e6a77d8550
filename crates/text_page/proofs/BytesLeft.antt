-- One turn of a loop over bytes: what is left of them. Assumes nothing.
use Prim.Native.Nat.{ℕ, ◌+◌, ◌≤◌, ◌<◌}
use mathlib.Core.List.{List, [], ◌∷◌}
use native.Mathlib.Numerals.{add-one}
use lib.ListN.{length, drop, get_or, drop_of_length-le}
use lib.Seq.{drop-cons}
use Rattle.text_page.specs.Page.{Wrote}
use Rattle.text_page.proofs.Joined.{Left, left-turn, left_end}

module _ {all : List ℕ} {start at : ℕ} {first now : List ℕ} where
  pub bytes-turn : {next : ℕ} {then : List ℕ} (bytes : List ℕ) (i : ℕ) → i < length bytes → Left all (drop i bytes) start at first now → Wrote (get_or bytes i 0 ∷ []) at next now then → Left all (drop (i + 1) bytes) start next first then
  bytes-turn bytes i h l w = rw (add-one i) (left-turn (rw (drop-cons bytes i 0 h) at l) w)

  pub bytes-end : (bytes : List ℕ) (i : ℕ) → length bytes ≤ i → Left all (drop i bytes) start at first now → Wrote all start at first now
  bytes-end bytes i h l = left_end (rw (drop_of_length-le bytes h) at l)
