-- One pass over entries in order that writes only what stays: an entry waits until a later row comes, since the rest of its own row can still take it away.
-- Definitions only.
use Rattle.std.specs.Prelude.{ℕ, Bool, true, false, List, [], ◌∷◌, ltb}
use Rattle.picks.specs.Pick.{pick}

-- the value written last, and the entry that waits, if one does, with its row
pub record Waiting (B W : Type 0) : Type 0 where
  pub before : W
  pub waits : Bool
  pub row : ℕ
  pub beat : B
  pub value : W

module _ {B W : Type 0} (row : B → ℕ) (near : W → W → Bool) where
  -- whether the waiting entry is written when e comes
  unfoldable pub writes : Waiting B W → B × W → Bool
  writes s e = pick s.waits (ltb s.row (row e.0)) false

  -- who waits then: e, or no one where e is near the value written last
  abbrev pub comes : W → Waiting B W → B × W → Waiting B W
  comes before s e =
      pick (near e.1 before)
      (record { before = before; waits = false; row = s.row; beat = s.beat; value = s.value })
      (record { before = before; waits = true; row = row e.0; beat = e.0; value = e.1 })

  unfoldable pub entry_passed : Waiting B W → B × W → Waiting B W
  entry_passed s e =
      pick s.waits
      (pick (ltb s.row (row e.0))
      (comes s.value s e)
      (pick (near e.1 s.before)
      (comes s.before s e)
      (pick (near e.1 s.value) s (comes s.before s e))))
      (comes s.before s e)

  -- what is still to be written
  unfoldable pub still_written : Waiting B W → List (B × W) → List (B × W)
  still_written s [] = pick s.waits ((s.beat, s.value) ∷ []) []
  still_written s (e ∷ entries) = pick (writes s e) ((s.beat, s.value) ∷ still_written (entry_passed s e) entries) (still_written (entry_passed s e) entries)
