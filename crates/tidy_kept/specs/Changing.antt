-- An entry placed by its place: which part of the kept list goes, and what comes there. Definitions only.
use Rattle.std.specs.Prelude.{ℕ, ◌+◌, ◌-◌, Bool, true, false, List, [], ◌∷◌, ◌++◌, ltb, leb, eqb, length, take, drop}
use Rattle.limits.specs.Table.{most_entries}
use Rattle.picks.specs.Pick.{pick}
use Rattle.order.specs.Order.{laid}
use Rattle.tidy_kept.specs.declared.Change.{Change}

-- what comes, where something does
abbrev pub coming : {A : Type 0} → Bool → A → List A
coming comes x = pick comes (x ∷ []) []

-- the places from low up to high go, and x comes there
unfoldable pub spliced : {A : Type 0} → ℕ → ℕ → Bool → A → List A → List A
spliced low high comes x list = take low list ++ (coming comes x ++ drop high list)

-- the same of the first n of a column that is longer; where the numbers do not fit, nothing is done
unfoldable pub spliced_in : {A : Type 0} → ℕ → ℕ → ℕ → Bool → A → List A → List A
spliced_in n low high comes x column =
    pick (ltb n (length column))
    (pick (leb high n) (pick (leb low high) (laid (spliced low high comes x (take n column)) column) column) column)
    column

abbrev pub change : ℕ → ℕ → Bool → Bool → Bool → Change
change low high comes moves falls = record { low = low; high = high; comes = comes; moves = moves; falls = falls }

-- behind the front that is kept: without a last one on the entry's row, unless it is the only one
abbrev pub cut : ℕ → Bool → ℕ
cut last beat_on_row = pick beat_on_row (pick (eqb last 0) 1 last) (last + 1)

-- What becomes of an entry, a name for each branch of the original's function. It is held against the last kept entry on rows up to its own, or where that one
-- is on its row against the one before.
pub data Branch : Type 0 where
  -- near that one and the next one: the next one goes
  both_near : Branch
  -- near the next one alone: that one moves to its beat
  next_near : Branch
  -- near the one it is held against: it does not come
  previous_near : Branch
  -- on the row of the last one and near that: nothing changes
  same_again : Branch
  -- on the row of the last one: it takes that one's place
  in_place : Branch
  -- else it comes behind the last one
  behind_last : Branch

-- by whether the last one is on its row, and whether its value is near that of the next one, of the one it is held against, and of the last one
abbrev pub branch_of : (beat_on_row near_next near_previous near_last_of : Bool) → Branch
branch_of beat_on_row near_next near_previous near_last_of =
    pick near_next
    (pick near_previous both_near next_near)
    (pick near_previous previous_near (pick beat_on_row (pick near_last_of same_again in_place) behind_last))

-- What a branch comes to where `at` kept entries are on rows up to its own. In the first three, a last one on its row goes too, unless it is the only one.
-- `moves`: what comes has the value of the next one. `falls`: the kept list falls then.
abbrev pub change_where : (at : ℕ) (beat_on_row : Bool) → Branch → Change
change_where at beat_on_row both_near = change (cut (at - 1) beat_on_row) (at - 1 + 2) false false false
change_where at beat_on_row next_near = change (cut (at - 1) beat_on_row) (at - 1 + 2) true true (eqb at 0)
change_where at beat_on_row previous_near = change (cut (at - 1) beat_on_row) (at - 1 + 1) false false false
change_where at beat_on_row same_again = change at at false false false
change_where at beat_on_row in_place = change (at - 1) at true false false
change_where at beat_on_row behind_last = change at at true false false

-- the change that an entry makes
unfoldable pub change_of : (at : ℕ) (beat_on_row near_next near_previous near_last_of : Bool) → Change
change_of at beat_on_row near_next near_previous near_last_of =
    pick (ltb most_entries at) (change 0 0 false false false) (change_where at beat_on_row (branch_of beat_on_row near_next near_previous near_last_of))
