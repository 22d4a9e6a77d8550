-- Entries that a text may hold, and the numbers in them: the words in which the form's laws are said. Definitions only.
use Rattle.std.specs.Prelude.{ℕ, ◌^◌, ◌<◌, ◌≡◌, Bool, true, List, [], ◌∷◌, ltb, eqb, length}
use Rattle.picks.specs.Pick.{pick}
use Rattle.report_form.specs.Form.{follows, over}
use Rattle.report_form.specs.Text.{Pair, Entry, pair, speed, entry_list, text}

-- an entry's numbers are 64 bits wide, a unit is one digit
pub data Fits : Entry → Type 0 where
  pair_fits : {of : Pair} {beat value : ℕ} → beat < 2 ^ 64 → value < 2 ^ 64 → Fits (pair of beat value)
  speed-fits : {beat ratio wait unit : ℕ} → beat < 2 ^ 64 → ratio < 2 ^ 64 → wait < 2 ^ 64 → unit < 10 → Fits (speed beat ratio wait unit)

-- entries that a text may hold after a line of list `last`: their lists in order, each entry of numbers that fit
pub data Orderly : ℕ → List Entry → Type 0 where
  none : {last : ℕ} → Orderly last []
  one : {last : ℕ} {entry : Entry} {entries : List Entry} → follows last (entry_list entry) ≡ true → Fits entry → Orderly (entry_list entry) entries → Orderly last (entry ∷ entries)

-- bytes that are the text of a format and of entries in order, behind the format line
pub record TextOf (bytes : List ℕ) : Type 0 where
  pub ssc : Bool
  pub entries : List Entry
  pub orderly : Orderly 1 entries
  pub is : bytes ≡ text ssc entries

-- the number in a part of an entry, and those that the entries of a list have there
abbrev pub part_of : Entry → ℕ → ℕ
part_of (pair of beat value) part = pick (eqb part 1) beat value
part_of (speed beat ratio wait unit) part = pick (eqb part 1) beat (pick (eqb part 2) ratio (pick (eqb part 3) wait unit))

unfoldable pub numbers_of : ℕ → ℕ → List Entry → List ℕ
numbers_of list part [] = []
numbers_of list part (entry ∷ entries) = pick (eqb (entry_list entry) list) (part_of entry part ∷ numbers_of list part entries) (numbers_of list part entries)

-- how many entries of a list there are
abbrev pub entries_of : ℕ → List Entry → ℕ
entries_of list entries = length (numbers_of list 1 entries)

-- a count as it is kept: 257 stands for every number above 256
abbrev pub held : ℕ → ℕ
held count = pick (ltb 256 count) 257 count

-- one of the seven lists has more than 256 entries
abbrev pub too_many : List Entry → Bool
too_many entries = over (entries_of 2 entries ∷ entries_of 3 entries ∷ entries_of 4 entries ∷ entries_of 5 entries ∷ entries_of 6 entries ∷ entries_of 7 entries ∷ entries_of 8 entries ∷ [])
