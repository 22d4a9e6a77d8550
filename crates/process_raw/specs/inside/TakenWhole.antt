-- A raw list of which nothing is dropped, and a test that has told so. Definitions only.
use Rattle.std.specs.Prelude.{List, Bool, true, ◌≡◌, Float, length}
use Rattle.process_raw.specs.RawLists.{raw_number}

-- a list that is taken, and of which nothing is dropped: `stayed` is what stays of a list
pub record TakenWhole (stayed : List Float → List Float → List (Float × Float)) (beats values : List Float) : Type 0 where
  pub number : raw_number beats values ≡ 0
  pub stay : length (stayed beats values) ≡ length beats

-- what a test has told of a list
abbrev pub Known : (List Float → List Float → List (Float × Float)) → Bool → List Float → List Float → Type 0
Known stayed whole beats values = whole ≡ true → TakenWhole stayed beats values
