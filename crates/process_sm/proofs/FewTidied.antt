-- Tidied tempos are no more than are given, or one. Assumes nothing.
use Rattle.std.proofs.Common.{◌≤◌, max, Bool, true, false, List, [], ◌∷◌, length, arith}
use lib.Ieee.{Float, eq}
use Rattle.picks.specs.Pick.{pick}
use Rattle.order.specs.Order.{tidied}
use Rattle.order.specs.Entries.{entries}
use Rattle.order.proofs.TidiedList.{tidied-length}
use Rattle.tidy_tempos.specs.TempoTidying.{beat_key_of, from_zero_else, changes_after, changes, tidy_tempos}
use Rattle.tidy_tempos.proofs.FromZero.{from_zero_length}

fewer-changes : (value : Float) (list : List (Float × Float)) → length (changes_after value list) ≤ length list
unfolding changes_after
fewer-changes value [] = omega arith
fewer-changes value (e ∷ list) = go (eq e.1 value) (fewer-changes value list) (fewer-changes e.1 list)
  where
    go : (t : Bool) → length (changes_after value list) ≤ length list → length (changes_after e.1 list) ≤ length list → length (pick t (changes_after value list) (e ∷ changes_after e.1 list)) ≤ length (e ∷ list)
    go true h k = omega arith
    go false h k = omega arith

few-changed : (list : List (Float × Float)) → length (changes list) ≤ length list
unfolding changes
few-changed [] = omega arith
few-changed (e ∷ list) = omega (arith, fewer-changes e.1 list)

pub entries-few : (beats values : List Float) → length (entries beats values) ≤ length beats
unfolding entries
entries-few [] values = omega arith
entries-few (b ∷ beats) [] = omega arith
entries-few (b ∷ beats) (v ∷ values) = omega (arith, entries-few beats values)

pub few-tidied : (beats values : List Float) → length (tidy_tempos beats values) ≤ max (length beats) 1
unfolding tidy_tempos
few-tidied [] values = omega arith
few-tidied (b ∷ beats) values =
    let all = entries (b ∷ beats) values in
    omega (arith, few-changed (from_zero_else (tidied beat_key_of all)), from_zero_length (tidied beat_key_of all), tidied-length beat_key_of all, entries-few (b ∷ beats) values)
