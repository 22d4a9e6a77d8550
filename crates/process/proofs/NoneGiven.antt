-- Where no tempo is given, the one of 60 at beat 0 is taken as nothing is, and the list is no longer than it may be. Assumes nothing.
use Prim.Native.Nat.{◌≤◌, max}
use mathlib.Core.Path.{◌≡◌}
use mathlib.Core.Bool.{Bool, true, false}
use mathlib.Core.List.{List, [], ◌∷◌}
use native.Mathlib.Omega.{arith}
use lib.ListN.{length}
use lib.Ieee.{Float}
use borrow.Author.Tests.{ne_eqb}
use Rattle.ieee.specs.Constants.{plus_zero}
use Rattle.picks.specs.Pick.{pick}
use Rattle.process_raw.specs.RawLists.{raw_numbers}
use Rattle.process.specs.ByFormat.{none_given, tempo_beats_of, tempo_values_of}
use Rattle.process.proofs.FormatLists.{sixty-taken}

pub given-number : (beats values stop_beats stop_values : List Float) → raw_numbers (tempo_beats_of beats values) (tempo_values_of beats values) stop_beats stop_values ≡ raw_numbers beats values stop_beats stop_values
unfolding tempo_beats_of tempo_values_of
given-number [] [] stop_beats stop_values = rw sixty-taken
given-number [] (v ∷ values) stop_beats stop_values = rw (ne_eqb (length (v ∷ values)) 0 (λ e. omega arith))
given-number (b ∷ beats) values stop_beats stop_values = rw (ne_eqb (length (b ∷ beats)) 0 (λ e. omega arith))

pub given-length : (beats values : List Float) → length (tempo_beats_of beats values) ≤ max (length beats) 1
unfolding tempo_beats_of
given-length beats values = go (none_given beats values)
  where
    go : (t : Bool) → length (pick t (plus_zero ∷ []) beats) ≤ max (length beats) 1
    go true = omega arith
    go false = omega arith
