-- What is quantised is taken: a taken beat, and any value at all, since a row is held at the ends of an i32. So a taken list passes the tests of what tidying is given.
-- Assumes nothing.
use Prim.Native.Nat.{◌≤◌}
use mathlib.Core.Path.{◌≡◌, refl}
use mathlib.Core.Bool.{Bool, true}
use mathlib.Core.List.{List, [], ◌∷◌, map}
use lib.ListN.{length, length-map}
use lib.Ieee.{Float}
use Rattle.rows.specs.Rows.{quantized}
use Rattle.limits.specs.declared.Kind.TheVariants.{Beat, Value}
use Rattle.limits.specs.Numbers.{in_range, range_of, every, all_in}
use Rattle.limits.proofs.Every.{every_rest}
use Rattle.limits.proofs.ListTaken.{list-taken, list-passes}
use Rattle.tidy_rows.specs.RowTidying.{rows_number}
use Rattle.columns_each.proofs.QuantizedNumbers.{quantized_value_taken, quantized_beat_taken}
use Rattle.assembly_rows.specs.AssembledRows.{change_by, assembled_number}
use Rattle.assembly_rows.specs.declared.Meaning.{Meaning}
use Rattle.assembly_rows.specs.declared.Meaning.TheVariants.{Lengths, Values}

-- ---- columns
every_map : {A B : Type 0} (test : A → Bool) (other : B → Bool) (f : A → B) → ((x : A) → test x ≡ true → other (f x) ≡ true) → (l : List A) → every test l ≡ true → every other (map f l) ≡ true
unfolding every
every_map test other f so [] h = refl
every_map test other f so (x ∷ l) h = let both = every_rest test x l h in rw (so x both.0) (every_map test other f so l both.1)

every-changed : {A B : Type 0} (other : B → Bool) (f : A → B) → ((x : A) → other (f x) ≡ true) → (l : List A) → every other (map f l) ≡ true
unfolding every
every-changed other f so [] = refl
every-changed other f so (x ∷ l) = rw (so x) (every-changed other f so l)

pub quantized_beats_taken : (beats : List Float) → all_in (range_of Beat) beats ≡ true → all_in (range_of Beat) (map quantized beats) ≡ true
quantized_beats_taken = every_map (in_range (range_of Beat)) (in_range (range_of Beat)) quantized quantized_beat_taken

pub changed_values_taken : (meaning : Meaning) (values : List Float) → all_in (range_of Value) values ≡ true → all_in (range_of Value) (map (change_by meaning) values) ≡ true
changed_values_taken Lengths values h = every-changed (in_range (range_of Value)) (change_by Lengths) quantized_value_taken values
changed_values_taken Values values h = every_map (in_range (range_of Value)) (in_range (range_of Value)) (change_by Values) (λ x k. k) values h

-- ---- lists
module _ (beats values : List Float) where
  both-passes : (change : Float → Float) → length beats ≤ 1024 → length beats ≡ length values → all_in (range_of Beat) beats ≡ true → all_in (range_of Value) (map change values) ≡ true → assembled_number change beats values ≡ 0
  both-passes change few even b v =
      list-passes (range_of Beat) (range_of Value) (map quantized beats) (map change values) (simp length-map few) (simp length-map even) (quantized_beats_taken beats b) v

  -- a taken list
  pub quantized-taken : (meaning : Meaning) → rows_number beats values ≡ 0 → assembled_number (change_by meaning) beats values ≡ 0
  quantized-taken meaning h = let is = list-taken h in both-passes (change_by meaning) is.few is.even is.beats_in (changed_values_taken meaning values is.values_in)
