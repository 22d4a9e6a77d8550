-- The front of two columns as f32: how long it is, its columns, and a result that was laid there, read back. Assumes nothing.
use Prim.Native.Nat.{ℕ, zero, suc, ◌≤◌, min}
use mathlib.Core.Path.{◌≡◌, refl, sym, ap, ap₂, ◌∙◌}
use mathlib.Core.List.{List, [], ◌∷◌, map, map-map}
use native.Mathlib.Omega.{arith}
use lib.ListN.{length, take, length-map, length-take}
use lib.Seq.{take_at, length-take-le}
use lib.Ieee.{Float}
use Rattle.ieee.specs.Narrowing.{narrow}
use Rattle.order.specs.Order.{laid}
use Rattle.order.specs.Entries.{entries, first, second}
use Rattle.order.proofs.Columns.{length-entries, first-entries, second-entries, entries-columns}
use Rattle.assembly_rows.specs.AssembledRows.{narrowed_entry, narrowed_front}

-- the front of a room is what was laid over it
pub front-laid : {A : Type 0} (new old : List A) (n : ℕ) → n ≡ length new → take n (laid new old) ≡ new
unfolding laid
front-laid new old n h = take_at new _ n (sym h)

-- a front is no longer than what is there
same-front : {A B : Type 0} (count n : ℕ) (firsts : List A) (seconds : List B) → n ≡ min count (min (length firsts) (length seconds))
    → entries (take count firsts) (take count seconds) ≡ entries (take n firsts) (take n seconds)
unfolding entries
same-front zero zero firsts seconds h = refl
same-front zero (suc n) firsts seconds h = absurd (omega arith)
same-front (suc count) zero [] seconds h = refl
same-front (suc count) zero (a ∷ firsts) [] h = refl
same-front (suc count) zero (a ∷ firsts) (b ∷ seconds) h = absurd (omega arith)
same-front (suc count) (suc n) [] seconds h = absurd (omega arith)
same-front (suc count) (suc n) (a ∷ firsts) [] h = absurd (omega arith)
same-front (suc count) (suc n) (a ∷ firsts) (b ∷ seconds) h = ap (◌∷◌ (a, b)) (same-front count n firsts seconds (omega arith))

module _ (count n : ℕ) (firsts seconds : List Float) (h : n ≡ min count (min (length firsts) (length seconds))) where
  even : length (take n firsts) ≡ length (take n seconds)
  even = length-take-le n firsts (omega arith) ∙ sym (length-take-le n seconds (omega arith))

  is : narrowed_front count firsts seconds ≡ map narrowed_entry (entries (take n firsts) (take n seconds))
  is = ap (map narrowed_entry) (same-front count n firsts seconds h)

  pub front_length : length (narrowed_front count firsts seconds) ≡ n
  front_length =
      ap length is ∙ length-map (entries (take n firsts) (take n seconds)) narrowed_entry ∙ length-entries (take n firsts) (take n seconds) even ∙ length-take-le n firsts (omega arith)

  pub front-firsts : map first (narrowed_front count firsts seconds) ≡ map narrow (take n firsts)
  front-firsts =
      ap (map first) is ∙ map-map first narrowed_entry (entries (take n firsts) (take n seconds)) ∙ sym (map-map narrow first (entries (take n firsts) (take n seconds)))
      ∙ ap (map narrow) (first-entries (take n firsts) (take n seconds) even)

  pub front-seconds : map second (narrowed_front count firsts seconds) ≡ map narrow (take n seconds)
  front-seconds =
      ap (map second) is ∙ map-map second narrowed_entry (entries (take n firsts) (take n seconds)) ∙ sym (map-map narrow second (entries (take n firsts) (take n seconds)))
      ∙ ap (map narrow) (second-entries (take n firsts) (take n seconds) even)

-- a result that lies over the fronts of both columns
pub front_of_result : (result : List (Float × Float)) (first_old second_old : List Float) (count : ℕ) → count ≡ length result
    → narrowed_front count (laid (map first result) first_old) (laid (map second result) second_old) ≡ map narrowed_entry result
front_of_result result first_old second_old count h =
    ap (map narrowed_entry)
    (ap₂ entries (front-laid (map first result) first_old count (h ∙ sym (length-map result first))) (front-laid (map second result) second_old count (h ∙ sym (length-map result second)))
    ∙ entries-columns result)
