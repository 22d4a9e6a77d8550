-- The entries of a list from a place on, laid one by one behind what is written. Assumes nothing.
use Rattle.std.proofs.Common.{◌≡◌, ℕ, ◌+◌, ◌<◌, ◌≤◌, List, [], ◌∷◌, map, length, get_or, set, ap, ◌∙◌, add-one, arith, length-set}
use lib.Ieee.{Float, nan}
use Rattle.rows.specs.Rows.{quantized32}
use Rattle.order.specs.Entries.{first, second}
use Rattle.process_sm_walk.specs.inside.Written.{laid_from}
use Rattle.process_sm_walk.specs.inside.NoWarp.{quantized_entry32, rowed}
use Rattle.process_sm_walk.proofs.NextChange.{at, entries_from, entries-end}

-- after the entries before i, with what the columns hold by then
pub record Laying (beats values : List Float) (from written : ℕ) (beats₀ values₀ beats_now values_now : List Float) (i count : ℕ) : Type 0 where
  pub counts : count + length (rowed beats values i) ≡ written + length (rowed beats values from)
  pub laid_beats : laid_from count (map first (rowed beats values i)) beats_now ≡ laid_from written (map first (rowed beats values from)) beats₀
  pub laid_values : laid_from count (map second (rowed beats values i)) values_now ≡ laid_from written (map second (rowed beats values from)) values₀
  pub same_beats : length beats_now ≡ length beats₀
  pub same_values : length values_now ≡ length values₀

module _ {beats values beats₀ values₀ beats_now values_now : List Float} {from written i count : ℕ} (l : Laying beats values from written beats₀ values₀ beats_now values_now i count)
    (e : length beats ≡ length values) where
  module _ (h : i < length beats) where
    next : rowed beats values i ≡ quantized_entry32 (at beats values i) ∷ rowed beats values (i + 1)
    next = rw (add-one i) (ap (map quantized_entry32) (entries_from beats values i e h))

    pub room-left : count < written + length (rowed beats values from)
    room-left = let s = rw next at l.counts in omega arith

    pub laid_one : (beat value : Float) → beat ≡ quantized32 (get_or beats i nan) → value ≡ get_or values i nan
        → Laying beats values from written beats₀ values₀ (set beats_now count beat) (set values_now count value) (i + 1) (count + 1)
    unfolding laid_from
    laid_one beat value b v =
        let s = rw next at l.counts in
        record {
          counts = omega arith;
          laid_beats = rw b (rw next at l.laid_beats);
          laid_values = rw v (rw next at l.laid_values);
          same_beats = length-set beats_now count beat ∙ l.same_beats;
          same_values = length-set values_now count value ∙ l.same_values;
        }

  pub laid-all : length beats ≤ i
      → (count ≡ written + length (rowed beats values from))
      × ((beats_now ≡ laid_from written (map first (rowed beats values from)) beats₀)
      × (values_now ≡ laid_from written (map second (rowed beats values from)) values₀))
  unfolding laid_from
  laid-all h =
      let none : rowed beats values i ≡ [] = ap (map quantized_entry32) (entries-end beats values i h) in
      let s = rw none at l.counts in
      (omega arith, (rw none at l.laid_beats, rw none at l.laid_values))
