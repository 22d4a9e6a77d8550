-- The ends of the calls are their one outcome. Assumes nothing.
use Prim.Native.Nat.{ℕ, ◌≤◌, ◌<◌, min}
use mathlib.Core.Path.{◌≡◌, refl, sym, ap, ◌∙◌}
use mathlib.Core.Bool.{true}
use mathlib.Core.List.{List, map}
use native.Mathlib.Omega.{arith}
use borrow.Author.Tests.{lt-ltb}
use lib.ListN.{length, length-map}
use lib.Ieee.{Float}
use Rattle.rows.specs.Rows.{quantized}
use Rattle.limits.specs.declared.Kind.TheVariants.{Beat, Value}
use Rattle.limits.specs.Numbers.{range_of}
use Rattle.limits.specs.Refusals.{list_number}
use Rattle.limits.proofs.ListTaken.{list-taken}
use Rattle.order.specs.Entries.{entries}
use Rattle.columns.specs.declared.Outcome.{Outcome}
use Rattle.columns.specs.Laying.{room_number, refused_by, LaidPair}
use Rattle.columns.proofs.Rooms.{number-taken}
use Rattle.tidy_rows.specs.RowTidying.{rows_number}
use Rattle.rows.specs.RowKey.{row_key_at, on_its_row}
use Rattle.tidy_kept.specs.Near.{near_to}
use Rattle.tidy_kept.specs.Keeping.{kept_of}
use Rattle.tidy_kept.proofs.ShortestColumn.{many-entries}
use Rattle.tidy_scrolls.specs.ScrollTidying.{tidy_scrolls, scrolls_number, ScrollsTidied}
use Rattle.tidy_scrolls.proofs.Outcomes.{number_of_list, ordered-number}
use Rattle.assembly_rows.specs.AssembledRows.{narrowed_entry, narrowed_front}
use Rattle.limits.specs.Neighbours.{every_two, not_falling}
use Rattle.assembly_rows.proofs.InRowOrder.{rows_never_fall}
use Rattle.assembly_rows.proofs.Outcomes.{refused_as, narrowed-result, number_in_room, number_as_tests}
use Rattle.assembly_scrolls.specs.AssembledScrolls.{assembled_scrolls, assembled_scrolls_number, ScrollsAssembled, scrolls_room_number}
use Rattle.assembly_scrolls.proofs.KeptNoLonger.{kept-few}
use Rattle.assembly_scrolls.proofs.QuantizedTaken.{scrolls-pass}

module _ (beats values : List Float) where
  tidy-few : length (tidy_scrolls (map quantized beats) values) ≤ length beats
  unfolding tidy_scrolls
  tidy-few =
      let list = entries (map quantized beats) values in
      omega (arith, length-map (kept_of row_key_at near_to list) on_its_row, kept-few row_key_at near_to list, many-entries (map quantized beats) values, length-map beats quantized)

  pub no_longer : length (assembled_scrolls beats values) ≤ length beats
  unfolding assembled_scrolls
  no_longer = omega (arith, length-map (tidy_scrolls (map quantized beats) values) narrowed_entry, tidy-few)

  -- by way of columns as long as the beats
  pub by-columns : {beats_old beats_new values_old values_new out_beats_old out_beats_new out_values_old out_values_new : List Float} {tidied outcome : Outcome}
      → length beats_old ≡ length beats → length values_old ≡ length beats
      → ScrollsTidied (map quantized beats) values tidied beats_old beats_new values_old values_new
      → LaidPair tidied.number (narrowed_front tidied.count beats_new values_new) outcome out_beats_old out_beats_new out_values_old out_values_new
      → ScrollsAssembled beats values outcome out_beats_old out_beats_new out_values_old out_values_new
  unfolding assembled_scrolls
  by-columns b v p q = narrowed-result p (λ e. omega (arith, b, v, tidy-few)) q

  -- ---- too many beats
  long-list : 1024 < length beats → list_number (range_of Beat) (range_of Value) (map quantized beats) values ≡ 1
  unfolding list_number
  long-list h = rw (length-map beats quantized, lt-ltb 1024 (length beats) h)

  pub long-number : 1024 < length beats → assembled_scrolls_number beats values ≡ 1
  long-number h = number_of_list (map quantized beats) values (λ e. omega (arith, long-list h, e)) ∙ long-list h

  pub long-refused : (beats_old values_old : List Float) → 1024 < length beats → ScrollsAssembled beats values (refused_by 1) beats_old beats_old values_old values_old
  long-refused beats_old values_old h = refused_as (assembled_scrolls beats values) beats_old values_old (long-number h) (λ e. omega arith)

  pub long-answered : (room : ℕ) → 1024 < length beats → 1 ≡ scrolls_room_number beats values room
  long-answered room h = sym (number_as_tests (assembled_scrolls_number beats values) (length (assembled_scrolls beats values)) room (λ e. omega (arith, long-number h, e)) ∙ long-number h)

  -- ---- a taken list whose beats never fall
  pub taken_at_once : (room : ℕ) → rows_number beats values ≡ 0 → every_two not_falling beats ≡ true → length beats ≤ room → 0 ≡ scrolls_room_number beats values room
  taken_at_once room h t l =
      number-taken (assembled_scrolls_number beats values) (length (assembled_scrolls beats values)) room
      (ordered-number (map quantized beats) values (scrolls-pass beats values h) (rows_never_fall beats (list-taken h).beats_in t)) (omega (arith, no_longer))

  -- ---- any other, in rooms of 1,024 at most
  pub answered : (room : ℕ) {n : ℕ} {outcome : Outcome} {beats_old beats_new values_old values_new : List Float} → length beats ≤ 1024 → n ≡ min room 1024 → length beats_old ≡ n → length values_old ≡ n
      → ScrollsAssembled beats values outcome beats_old beats_new values_old values_new → outcome.number ≡ scrolls_room_number beats values room
  answered room {n} {outcome} {beats_old} {beats_new} {values_old} few e b v p =
      p.number ∙ number_in_room (assembled_scrolls_number beats values) (length (assembled_scrolls beats values)) (min (length beats_old) (length values_old)) room (omega (arith, no_longer)) (omega (arith, e, b, v))
