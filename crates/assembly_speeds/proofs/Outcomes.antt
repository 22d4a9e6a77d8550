-- The ends of the calls are their one outcome. Assumes nothing.
use Prim.Native.Nat.{ℕ, ◌≤◌, ◌<◌, min}
use mathlib.Core.Path.{◌≡◌, sym, ap, ◌∙◌}
use mathlib.Core.Bool.{true}
use mathlib.Core.List.{List, map}
use native.Mathlib.Omega.{arith}
use borrow.Author.Tests.{lt-ltb}
use lib.ListN.{length, length-map}
use Rattle.chart.specs.ChartColumns.{SpeedColumns}
use Rattle.rows.specs.Rows.{quantized}
use Rattle.order.specs.Order.{laid}
use Rattle.order.specs.Entries.{first}
use Rattle.columns.specs.declared.Outcome.{Outcome}
use Rattle.columns.specs.Laying.{refused_by, given}
use Rattle.columns.proofs.Rooms.{number-taken}
use Rattle.rows.specs.RowKey.{row_key_at}
use Rattle.tidy_kept.specs.Keeping.{kept_of}
use Rattle.tidy_kept.proofs.Answered.{tests-first}
use Rattle.tidy_speeds_entries.specs.Speed.{SpeedEntry, near_speed, speed_entries, speed_on_row}
use Rattle.tidy_speeds_entries.specs.LaidSpeeds.{ratio_of, delay_of, unit_of, least_of}
use Rattle.tidy_speeds_entries.proofs.SpeedColumns.{many-speeds}
use Rattle.tidy_speeds_entries.proofs.Rooms.{refused_by_tests}
use Rattle.tidy_speeds.specs.SpeedTidying.{speed_list_number, tidy_speeds, speeds_number, SpeedsTidied}
use Rattle.tidy_speeds.proofs.ListTaken.{speeds-taken}
use Rattle.tidy_speeds.proofs.Outcomes.{ordered-number}
use Rattle.limits.specs.Neighbours.{every_two, not_falling}
use Rattle.assembly_rows.proofs.InRowOrder.{rows_never_fall}
use Rattle.assembly_rows.proofs.Outcomes.{number_as_tests, number_with_room, number_in_room, tests-passed, given-same, room-same}
use Rattle.assembly_scrolls.proofs.KeptNoLonger.{kept-few}
use Rattle.assembly_speeds.specs.AssembledSpeeds.{narrowed_speed, assembled_speeds, assembled_speeds_number, SpeedsOver, SpeedsAssembled, speeds_room_number}
use Rattle.assembly_speeds.specs.inside.NarrowedSpeeds.{narrowed_speeds}
use Rattle.assembly_speeds.proofs.NarrowedSpeeds.{front_of_result}
use Rattle.assembly_speeds.proofs.QuantizedTaken.{speeds-pass}

-- ---- under a refusal any two results are the same
pub speeds-same : {tests : ℕ} {one other : List SpeedEntry} {outcome : Outcome} {old new : SpeedColumns} → (tests ≡ 0 → one ≡ other)
    → SpeedsOver tests one outcome old new → SpeedsOver tests other outcome old new
speeds-same {tests} {one} {other} {outcome} {old} same p =
    let room = least_of (length old.beats) (length old.ratios) (length old.delays) (length old.units) in
    let lists : given outcome.number one ≡ given outcome.number other =
    given-same outcome.number one other (λ e. same (tests-passed tests (length one) room (sym p.number ∙ e))) in
    record {
      number = p.number ∙ room-same tests (length one) (length other) room (λ e. ap length (same e));
      count = p.count ∙ ap length lists;
      beats_are = p.beats_are ∙ ap (λ (l : List SpeedEntry). laid (map first l) old.beats) lists;
      ratios_are = p.ratios_are ∙ ap (λ (l : List SpeedEntry). laid (map ratio_of l) old.ratios) lists;
      delays_are = p.delays_are ∙ ap (λ (l : List SpeedEntry). laid (map delay_of l) old.delays) lists;
      units_are = p.units_are ∙ ap (λ (l : List SpeedEntry). laid (map unit_of l) old.units) lists;
    }

-- ---- a result in columns that hold it, narrowed
module _ {tests : ℕ} {result : List SpeedEntry} {outcome : Outcome} {old new : SpeedColumns} (p : SpeedsOver tests result outcome old new)
    (fits : length result ≤ least_of (length old.beats) (length old.ratios) (length old.delays) (length old.units)) where
  its_number : outcome.number ≡ tests
  its_number = p.number ∙ number_with_room tests (length result) (least_of (length old.beats) (length old.ratios) (length old.delays) (length old.units)) (λ e. fits)

  read_back : outcome.number ≡ 0 → narrowed_speeds outcome.count new ≡ map narrowed_speed result
  unfolding given
  read_back e =
      let counted = rw e at p.count in
      let beats_are = rw e at p.beats_are in
      let ratios_are = rw e at p.ratios_are in
      let delays_are = rw e at p.delays_are in
      let units_are = rw e at p.units_are in
      rw (beats_are, ratios_are, delays_are, units_are) (front_of_result result old outcome.count counted)

  narrowed-result : {outcome' : Outcome} {out_old out_new : SpeedColumns} → SpeedsOver outcome.number (narrowed_speeds outcome.count new) outcome' out_old out_new
      → SpeedsOver tests (map narrowed_speed result) outcome' out_old out_new
  narrowed-result q = rw its_number at (speeds-same read_back q)

module _ (raw : SpeedColumns) where
  tidy-few : length (tidy_speeds (map quantized raw.beats) raw.ratios raw.delays raw.units) ≤ length raw.beats
  unfolding tidy_speeds
  tidy-few =
      let list = speed_entries (map quantized raw.beats) raw.ratios raw.delays raw.units in
      omega (arith, length-map (kept_of row_key_at near_speed list) speed_on_row, kept-few row_key_at near_speed list, many-speeds raw.ratios raw.delays raw.units (map quantized raw.beats), length-map raw.beats quantized)

  pub no_longer : length (assembled_speeds raw) ≤ length raw.beats
  unfolding assembled_speeds
  no_longer = omega (arith, length-map (tidy_speeds (map quantized raw.beats) raw.ratios raw.delays raw.units) narrowed_speed, tidy-few)

  -- by way of columns as long as the beats
  pub by-columns : {old new : SpeedColumns} {tidied outcome : Outcome} {out_old out_new : SpeedColumns}
      → length old.beats ≡ length raw.beats → length old.ratios ≡ length raw.beats → length old.delays ≡ length raw.beats → length old.units ≡ length raw.beats
      → SpeedsTidied (map quantized raw.beats) raw.ratios raw.delays raw.units tidied old.beats new.beats old.ratios new.ratios old.delays new.delays old.units new.units
      → SpeedsOver tidied.number (narrowed_speeds tidied.count new) outcome out_old out_new
      → SpeedsAssembled raw outcome out_old out_new
  unfolding assembled_speeds
  by-columns b r d u p q = narrowed-result p (omega (arith, b, r, d, u, tidy-few)) q

  -- ---- too many beats
  long-list : 1024 < length raw.beats → speed_list_number (map quantized raw.beats) raw.ratios raw.delays raw.units ≡ 1
  unfolding speed_list_number
  long-list h = rw (length-map raw.beats quantized, lt-ltb 1024 (length raw.beats) h)

  long-number : 1024 < length raw.beats → assembled_speeds_number raw ≡ 1
  unfolding speeds_number
  long-number h =
      tests-first row_key_at near_speed (speed_entries (map quantized raw.beats) raw.ratios raw.delays raw.units) (speed_list_number (map quantized raw.beats) raw.ratios raw.delays raw.units) (λ e. omega (arith, long-list h, e)) (omega (arith, long-list h)) ∙ long-list h

  pub long-refused : (old : SpeedColumns) → 1024 < length raw.beats → SpeedsAssembled raw (refused_by 1) old old
  long-refused old h = go 1 (long-number h) (λ e. omega arith)
    where
      go : (number : ℕ) → assembled_speeds_number raw ≡ number → (number ≡ 0 → ⊥) → SpeedsAssembled raw (refused_by number) old old
      go number e k = rw (← e) (refused_by_tests (assembled_speeds_number raw) (assembled_speeds raw) old.beats old.ratios old.delays old.units (λ z. k (sym e ∙ z)))

  pub long-answered : (room : ℕ) → 1024 < length raw.beats → 1 ≡ speeds_room_number raw room
  long-answered room h =
      sym (number_as_tests (assembled_speeds_number raw) (length (assembled_speeds raw)) room (λ e. omega (arith, long-number h, e)) ∙ long-number h)

  -- ---- a taken list whose beats never fall
  pub taken_at_once : (room : ℕ) → speed_list_number raw.beats raw.ratios raw.delays raw.units ≡ 0 → every_two not_falling raw.beats ≡ true → length raw.beats ≤ room → 0 ≡ speeds_room_number raw room
  taken_at_once room h t l =
      number-taken (assembled_speeds_number raw) (length (assembled_speeds raw)) room
      (ordered-number (map quantized raw.beats) raw.ratios raw.delays raw.units (speeds-pass raw.beats raw.ratios raw.delays raw.units h) (rows_never_fall raw.beats (speeds-taken h).beats_in t)) (omega (arith, no_longer))

  -- ---- any other, in rooms of 1,024 at most
  pub answered : (room : ℕ) {n : ℕ} {outcome : Outcome} {old new : SpeedColumns}
      → length raw.beats ≤ 1024 → n ≡ min room 1024 → length old.beats ≡ n → length old.ratios ≡ n → length old.delays ≡ n → length old.units ≡ n
      → SpeedsAssembled raw outcome old new → outcome.number ≡ speeds_room_number raw room
  answered room {n} {outcome} {old} few e b r d u p =
      p.number
      ∙ number_in_room (assembled_speeds_number raw) (length (assembled_speeds raw)) (least_of (length old.beats) (length old.ratios) (length old.delays) (length old.units)) room
      (omega (arith, no_longer)) (omega (arith, e, b, r, d, u))
