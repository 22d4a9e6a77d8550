-- What mending leaves in columns of 256 places, as far as it is counted: the written list, and the fates. Assumes nothing.
use Prim.Native.Nat.{ℕ, ◌≤◌, min}
use mathlib.Core.Path.{◌≡◌, refl, sym, ap, ◌∙◌}
use mathlib.Core.List.{List, [], ◌∷◌, map}
use native.Mathlib.Omega.{arith}
use lib.ListN.{length, take, length-map}
use lib.Seq.{take_at}
use lib.Ieee.{Float}
use Rattle.order.specs.Order.{laid}
use Rattle.order.specs.Entries.{entries, first, second}
use Rattle.order.proofs.Columns.{entries-columns}
use Rattle.columns.specs.declared.Outcome.{Outcome}
use Rattle.columns.specs.Laying.{room_number, given}
use Rattle.columns.proofs.Rooms.{number-taken}
use Rattle.limits.proofs.ListTaken.{list-taken}
use Rattle.chart.specs.ChartColumns.{ListColumns, SpeedColumns}
use Rattle.tidy_kept.specs.Near.{near_to}
use Rattle.tidy_kept.proofs.ShortestColumn.{many-entries}
use Rattle.tidy_speeds_entries.specs.Speed.{SpeedEntry, near_speed, speed_entries, speeds_in}
use Rattle.tidy_speeds_entries.specs.LaidSpeeds.{ratio_of, delay_of, unit_of, least_length}
use Rattle.tidy_speeds_entries.proofs.SpeedColumns.{many-speeds}
use Rattle.tidy_speeds.proofs.ListTaken.{speeds-taken}
use Rattle.mend_scrolls.specs.MendedScrolls.{scroll_entries, mended_scrolls, scroll_fates, scroll_tests, ScrollsMended}
use Rattle.mend_speeds.specs.MendedSpeeds.{mended_speeds, speed_fates, speed_tests, SpeedsMended}
use Rattle.mend_text.proofs.ListSizes.{few-written, as_many_fates}

-- the front of what a taken call laid
front-laid : {A B : Type 0} (part : A → B) (number count : ℕ) (list : List A) (old : List B) {new : List B} → number ≡ 0 → count ≡ length (given number list) → new ≡ laid (map part (given number list)) old
    → take count new ≡ map part list
unfolding given laid
front-laid part number count list old z c e =
    let long : length (map part list) ≡ count = length-map list part ∙ sym (rw z at c) in
    ap (take count) (rw z at e) ∙ take_at (map part list) _ count long

fates-front : (number n : ℕ) (fates old : List ℕ) {new : List ℕ} → number ≡ 0 → length fates ≡ n → new ≡ laid (given number fates) old → take n new ≡ fates
unfolding given laid
fates-front number n fates old z c e = ap (take n) (rw z at e) ∙ take_at fates _ n c

module _ {scrolls old new : ListColumns} {fates_old fates_new : List ℕ} {outcome : Outcome} (m : ScrollsMended scrolls outcome old new fates_old fates_new) (h : scroll_tests scrolls ≡ 0)
    (few : length scrolls.beats ≤ 256) (b : length old.beats ≡ 256) (v : length old.values ≡ 256) (f : length fates_old ≡ 256) where
  raw-long : length (scroll_entries scrolls) ≡ length scrolls.beats
  raw-long = omega (arith, many-entries scrolls.beats scrolls.values, (list-taken h).even)

  number_is : outcome.number ≡ 0
  number_is =
      m.list.number
      ∙ sym (number-taken (room_number (scroll_tests scrolls) (length scrolls.beats) (length fates_old)) (length (mended_scrolls scrolls)) (min (length old.beats) (length old.values))
      (sym (number-taken (scroll_tests scrolls) (length scrolls.beats) (length fates_old) h (omega arith))) (omega (arith, few-written near_to (scroll_entries scrolls), raw-long)))

  pub scrolls-front : entries (take outcome.count new.beats) (take outcome.count new.values) ≡ mended_scrolls scrolls
  scrolls-front =
      rw (
        front-laid first outcome.number outcome.count (mended_scrolls scrolls) old.beats number_is m.list.count m.list.first_is,
        front-laid second outcome.number outcome.count (mended_scrolls scrolls) old.values number_is m.list.count m.list.second_is,
      )
      (entries-columns (mended_scrolls scrolls))

  pub scroll_fates_front : take (length scrolls.beats) fates_new ≡ scroll_fates scrolls
  scroll_fates_front = fates-front outcome.number (length scrolls.beats) (scroll_fates scrolls) fates_old number_is (as_many_fates near_to (scroll_entries scrolls) ∙ raw-long) m.fates_are

-- four columns that are the same as four others
pub same-speeds : {a a' b b' c c' : List Float} {d d' : List ℕ} → a ≡ a' → b ≡ b' → c ≡ c' → d ≡ d' → speed_entries a b c d ≡ speed_entries a' b' c' d'
same-speeds a b c d = λ i. speed_entries (a i) (b i) (c i) (d i)

speed-columns : (list : List SpeedEntry) → speed_entries (map first list) (map ratio_of list) (map delay_of list) (map unit_of list) ≡ list
unfolding entries
speed-columns [] = refl
speed-columns (e ∷ list) = ap (◌∷◌ e) (speed-columns list)

module _ {speeds old new : SpeedColumns} {fates_old fates_new : List ℕ} {outcome : Outcome} (m : SpeedsMended speeds outcome old new fates_old fates_new) (h : speed_tests speeds ≡ 0)
    (few : length speeds.beats ≤ 256) (room : least_length old ≡ 256) (f : length fates_old ≡ 256) where
  speeds-long : length (speeds_in speeds) ≡ length speeds.beats
  speeds-long =
      let taken = speeds-taken h in
      omega (arith, many-speeds speeds.ratios speeds.delays speeds.units speeds.beats, taken.ratios_even, taken.delays_even, taken.units_even)

  speeds_number_is : outcome.number ≡ 0
  speeds_number_is =
      m.list.number
      ∙ sym (number-taken (room_number (speed_tests speeds) (length speeds.beats) (length fates_old)) (length (mended_speeds speeds)) (least_length old)
      (sym (number-taken (speed_tests speeds) (length speeds.beats) (length fates_old) h (omega arith))) (omega (arith, few-written near_speed (speeds_in speeds), speeds-long)))

  abbrev n : ℕ
  n = outcome.count

  pub speeds-front : speed_entries (take outcome.count new.beats) (take outcome.count new.ratios) (take outcome.count new.delays) (take outcome.count new.units) ≡ mended_speeds speeds
  speeds-front =
      let z = speeds_number_is in
      let list = mended_speeds speeds in
      rw (
        front-laid first outcome.number n list old.beats z m.list.count m.list.beats_are,
        front-laid ratio_of outcome.number n list old.ratios z m.list.count m.list.ratios_are,
        front-laid delay_of outcome.number n list old.delays z m.list.count m.list.delays_are,
        front-laid unit_of outcome.number n list old.units z m.list.count m.list.units_are,
      )
      (speed-columns list)

  pub speed_fates_front : take (length speeds.beats) fates_new ≡ speed_fates speeds
  speed_fates_front = fates-front outcome.number (length speeds.beats) (speed_fates speeds) fates_old speeds_number_is (as_many_fates near_speed (speeds_in speeds) ∙ speeds-long) m.fates_are
