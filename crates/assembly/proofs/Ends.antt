-- The lists that are not processed, under the number of all: what they answer, and that each is laid where all are taken. Assumes nothing.
use Prim.Native.Nat.{ℕ, ◌≤◌, min}
use mathlib.Core.Path.{◌≡◌, refl, sym, ap, ◌∙◌}
use mathlib.Core.Bool.{Bool, true, false}
use mathlib.Core.List.{List, []}
use native.Mathlib.Omega.{arith}
use borrow.Author.Tests.{eq-eqb, eqb-true, leb-true}
use lib.Dec.{leb, eqb}
use lib.ListN.{length}
use lib.Ieee.{Float}
use Rattle.picks.specs.Pick.{pick}
use Rattle.limits.specs.Refusals.{lower}
use Rattle.limits.proofs.NoRefusal.{lower-none}
use Rattle.order.specs.Order.{laid}
use Rattle.columns.specs.declared.Outcome.{Outcome}
use Rattle.columns.specs.Laying.{room_number, LaidPair, LaidList}
use Rattle.columns.proofs.Rooms.{nothing-given, list_of_pair}
use Rattle.process_raw.specs.RawLists.{room_for}
use Rattle.tidy_speeds_entries.specs.Speed.{SpeedEntry}
use Rattle.tidy_speeds.specs.SpeedTidying.{speed_list_number}
use Rattle.process.specs.ByFormat.{ThreeLists}
use Rattle.assembly_rows.specs.AssembledRows.{change_by, assembled_rows, RowsUntested, rows_fit_in}
use Rattle.assembly_rows.proofs.QuantizedTaken.{quantized-taken}
use Rattle.assembly_rows.proofs.Untested.{untested_taken}
use Rattle.assembly_scrolls.specs.AssembledScrolls.{assembled_scrolls, scrolls_room_number, scrolls_later}
use Rattle.assembly_scrolls.proofs.Untested as scrolls
use Rattle.assembly_speeds.specs.AssembledSpeeds.{assembled_speeds, speeds_room_number, speeds_later, SpeedsOver}
use Rattle.assembly_speeds.proofs.Untested as speeds
use Rattle.assembly_tempos.specs.declared.AssembledTempos.{AssembledTempos}
use Rattle.process_raw.specs.LentLists.{ThreeColumns}
use Rattle.assembly_tempos.specs.AssembledTempos.{made_warps, verdict, fit_number, rooms_number, ListWritten, ThreeLaid}
use Rattle.assembly_tempos.proofs.RowsFit.{fit-number}
use Rattle.chart.specs.declared.TimingFormat.{TimingFormat}
use Rattle.chart.specs.ChartColumns.{ListColumns, SpeedColumns, ChartColumns, ChartRoom}
use Rattle.assembly_marks.specs.LentMarks.{MarkColumns, with_made}
use Rattle.assembly.specs.declared.Assembled.{Assembled}
use Rattle.assembly.specs.inside.ProcessedPart.{processed_part}
use Rattle.assembly.specs.Assembly.{list_tests, assembled_delays, assembled_fakes, others_number, others_later, seven_number, seven_with_marks, processed_together, processed_chart, room_of, moved_beats, none_moved, SpeedsWritten, Assembles}
use Rattle.assembly_rows.specs.declared.Meaning.{Meaning}
use Rattle.assembly_rows.specs.declared.Meaning.TheVariants.{Lengths, Values}

-- ---- four columns under one number

pub speeds-refused : {number : ℕ} {result : List SpeedEntry} {old : SpeedColumns} → (number ≡ 0 → ⊥) → SpeedsWritten number result 0 old old
unfolding laid
speeds-refused {number} {result} h =
    let none = nothing-given result number h in
    record { counted = rw none; beats_are = rw none; ratios_are = rw none; delays_are = rw none; units_are = rw none }

pub speeds-laid : {tests : ℕ} {result : List SpeedEntry} {outcome : Outcome} {old new : SpeedColumns} → SpeedsOver tests result outcome old new → outcome.number ≡ 0 → SpeedsWritten 0 result outcome.count old new
speeds-laid p h = record { counted = rw h at p.count; beats_are = rw h at p.beats_are; ratios_are = rw h at p.ratios_are; delays_are = rw h at p.delays_are; units_are = rw h at p.units_are }

-- ---- the number of all

pub record Passed (raw warps most later : ℕ) : Type 0 where
  pub raw_taken : raw ≡ 0
  pub few_warps : warps ≤ min most 1024
  pub later_taken : later ≡ 0

pub none-refused : (raw warps most later : ℕ) → verdict raw warps most later ≡ 0 → Passed raw warps most later
unfolding verdict
none-refused raw warps most later h = go (eqb raw 0) (leb warps (min most 1024)) refl refl h
  where
    go : (t u : Bool) → eqb raw 0 ≡ t → leb warps (min most 1024) ≡ u → pick t (pick u later 1) raw ≡ 0 → Passed raw warps most later
    go true true a b k = record { raw_taken = eqb-true raw 0 a; few_warps = leb-true warps (min most 1024) b; later_taken = k }
    go true false a b k = absurd (omega arith)
    go false u a b k = let z : ◌≡◌ {A = Bool} true false = sym (eq-eqb raw 0 k) ∙ a in let w : ◌≡◌ {A = ℕ} 0 1 = cc in absurd (omega arith)

-- what comes later counts only where the raw lists are taken
pub same-later : {raw later later' most : ℕ} {lists : ThreeLists} {marks : MarkColumns} {outcome : AssembledTempos} {old new : ThreeColumns} {left : List ℕ} → (raw ≡ 0 → later ≡ later')
    → ThreeLaid raw later most lists marks outcome old new left
    → ThreeLaid raw later' most lists marks outcome old new left
unfolding verdict
same-later {raw} {later} {later'} {most} {lists} {marks} {outcome} {old} h p = record {
  number = p.number ∙ go (eqb raw 0) (eqb-true raw 0);
  tempos_laid = p.tempos_laid;
  stops_laid = p.stops_laid;
  warps_laid = p.warps_laid;
  marks_laid = p.marks_laid;
  offset_is = p.offset_is;
  warps_moved = p.warps_moved;
}
  where
    go : (t : Bool) → (t ≡ true → raw ≡ 0)
        → pick t (pick (leb (length lists.warps) (min most 1024)) (lower later (rooms_number lists old (length marks.room))) 1) raw
        ≡ pick t (pick (leb (length lists.warps) (min most 1024)) (lower later' (rooms_number lists old (length marks.room))) 1) raw
    go true e = rw (h (e refl))
    go false e = refl

-- ---- the other lists

pub record OthersTaken (delay : ListColumns) (speed : SpeedColumns) (scroll fake : ListColumns) : Type 0 where
  pub delays : list_tests delay.beats delay.values ≡ 0
  pub speeds : speed_list_number speed.beats speed.ratios speed.delays speed.units ≡ 0
  pub scrolls : list_tests scroll.beats scroll.values ≡ 0
  pub fakes : list_tests fake.beats fake.values ≡ 0

module _ (delay : ListColumns) (speed : SpeedColumns) (scroll fake : ListColumns) where
  pub others-taken : others_number delay speed scroll fake ≡ 0 → OthersTaken delay speed scroll fake
  others-taken h =
      let d = list_tests delay.beats delay.values in
      let s = speed_list_number speed.beats speed.ratios speed.delays speed.units in
      let c = list_tests scroll.beats scroll.values in
      let f = list_tests fake.beats fake.values in
      let one = lower-none (lower (lower d s) c) f h in
      let two = lower-none (lower d s) c one.0 in
      let three = lower-none d s two.0 in
      record { delays = three.0; speeds = three.1; scrolls = two.1; fakes = one.1 }

  -- rooms that are the same
  pub same-rooms : {a a' b b' c c' d d' : ℕ} → a ≡ a' → b ≡ b' → c ≡ c' → d ≡ d' → others_later delay speed scroll fake a b c d ≡ others_later delay speed scroll fake a' b' c' d'
  same-rooms p q r s = rw (p, q, r, s)

  module _ (delay_room speed_room scroll_room fake_room : ℕ) where
    pub later-is : others_number delay speed scroll fake ≡ 0
        → lower (lower (lower (pick (rows_fit_in Values delay.beats delay.values delay_room) 0 7) (speeds_later speed speed_room)) (scrolls_later scroll.beats scroll.values scroll_room)) (pick (rows_fit_in Lengths fake.beats fake.values fake_room) 0 7)
        ≡ others_later delay speed scroll fake delay_room speed_room scroll_room fake_room
    later-is h =
        let taken = others-taken h in
        rw (
          fit-number Values delay.beats delay.values delay_room taken.delays,
          fit-number Lengths fake.beats fake.values fake_room taken.fakes,
          speeds.later-taken speed taken.speeds speed_room,
          scrolls.later-taken scroll.beats scroll.values taken.scrolls scroll_room,
        )

    pub record OthersFit : Type 0 where
      pub delays_fit : fit_number (assembled_delays delay.beats delay.values) delay_room ≡ 0
      pub speeds_fit : speeds_room_number speed speed_room ≡ 0
      pub scrolls_fit : scrolls_room_number scroll.beats scroll.values scroll_room ≡ 0
      pub fakes_fit : fit_number (assembled_fakes fake.beats fake.values) fake_room ≡ 0

    pub others-fit : others_later delay speed scroll fake delay_room speed_room scroll_room fake_room ≡ 0 → OthersFit
    others-fit h =
        let d = fit_number (assembled_delays delay.beats delay.values) delay_room in
        let s = speeds_room_number speed speed_room in
        let c = scrolls_room_number scroll.beats scroll.values scroll_room in
        let f = fit_number (assembled_fakes fake.beats fake.values) fake_room in
        let one = lower-none (lower (lower d s) c) f h in
        let two = lower-none (lower d s) c one.0 in
        let three = lower-none d s two.0 in
        record { delays_fit = three.0; speeds_fit = three.1; scrolls_fit = two.1; fakes_fit = one.1 }

-- a row list that is taken and fits
rows-pair : (meaning : Meaning) (beats values : List Float) {outcome : Outcome} {beats_old beats_new values_old values_new : List Float} → list_tests beats values ≡ 0
    → RowsUntested meaning beats values outcome beats_old beats_new values_old values_new
    → LaidPair 0 (assembled_rows (change_by meaning) beats values) outcome beats_old beats_new values_old values_new
rows-pair meaning beats values taken q = rw (quantized-taken beats values meaning taken) at (untested_taken beats values meaning taken q)

pub rows-number : (meaning : Meaning) (beats values : List Float) {outcome : Outcome} {beats_old beats_new values_old values_new : List Float} → list_tests beats values ≡ 0 → fit_number (assembled_rows (change_by meaning) beats values) (room_for beats_old values_old) ≡ 0
    → RowsUntested meaning beats values outcome beats_old beats_new values_old values_new
    → outcome.number ≡ 0
rows-number meaning beats values taken fit q = (rows-pair meaning beats values taken q).number ∙ fit

pub rows-laid : (meaning : Meaning) (beats values : List Float) {outcome : Outcome} {beats_old beats_new values_old values_new : List Float} → list_tests beats values ≡ 0 → fit_number (assembled_rows (change_by meaning) beats values) (room_for beats_old values_old) ≡ 0
    → RowsUntested meaning beats values outcome beats_old beats_new values_old values_new
    → LaidList 0 (assembled_rows (change_by meaning) beats values) outcome.count beats_old beats_new values_old values_new
rows-laid meaning beats values taken fit q = list_of_pair (rows-pair meaning beats values taken q) (rows-number meaning beats values taken fit q)

-- ---- what tempos, stops and warps answer is the number of all

module _ (three other' marked later' : ℕ) {other later most : ℕ} {lists : ThreeLists} {marks : MarkColumns} {outcome : AssembledTempos} {old new : ThreeColumns} {left : List ℕ} where
  pub as_asked : other ≡ other' → (other' ≡ 0 → later ≡ later')
      → ThreeLaid (lower (lower three other) marked) later most lists marks outcome old new left
      → ThreeLaid (lower (lower three other') marked) later' most lists marks outcome old new left
  as_asked e h p = same-later (λ z. h (lower-none three other' (lower-none (lower three other') marked z).0).1) (rw e at p)

module _ {raw later most : ℕ} {lists : ThreeLists} {marks : MarkColumns} {outcome : AssembledTempos} {old new : ThreeColumns} {left : List ℕ}
    (p : ThreeLaid raw later most lists marks outcome old new left) (taken : outcome.number ≡ 0) where
  pub taken-part : ThreeLaid raw later most lists marks (record { number = 0; tempos = outcome.tempos; stops = outcome.stops; warps = outcome.warps; offset = outcome.offset; moved = outcome.moved }) old new left
  taken-part = record {
    number = sym taken ∙ p.number;
    tempos_laid = rw taken at p.tempos_laid;
    stops_laid = rw taken at p.stops_laid;
    warps_laid = rw taken at p.warps_laid;
    marks_laid = rw taken at p.marks_laid;
    offset_is = rw taken at p.offset_is;
    warps_moved = rw taken at p.warps_moved;
  }

  pub all-passed : (raw ≡ 0) × (later ≡ 0)
  all-passed =
      let rooms = rooms_number lists old (length marks.room) in
      let passed = none-refused raw (length lists.warps) most (lower later rooms) (sym p.number ∙ taken) in
      (passed.raw_taken, (lower-none later rooms passed.later_taken).0)

-- ---- the call

-- what the other lists answer where they are taken
abbrev later : ChartColumns → ChartRoom → ℕ
later raw room = others_later raw.delays raw.speeds raw.scrolls raw.fakes room.delays room.speeds room.scrolls room.fakes

-- what tempos, stops and warps leave, and what each other list does
pub assembles : {most : ℕ} {format : TimingFormat} {raw : ChartColumns} {marks : MarkColumns} {outcome : Assembled} {old new : ChartColumns} {left : List ℕ}
    → ThreeLaid (seven_with_marks raw marks.given) (later raw (room_of old (length marks.room))) most (processed_chart format raw)
    (with_made (made_warps format (processed_together raw)) marks) (processed_part outcome) (processed_together old) (processed_together new) left
    → ListWritten outcome.number (assembled_delays raw.delays.beats raw.delays.values) outcome.delays old.delays new.delays
    → SpeedsWritten outcome.number (assembled_speeds raw.speeds) outcome.speeds old.speeds new.speeds
    → ListWritten outcome.number (assembled_scrolls raw.scrolls.beats raw.scrolls.values) outcome.scrolls old.scrolls new.scrolls
    → ListWritten outcome.number (assembled_fakes raw.fakes.beats raw.fakes.values) outcome.fakes old.fakes new.fakes
    → outcome.moved ≡ pick (eqb outcome.number 0) (moved_beats format raw) none_moved
    → Assembles most format raw marks outcome old new left
assembles three delays speeds scrolls fakes moved = record {
  number_is = three.number;
  tempos_are = three.tempos_laid;
  stops_are = three.stops_laid;
  delays_are = delays;
  warps_are = three.warps_laid;
  marks_are = three.marks_laid;
  speeds_are = speeds;
  scrolls_are = scrolls;
  fakes_are = fakes;
  offset_is = three.offset_is;
  moved_are = moved;
}
