-- What is said of an assembled chart leaves one outcome: the number, the seven counts, the offset and the entries off the grid, and all rooms to their last place; and
-- marks change nothing of it but themselves. Assumes nothing.
use Prim.Native.Nat.{ℕ}
use mathlib.Core.Path.{◌≡◌, sym, ap₂, ◌∙◌}
use mathlib.Core.List.{List}
use lib.ListN.{length}
use Rattle.columns.proofs.OneOutcome.{one_list}
use Rattle.chart.specs.declared.TimingFormat.{TimingFormat}
use Rattle.chart.specs.ChartColumns.{SpeedColumns, ChartColumns}
use Rattle.tidy_speeds_entries.specs.Speed.{SpeedEntry}
use Rattle.assembly_marks.specs.LentMarks.{MarkColumns}
use Rattle.assembly.specs.declared.Assembled.{Assembled}
use Rattle.assembly_tempos.specs.AssembledTempos.{verdict}
use Rattle.assembly.specs.Assembly.{processed_chart, seven_with_marks, later_number, room_of, SpeedsWritten, Assembles}

one-speeds : {number : ℕ} {result : List SpeedEntry} {count_a count_b : ℕ} {old new_a new_b : SpeedColumns} → SpeedsWritten number result count_a old new_a → SpeedsWritten number result count_b old new_b
    → (count_a ≡ count_b) × (new_a.beats ≡ new_b.beats) × (new_a.ratios ≡ new_b.ratios) × (new_a.delays ≡ new_b.delays) × (new_a.units ≡ new_b.units)
one-speeds x y = (cc, cc, cc, cc, cc)

-- the marks decide of everything else only the number
same_but_marks : {most : ℕ} {format : TimingFormat} {raw old new_a new_b : ChartColumns} {a b : Assembled} {marks_a marks_b : MarkColumns} {left_a left_b : List ℕ} → a.number ≡ b.number
    → Assembles most format raw marks_a a old new_a left_a → Assembles most format raw marks_b b old new_b left_b
    → (a ≡ b) × (new_a ≡ new_b)
same_but_marks {a = a} {b = b} number x y =
    let tempos = one_list x.tempos_are (rw (sym number) at y.tempos_are) in
    let stops = one_list x.stops_are (rw (sym number) at y.stops_are) in
    let delays = one_list x.delays_are (rw (sym number) at y.delays_are) in
    let warps = one_list x.warps_are (rw (sym number) at y.warps_are) in
    let speeds = one-speeds x.speeds_are (rw (sym number) at y.speeds_are) in
    let scrolls = one_list x.scrolls_are (rw (sym number) at y.scrolls_are) in
    let fakes = one_list x.fakes_are (rw (sym number) at y.fakes_are) in
    let offset = x.offset_is ∙ sym (rw (sym number) at y.offset_is) in
    let moved = x.moved_are ∙ sym (rw (sym number) at y.moved_are) in (
      λ i. record {
        number = number i;
        tempos = tempos.0 i;
        stops = stops.0 i;
        delays = delays.0 i;
        warps = warps.0 i;
        speeds = speeds.0 i;
        scrolls = scrolls.0 i;
        fakes = fakes.0 i;
        offset = offset i;
        moved = moved i;
      },
      λ i. record {
        tempos = record { beats = tempos.1 i; values = tempos.2 i };
        stops = record { beats = stops.1 i; values = stops.2 i };
        delays = record { beats = delays.1 i; values = delays.2 i };
        warps = record { beats = warps.1 i; values = warps.2 i };
        speeds = record { beats = speeds.1 i; ratios = speeds.2 i; delays = speeds.3 i; units = speeds.4 i };
        scrolls = record { beats = scrolls.1 i; values = scrolls.2 i };
        fakes = record { beats = fakes.1 i; values = fakes.2 i };
      },
    )

pub one_outcome : {most : ℕ} {format : TimingFormat} {raw old new_a new_b : ChartColumns} {a b : Assembled} {marks : MarkColumns} {left_a left_b : List ℕ}
    → Assembles most format raw marks a old new_a left_a → Assembles most format raw marks b old new_b left_b
    → (a ≡ b) × (new_a ≡ new_b) × (left_a ≡ left_b)
one_outcome {a = a} {b = b} x y =
    let number : a.number ≡ b.number = x.number_is ∙ sym y.number_is in
    let same = same_but_marks number x y in
    (same.0, same.1, x.marks_are ∙ sym (rw (sym number) at y.marks_are))

-- Whatever the marks are: where they are taken and have the same room, all lists, counts and the offset are the same.
pub marks_change_nothing : {most : ℕ} {format : TimingFormat} {raw old new_a new_b : ChartColumns} {a b : Assembled} {marks_a marks_b : MarkColumns} {left_a left_b : List ℕ}
    → seven_with_marks raw marks_a.given ≡ 0 → seven_with_marks raw marks_b.given ≡ 0 → length marks_a.room ≡ length marks_b.room
    → Assembles most format raw marks_a a old new_a left_a → Assembles most format raw marks_b b old new_b left_b
    → (a ≡ b) × (new_a ≡ new_b)
marks_change_nothing {most} {format} {raw} {old} {a = a} {b = b} p q room x y =
    let under : ℕ → ℕ → ℕ = λ number mark_room. verdict number (length (processed_chart format raw).warps) most (later_number format raw (room_of old mark_room)) in
    let number : a.number ≡ b.number = x.number_is ∙ ap₂ under (p ∙ sym q) room ∙ sym y.number_is in
    same_but_marks number x y
