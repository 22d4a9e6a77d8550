-- THE REPORT: where assembly answers as its contract says, what is written is the text of the lists that its definitions give. Assumes nothing.
use Prim.Native.Nat.{ℕ}
use mathlib.Core.Path.{◌≡◌, refl, sym, ap, ◌∙◌}
use mathlib.Core.Bool.{Bool, true, false}
use mathlib.Core.List.{List, [], ◌∷◌, map, ◌++◌}
use borrow.Author.Tests.{eqb-true}
use lib.Dec.{eqb}
use lib.ListN.{length, take, length-map}
use lib.Seq.{take_at}
use lib.Ieee.{Float}
use Rattle.picks.specs.Pick.{pick}
use Rattle.ieee.specs.Narrowing.{narrow}
use Rattle.order.specs.Order.{laid}
use Rattle.order.specs.Entries.{entries, first, second}
use Rattle.order.proofs.Columns.{entries-columns}
use Rattle.columns.specs.Laying.{given, column_laid}
use Rattle.tidy_speeds_entries.specs.LaidSpeeds.{ratio_of, delay_of, unit_of}
use Rattle.chart.specs.declared.TimingFormat.{TimingFormat}
use Rattle.chart.specs.ChartColumns.{ListColumns, ChartColumns, ChartRoom, room_for_each}
use Rattle.assembly.specs.declared.Assembled.{Assembled}
use Rattle.assembly.specs.Assembly.{processed_chart, moved_beats, moved_total, Assembles}
use Rattle.assembly.proofs.Ends.{none-refused}
use Rattle.assembly.proofs.WithoutMarks.{as_many_marks}
use Rattle.assembly_marks.specs.LentMarks.{MarkColumns}
use Rattle.assembly_tempos.specs.AssembledTempos.{assembled_warps}
use Rattle.lookup_warped.specs.WarpedRows.{warped_rows}
use Rattle.lookup_warped.specs.OnePass.{one_pass}
use Rattle.lookup_warped_laws.proofs.AssembledOnce.{assembled-once}
use Rattle.report_text.specs.Output.{answer_line, lists_text, front_lists}
use Rattle.report_answer.specs.Report.{done_text}
use Rattle.report_whole.specs.Taken.{all_written, timing_lists, timing_marks, taken_number, taken_lists, taken_text}
use Rattle.report_whole.proofs.SameColumns.{same-chart}

-- the front of a column that a taken result was laid over
front-laid : {A B : Type 0} (field : A → B) (number count : ℕ) (result : List A) (old new : List B) → number ≡ 0 → count ≡ length (given number result) → new ≡ column_laid field number result old → take count new ≡ map field result
unfolding given laid
front-laid field number count result old new z c n = rw (n, c, z) (take_at (map field result) _ (length result) (length-map result field))

-- how many entries of each list were written
abbrev pub written : Assembled → ChartRoom
written done = record {
  tempos = done.tempos;
  stops = done.stops;
  delays = done.delays;
  warps = done.warps;
  speeds = done.speeds;
  scrolls = done.scrolls;
  fakes = done.fakes;
}

-- the pass over two columns
abbrev pub pass_of : ListColumns → ℕ
pass_of warps = one_pass (entries warps.beats warps.values)

module _ (format : TimingFormat) (raw : ChartColumns) (done : Assembled) (marks : MarkColumns) (old new : ChartColumns) (left : List ℕ) (made : Assembles 256 format raw marks done old new left)
    (written-given : marks.given ≡ all_written raw.warps) {warped moved : ℕ}
    (pass : warped ≡ pass_of (front_lists (written done) new).warps) (total : moved ≡ moved_total done.moved) where
  -- the columns' fronts are the lists
  fronts-are : done.number ≡ 0 → front_lists (written done) new ≡ timing_lists format raw
  fronts-are z =
      same-chart (record {
        tempo_beats = front-laid first _ _ _ _ _ z made.tempos_are.counted made.tempos_are.first_is;
        tempo_values = front-laid second _ _ _ _ _ z made.tempos_are.counted made.tempos_are.second_is;
        stop_beats = front-laid first _ _ _ _ _ z made.stops_are.counted made.stops_are.first_is;
        stop_values = front-laid second _ _ _ _ _ z made.stops_are.counted made.stops_are.second_is;
        delay_beats = front-laid first _ _ _ _ _ z made.delays_are.counted made.delays_are.first_is;
        delay_values = front-laid second _ _ _ _ _ z made.delays_are.counted made.delays_are.second_is;
        warp_beats = front-laid first _ _ _ _ _ z made.warps_are.counted made.warps_are.first_is;
        warp_lengths = front-laid second _ _ _ _ _ z made.warps_are.counted made.warps_are.second_is;
        speed_beats = front-laid first _ _ _ _ _ z made.speeds_are.counted made.speeds_are.beats_are;
        speed_ratios = front-laid ratio_of _ _ _ _ _ z made.speeds_are.counted made.speeds_are.ratios_are;
        speed_delays = front-laid delay_of _ _ _ _ _ z made.speeds_are.counted made.speeds_are.delays_are;
        speed_units = front-laid unit_of _ _ _ _ _ z made.speeds_are.counted made.speeds_are.units_are;
        scroll_beats = front-laid first _ _ _ _ _ z made.scrolls_are.counted made.scrolls_are.first_is;
        scroll_values = front-laid second _ _ _ _ _ z made.scrolls_are.counted made.scrolls_are.second_is;
        fake_beats = front-laid first _ _ _ _ _ z made.fakes_are.counted made.fakes_are.first_is;
        fake_lengths = front-laid second _ _ _ _ _ z made.fakes_are.counted made.fakes_are.second_is;
      })

  -- and so are the marks' front
  marks-are : done.number ≡ 0 → taken_number format raw ≡ 0 → take done.warps left ≡ timing_marks format raw
  unfolding given laid
  marks-are z taken =
      let passed = (none-refused _ _ _ _ taken).raw_taken in
      let counted : done.warps ≡ length (assembled_warps (processed_chart format raw)) = rw z at made.warps_are.counted in
      let all : left ≡ laid (timing_marks format raw) marks.room = rw (z, written-given) at made.marks_are in
      rw all (take_at (timing_marks format raw) _ done.warps (as_many_marks format raw (all_written raw.warps) passed ∙ sym counted))

  abbrev lists : List ℕ
  lists = lists_text done.offset warped moved (take done.warps left) (front_lists (written done) new)

  -- of the timing's warps the pass is the number of warped rows
  rows_are : taken_number format raw ≡ 0 → front_lists (written done) new ≡ timing_lists format raw → warped ≡ warped_rows (assembled_warps (processed_chart format raw))
  rows_are taken fronts =
      pass ∙ ap (λ (c : ChartColumns). pass_of c.warps) fronts ∙ ap one_pass (entries-columns (assembled_warps (processed_chart format raw)))
      ∙ assembled-once 256 format raw (all_written raw.warps) (room_for_each 256) taken

  lists-are : done.number ≡ 0 → taken_number format raw ≡ 0 → lists ≡ taken_lists format raw
  lists-are z taken =
      let fronts = fronts-are z in
      let rows = rows_are taken fronts in
      let offset : done.offset ≡ narrow (processed_chart format raw).offset = made.offset_is ∙ rw z in
      let counts : done.moved ≡ moved_beats format raw = made.moved_are ∙ rw z in
      ap (lists_text done.offset warped moved (take done.warps left)) fronts ∙ rw (marks-are z taken, rows, offset, total, counts)

  pub done_is_taken : done.number ≡ taken_number format raw → done_text done.number done.offset warped moved left (written done) new ≡ taken_text format raw
  unfolding done_text taken_text
  done_is_taken n = ap (λ (k : ℕ). answer_line k ++ pick (eqb k 0) lists []) n ∙ by_case (eqb number 0) refl
    where
      number : ℕ
      number = taken_number format raw

      by_case : (t : Bool) → eqb number 0 ≡ t → answer_line number ++ pick (eqb number 0) lists [] ≡ answer_line number ++ pick (eqb number 0) (taken_lists format raw) []
      by_case false e = rw e
      by_case true e = ap (λ (l : List ℕ). answer_line number ++ pick (eqb number 0) l []) (let taken = eqb-true number 0 e in lists-are (n ∙ taken) taken)
