-- An answer to lists of the report is at most 45,400 bytes long. Assumes nothing.
use Prim.Native.Nat.{ℕ, ◌+◌, ◌≤◌}
use mathlib.Core.Path.{◌≡◌, refl, sym, ap, ◌∙◌}
use mathlib.Core.Bool.{Bool, true, false}
use mathlib.Core.List.{List, [], map, ◌++◌}
use native.Mathlib.Omega.{arith}
use borrow.Author.Tests.{eqb-true}
use lib.Dec.{eqb}
use lib.ListN.{length, length-map, length-append}
use lib.Ieee.{Float}
use Rattle.picks.specs.Pick.{pick}
use Rattle.ieee.specs.Narrowing.{narrow}
use Rattle.limits.specs.Refusals.{lower}
use Rattle.limits.proofs.NoRefusal.{lower-none}
use Rattle.order.specs.Entries.{first, second}
use Rattle.columns.specs.Laying.{room_number}
use Rattle.tidy_speeds_entries.specs.LaidSpeeds.{ratio_of, delay_of, unit_of}
use Rattle.chart.specs.declared.TimingFormat.{TimingFormat}
use Rattle.assembly_warps.specs.MergedWarps.{three_number}
use Rattle.assembly_warps.proofs.Merging.{taken-fits}
use Rattle.assembly_tempos.specs.AssembledTempos.{assembled_tempos, assembled_stops, assembled_warps, fit_number, three_rooms}
use Rattle.assembly_tempos.proofs.ProcessedColumns.{all_fit}
use Rattle.assembly_scrolls.specs.AssembledScrolls.{assembled_scrolls}
use Rattle.assembly_speeds.specs.AssembledSpeeds.{assembled_speeds}
use Rattle.chart.specs.ChartColumns.{ChartColumns}
use Rattle.assembly.specs.Assembly.{assembled_delays, assembled_fakes, processed_chart}
use Rattle.assembly.proofs.Ends.{none-refused, others-fit}
use Rattle.report_text.specs.Output.{answer_line}
use Rattle.report_text.proofs.TextSizes.{FewEach, answer-size, taken_answer_size, lists-size}
use Rattle.report_whole.specs.Taken.{timing_lists, taken_number, taken_lists, taken_text}

-- a list that fits in 256 places, by any of its columns
few_of : {A B : Type 0} (field : A → B) (tests : ℕ) (list : List A) → room_number tests (length list) 256 ≡ 0 → length (map field list) ≤ 256
few_of field tests list h = omega (arith, length-map list field, (taken-fits (sym h)).1)

both-few : (line rest : List ℕ) (a b : ℕ) → length line ≤ a → length rest ≤ b → a + b ≤ 45400 → length (line ++ rest) ≤ 45400
both-few line rest a b l r h = simp length-append (omega arith)

module _ (format : TimingFormat) (raw : ChartColumns) where
  abbrev number : ℕ
  number = taken_number format raw

  few-each : number ≡ 0 → FewEach (timing_lists format raw)
  few-each z =
      let made = processed_chart format raw in
      let later = (none-refused _ _ _ _ z).later_taken in
      let three = all_fit _ _ _ _ later in
      let others = others-fit raw.delays raw.speeds raw.scrolls raw.fakes 256 256 256 256 (lower-none _ _ later).0 in
      record {
        tempos = few_of first 0 (assembled_tempos made) three.tempo_fit;
        stops = few_of first 0 (assembled_stops made) three.stop_fit;
        delays = few_of first 0 (assembled_delays raw.delays.beats raw.delays.values) others.delays_fit;
        warps = few_of first 0 (assembled_warps made) three.warp_fit;
        speeds = few_of first _ (assembled_speeds raw.speeds) others.speeds_fit;
        scrolls = few_of first _ (assembled_scrolls raw.scrolls.beats raw.scrolls.values) others.scrolls_fit;
        fakes = few_of first 0 (assembled_fakes raw.fakes.beats raw.fakes.values) others.fakes_fit;
      }

  pub taken-size : length (taken_text format raw) ≤ 45400
  unfolding taken_text
  taken-size = by_case (eqb number 0) refl
    where
      by_case : (t : Bool) → eqb number 0 ≡ t → length (answer_line number ++ pick t (taken_lists format raw) []) ≤ 45400
      by_case false e = both-few (answer_line number) [] 28 0 (answer-size number) (omega arith) (omega arith)
      by_case true e =
          let none = eqb-true number 0 e in
          let short : length (answer_line number) ≤ 9 = omega (arith, ap (λ (n : ℕ). length (answer_line n)) none, taken_answer_size) in
          both-few (answer_line number) (taken_lists format raw) 9 45383 short (lists-size _ _ _ _ _ (few-each none)) (omega arith)
