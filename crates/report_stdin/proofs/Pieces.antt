-- Pieces fed one after the other are their bytes fed at once, and a read that failed is a byte 0 fed. Assumes nothing.
use Prim.Native.Nat.{ℕ}
use mathlib.Core.Path.{◌≡◌, refl, sym, ap, ◌∙◌}
use mathlib.Core.List.{List, [], ◌∷◌, ◌++◌}
use lib.IntN.{ℤ, pos, negsuc}
use Rattle.chart.specs.ChartColumns.{ChartColumns}
use Rattle.report_form.specs.declared.Reading.{Reading}
use Rattle.report_form.specs.declared.Store.{Store}
use Rattle.report_form.specs.Form.{step_of, read_on}
use Rattle.report_form.specs.Stores.{nothing, store_of, stored_in, number_in, unit_in, count_in, column_after}
use Rattle.report_form.proofs.NoZeroByte.{zero_no_store}
use Rattle.report_stdin.specs.Fed.{Fed}
use Rattle.report_stdin.specs.Answers.{after_answer}

after-join : (reading : Reading) (bytes more : List ℕ) → read_on (read_on reading bytes) more ≡ read_on reading (bytes ++ more)
unfolding read_on
after-join reading [] more = refl
after-join reading (byte ∷ bytes) more = after-join (step_of reading byte) bytes more

column-join : {A : Type 0} (change : Store → A → A) (reading : Reading) (bytes more : List ℕ) (column : A)
    → column_after change (read_on reading bytes) more (column_after change reading bytes column) ≡ column_after change reading (bytes ++ more) column
unfolding read_on column_after
column-join change reading [] more column = refl
column-join change reading (byte ∷ bytes) more column = column-join change (step_of reading byte) bytes more (change (store_of reading byte (step_of reading byte)) column)

-- one column over two pieces
joined : {A : Type 0} (change : Store → A → A) (begun half : Reading) (bytes more : List ℕ) (old middle new : A) → half ≡ read_on begun bytes → middle ≡ column_after change begun bytes old → new ≡ column_after change half more middle → new ≡ column_after change begun (bytes ++ more) old
joined change begun half bytes more old middle new h m n = n ∙ ap (λ (r : Reading). column_after change r more middle) h ∙ ap (column_after change (read_on begun bytes) more) m ∙ column-join change begun bytes more old

pub fed_none : {begun reading : Reading} {counts : List ℕ} {lists : ChartColumns}
    → reading ≡ begun → Fed begun reading counts counts lists lists
unfolding read_on column_after
fed_none same = record { bytes = []; read = same; counts = refl; tempo_beats = refl; tempo_values = refl; stop_beats = refl; stop_values = refl; delay_beats = refl; delay_values = refl; warp_beats = refl; warp_lengths = refl; speed_beats = refl; speed_ratios = refl; speed_delays = refl; speed_units = refl; scroll_beats = refl; scroll_values = refl; fake_beats = refl; fake_lengths = refl }

-- a byte 0 completes no number: each column stays as it is
idle : {A : Type 0} (change : Store → A → A) (reading : Reading) (column : A) → column ≡ change nothing column → column ≡ column_after change reading (0 ∷ []) column
unfolding column_after
idle change reading column e = e ∙ ap (λ (store : Store). change store column) (sym (zero_no_store reading (step_of reading 0)))

pub fed_zero : {begun reading : Reading} {counts : List ℕ} {lists : ChartColumns}
    → reading ≡ step_of begun 0 → Fed begun reading counts counts lists lists
unfolding read_on count_in stored_in
fed_zero {begun} same =
    record {
      bytes = 0 ∷ [];
      read = same;
      counts = idle count_in begun _ refl;
      tempo_beats = idle (number_in 2 1) begun _ refl;
      tempo_values = idle (number_in 2 2) begun _ refl;
      stop_beats = idle (number_in 3 1) begun _ refl;
      stop_values = idle (number_in 3 2) begun _ refl;
      delay_beats = idle (number_in 4 1) begun _ refl;
      delay_values = idle (number_in 4 2) begun _ refl;
      warp_beats = idle (number_in 5 1) begun _ refl;
      warp_lengths = idle (number_in 5 2) begun _ refl;
      speed_beats = idle (number_in 6 1) begun _ refl;
      speed_ratios = idle (number_in 6 2) begun _ refl;
      speed_delays = idle (number_in 6 3) begun _ refl;
      speed_units = idle (unit_in 6 4) begun _ refl;
      scroll_beats = idle (number_in 7 1) begun _ refl;
      scroll_values = idle (number_in 7 2) begun _ refl;
      fake_beats = idle (number_in 8 1) begun _ refl;
      fake_lengths = idle (number_in 8 2) begun _ refl;
    }

pub fed_join : {begun half reading : Reading} {counts_old counts_half counts_new : List ℕ} {old between new : ChartColumns}
    → Fed begun half counts_old counts_half old between → Fed half reading counts_half counts_new between new
    → Fed begun reading counts_old counts_new old new
fed_join {begun} {half} {reading} a b =
    record {
      bytes = a.bytes ++ b.bytes;
      read = b.read ∙ ap (λ (r : Reading). read_on r b.bytes) a.read ∙ after-join begun a.bytes b.bytes;
      counts = joined count_in begun half a.bytes b.bytes _ _ _ a.read a.counts b.counts;
      tempo_beats = joined (number_in 2 1) begun half a.bytes b.bytes _ _ _ a.read a.tempo_beats b.tempo_beats;
      tempo_values = joined (number_in 2 2) begun half a.bytes b.bytes _ _ _ a.read a.tempo_values b.tempo_values;
      stop_beats = joined (number_in 3 1) begun half a.bytes b.bytes _ _ _ a.read a.stop_beats b.stop_beats;
      stop_values = joined (number_in 3 2) begun half a.bytes b.bytes _ _ _ a.read a.stop_values b.stop_values;
      delay_beats = joined (number_in 4 1) begun half a.bytes b.bytes _ _ _ a.read a.delay_beats b.delay_beats;
      delay_values = joined (number_in 4 2) begun half a.bytes b.bytes _ _ _ a.read a.delay_values b.delay_values;
      warp_beats = joined (number_in 5 1) begun half a.bytes b.bytes _ _ _ a.read a.warp_beats b.warp_beats;
      warp_lengths = joined (number_in 5 2) begun half a.bytes b.bytes _ _ _ a.read a.warp_lengths b.warp_lengths;
      speed_beats = joined (number_in 6 1) begun half a.bytes b.bytes _ _ _ a.read a.speed_beats b.speed_beats;
      speed_ratios = joined (number_in 6 2) begun half a.bytes b.bytes _ _ _ a.read a.speed_ratios b.speed_ratios;
      speed_delays = joined (number_in 6 3) begun half a.bytes b.bytes _ _ _ a.read a.speed_delays b.speed_delays;
      speed_units = joined (unit_in 6 4) begun half a.bytes b.bytes _ _ _ a.read a.speed_units b.speed_units;
      scroll_beats = joined (number_in 7 1) begun half a.bytes b.bytes _ _ _ a.read a.scroll_beats b.scroll_beats;
      scroll_values = joined (number_in 7 2) begun half a.bytes b.bytes _ _ _ a.read a.scroll_values b.scroll_values;
      fake_beats = joined (number_in 8 1) begun half a.bytes b.bytes _ _ _ a.read a.fake_beats b.fake_beats;
      fake_lengths = joined (number_in 8 2) begun half a.bytes b.bytes _ _ _ a.read a.fake_lengths b.fake_lengths;
    }

-- and what a read's answer makes of them
pub fed_answered : (got : ℤ) {begun half reading : Reading} {counts_old counts_new : List ℕ} {old new : ChartColumns}
    → Fed begun half counts_old counts_new old new → reading ≡ after_answer got half
    → Fed begun reading counts_old counts_new old new
fed_answered (pos n) fed e = fed_join fed (fed_none e)
fed_answered (negsuc n) fed e = fed_join fed (fed_zero e)
