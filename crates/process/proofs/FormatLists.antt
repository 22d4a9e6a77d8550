-- What each format's processing leaves is the outcome by format: SSC's has no warps and leaves their rooms alone, and tempos that are not given count as one. Assumes nothing.
use Prim.Native.Nat.{ℕ, zero, suc}
use mathlib.Core.Path.{◌≡◌, refl, sym, ◌∙◌}
use mathlib.Core.Bool.{Bool, true, false}
use mathlib.Core.List.{List, [], ◌∷◌}
use native.Mathlib.Omega.{arith}
use lib.Dec.{eqb}
use lib.ListN.{length}
use lib.Ieee.{Float, le, lt, eq, neg}
use borrow.Author.Tests.{eq-eqb, ne_eqb, eqb-true}
use Rattle.ieee.specs.Constants.{plus_zero, sixty}
use Rattle.picks.specs.Pick.{pick}
use Rattle.limits.specs.Refusals.{list_number}
use Rattle.limits.specs.Numbers.{in_range, every}
use Rattle.order.specs.Order.{laid}
use Rattle.columns.specs.Laying.{room_number, LaidList}
use Rattle.columns.proofs.Rooms.{number_of_tests, number-taken, list-refused, list-laid}
use Rattle.process_raw.specs.declared.Processed.{Processed}
use Rattle.chart.specs.ChartColumns.{ListColumns}
use Rattle.process_raw.specs.LentLists.{TwoColumns, two_columns, ThreeColumns}
use Rattle.process_raw.specs.RawLists.{raw_number, raw_numbers, raw_numbers_of}
use Rattle.process_ssc.specs.Ssc.{SscLaid}
use Rattle.chart.specs.declared.TimingFormat.{TimingFormat}
use Rattle.chart.specs.declared.TimingFormat.TheVariants.{Ssc}
use Rattle.process.specs.ByFormat.{none_given, tempo_beats_of, tempo_values_of, lists_by, lists_by_of, processed_lists, ThreeListsLaid, ProcessedBy}

-- ---- no warps: no number of their own, and nothing written

none-fits : (number room : ℕ) → room_number number 0 room ≡ number
none-fits zero room = sym (number-taken 0 0 room refl (omega arith))
none-fits (suc n) room = sym (number_of_tests (suc n) 0 room (λ e. omega arith))

none-laid : (number count : ℕ) → count ≡ 0 → (beats lengths : List Float) → LaidList number [] count beats beats lengths lengths
unfolding laid
none-laid zero count e beats lengths = list-laid e refl refl
none-laid (suc n) count e beats lengths = rw e (list-refused (λ z. omega arith))

no-offset : (t : Bool) → plus_zero ≡ pick t plus_zero plus_zero
no-offset true = refl
no-offset false = refl

module _ {raw : TwoColumns} {outcome : Processed} {old new : TwoColumns} (warps : ListColumns) where
  pub ssc-laid : SscLaid raw outcome old new
      → ThreeListsLaid (raw_numbers_of raw) (lists_by_of Ssc raw) outcome
      (record { tempos = old.tempos; stops = old.stops; warps = warps }) (record { tempos = new.tempos; stops = new.stops; warps = warps })
  ssc-laid p = record {
    number = rw none-fits p.number;
    tempos_laid = p.tempos;
    stops_laid = p.stops;
    warps_laid = none-laid outcome.number outcome.warps p.warps warps.beats warps.values;
    offset_is = p.offset ∙ no-offset (eqb outcome.number 0);
  }

-- ---- tempos given and not given

-- 60 at beat 0 is taken, as nothing is
pub sixty-taken : raw_number (plus_zero ∷ []) (sixty ∷ []) ≡ raw_number [] []
unfolding list_number every in_range le lt eq neg
sixty-taken = refl

some-given : (beats values : List Float) → (length beats ≡ 0 → length values ≡ 0 → ⊥) → none_given beats values ≡ false
some-given beats values h = go (eqb (length beats) 0) refl
  where
    go : (t : Bool) → eqb (length beats) 0 ≡ t → pick t (eqb (length values) 0) false ≡ false
    go true e = ne_eqb (length values) 0 (h (eqb-true (length beats) 0 e))
    go false e = refl

none-given : (beats values : List Float) → length beats ≡ 0 → length values ≡ 0 → none_given beats values ≡ true
none-given beats values h k = rw (eq-eqb (length beats) 0 h) (eq-eqb (length values) 0 k)

module _ (format : TimingFormat) (stop_beats stop_values : List Float) where
  lists-given : (beats values : List Float) → (length beats ≡ 0 → length values ≡ 0 → ⊥) → processed_lists format beats values stop_beats stop_values ≡ lists_by format beats values stop_beats stop_values
  unfolding processed_lists tempo_beats_of tempo_values_of
  lists-given beats values h = rw (some-given beats values h)

  lists-sixty : (beats values : List Float) → length beats ≡ 0 → length values ≡ 0 → processed_lists format beats values stop_beats stop_values ≡ lists_by format (plus_zero ∷ []) (sixty ∷ []) stop_beats stop_values
  unfolding processed_lists tempo_beats_of tempo_values_of
  lists-sixty beats values h k = rw (none-given beats values h k)

  number-sixty : (beats values : List Float) → length beats ≡ 0 → length values ≡ 0 → raw_numbers beats values stop_beats stop_values ≡ raw_numbers (plus_zero ∷ []) (sixty ∷ []) stop_beats stop_values
  number-sixty [] [] h k = rw sixty-taken
  number-sixty [] (v ∷ values) h k = absurd (omega arith)
  number-sixty (b ∷ beats) values h k = absurd (omega arith)

module _ (format : TimingFormat) (tempo_beats tempo_values stop_beats stop_values : List Float) {outcome : Processed} {old new : ThreeColumns} where
  pub as_given : (length tempo_beats ≡ 0 → length tempo_values ≡ 0 → ⊥)
      → ThreeListsLaid (raw_numbers tempo_beats tempo_values stop_beats stop_values) (lists_by format tempo_beats tempo_values stop_beats stop_values) outcome old new
      → ProcessedBy format (two_columns tempo_beats tempo_values stop_beats stop_values) outcome old new
  as_given h p = rw (lists-given format stop_beats stop_values tempo_beats tempo_values h) p

  pub as_sixty : length tempo_beats ≡ 0 → length tempo_values ≡ 0
      → ThreeListsLaid (raw_numbers (plus_zero ∷ []) (sixty ∷ []) stop_beats stop_values) (lists_by format (plus_zero ∷ []) (sixty ∷ []) stop_beats stop_values) outcome old new
      → ProcessedBy format (two_columns tempo_beats tempo_values stop_beats stop_values) outcome old new
  as_sixty h k p = rw (number-sixty format stop_beats stop_values tempo_beats tempo_values h k, lists-sixty format stop_beats stop_values tempo_beats tempo_values h k) p
