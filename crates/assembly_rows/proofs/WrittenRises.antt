-- What is written rises strictly by row, at f64 and at f32. Assumes nothing.
use Prim.Native.Nat.{ℕ}
use mathlib.Core.Path.{◌≡◌, refl, sym, ap, ◌∙◌, subst}
use mathlib.Core.List.{List, map, map-map}
use lib.Dec.{T}
use lib.Ieee.{Float, Format, binary32, binary64}
use Rattle.ieee.specs.Narrowing.{narrow}
use Rattle.rows.specs.Rows.{row, beat_of, quantized, allowed_beat}
use Rattle.rows.proofs.NarrowedBeat.{narrowed-beat}
use Rattle.rows.proofs.RowOfBeat.{row_of_beat}
use Rattle.rows.proofs.RowWithin.{row_within}
use Rattle.order.specs.Order.{tidied, Rises}
use Rattle.order.specs.Entries.{entries, first}
use Rattle.rows.specs.RowKey.{row_key, beat_on_row, row_key_of, on_its_row}
use Rattle.order.proofs.OrderedList.{Each}
use Rattle.order.proofs.TidiedList.{tidied-rises}
use Rattle.order.proofs.EachEntry.{each_so, rises-map}
use Rattle.tidy_rows.specs.RowTidying.{tidy_rows}
use Rattle.tidy_rows.proofs.RowsRise.{kept-allowed}
use Rattle.assembly_rows.specs.AssembledRows.{narrowed_entry, assembled_rows, assembled_number}

-- the row of a beat at a width, as a key
abbrev pub row_key_in : Format → Float → ℕ
row_key_in f beat = row_key (row f beat)

-- on its row at f64 and narrowed, a beat is the f32 beat of the row
pub narrowed_on_row : (beat : Float) → T (allowed_beat beat) → narrow (beat_on_row beat) ≡ beat_of binary32 (row binary64 beat)
narrowed_on_row beat h = narrowed-beat (row binary64 beat) (row_within binary64 beat h)

written_row : (f : Format) (beat : Float) → T (allowed_beat beat) → row f (narrow (beat_on_row beat)) ≡ row binary64 beat
written_row f beat h = ap (row f) (narrowed_on_row beat h) ∙ row_of_beat f binary32 (row binary64 beat) (row_within binary64 beat h)

-- the beat that is written of a kept entry
abbrev pub written_beat : Float × Float → Float
written_beat e = narrow (beat_on_row e.0)

module _ (change : Float → Float) (beats values : List Float) where
  abbrev pub kept_rows : List (Float × Float)
  kept_rows = tidied row_key_of (entries (map quantized beats) (map change values))

  pub written-beats : map first (assembled_rows change beats values) ≡ map written_beat kept_rows
  unfolding assembled_rows tidy_rows
  written-beats = map-map first narrowed_entry (map on_its_row kept_rows) ∙ map-map (λ (e : Float × Float). narrow e.0) on_its_row kept_rows

  module _ (h : assembled_number change beats values ≡ 0) where
    keys-agree : (f : Format) → Each row_key_of (λ (e : Float × Float). row_key_in f (written_beat e) ≡ row_key_of e) kept_rows
    keys-agree f = each_so row_key_of (λ e p. ap row_key (written_row f e.0 p)) kept_rows (kept-allowed (map quantized beats) (map change values) h)

    pub written-rises : (f : Format) → Rises (row_key_in f) (map first (assembled_rows change beats values))
    written-rises f =
        subst (λ (l : List Float). Rises (row_key_in f) l) (sym written-beats)
        (rises-map written_beat row_key_of (row_key_in f) kept_rows (keys-agree f) (tidied-rises row_key_of (entries (map quantized beats) (map change values))))
