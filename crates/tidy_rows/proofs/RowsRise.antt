-- The tidied list rises strictly by row, and so by beat. Assumes nothing.
use Prim.Native.Nat.{◌<◌}
use mathlib.Core.Path.{◌≡◌, sym, ap, ◌∙◌, subst}
use mathlib.Core.List.{List, [], ◌∷◌, map}
use borrow.Author.Tests.{lt-ltb}
use lib.Dec.{T}
use lib.Ieee.{Float, binary64, lt}
use Rattle.rows.specs.Rows.{row, allowed_beat}
use Rattle.rows.proofs.RowOfBeat.{row_of_beat}
use Rattle.rows.proofs.RowWithin.{row_within, in_i32}
use Rattle.rows.proofs.BeatsRise.{beats-rise}
use Rattle.limits.proofs.ListTaken.{list-taken}
use Rattle.order.specs.Order.{tidied, Above, Rises}
use Rattle.order.specs.Entries.{entries}
use Rattle.rows.specs.RowKey.{row_key, row_key_at, beat_on_row, row_key_of, on_its_row}
use Rattle.order.proofs.OrderedList.{Each}
use Rattle.order.proofs.TidiedList.{tidied-rises}
use Rattle.rows.proofs.RowKeys.{rows-below}
use Rattle.order.proofs.EachEntry.{each_so, each-tidied, rises-map}
use Rattle.tidy_rows.specs.RowTidying.{tidy_rows, rows_number}
use Rattle.tidy_rows.proofs.TakenBeats.{beats-allowed}

-- ---- the row of a beat that was moved to its row
pub same_row : (beat : Float) → T (allowed_beat beat) → row binary64 (beat_on_row beat) ≡ row binary64 beat
same_row beat h = row_of_beat binary64 binary64 (row binary64 beat) (row_within binary64 beat h)

abbrev pub Allowed : Float × Float → Type 0
Allowed e = T (allowed_beat e.0)

module _ (beats values : List Float) (h : rows_number beats values ≡ 0) where
  pub kept-allowed : Each row_key_of Allowed (tidied row_key_of (entries beats values))
  kept-allowed = each-tidied row_key_of Allowed (entries beats values) (beats-allowed beats values (list-taken h).beats_in)

  pub keys-agree : Each row_key_of (λ (e : Float × Float). row_key_of (on_its_row e) ≡ row_key_of e) (tidied row_key_of (entries beats values))
  keys-agree = each_so row_key_of (λ e p. ap row_key (same_row e.0 p)) (tidied row_key_of (entries beats values)) kept-allowed

  pub tidy_rows_rise : Rises row_key_of (tidy_rows beats values)
  unfolding tidy_rows
  tidy_rows_rise = rises-map on_its_row row_key_of row_key_of (tidied row_key_of (entries beats values)) keys-agree (tidied-rises row_key_of (entries beats values))

-- ---- by beat: each is below all later ones
abbrev pub BeatAbove : Float → List (Float × Float) → Type 0
BeatAbove beat [] = Unit {0}
BeatAbove beat (e ∷ l) = T (lt beat e.0) × BeatAbove beat l

abbrev pub BeatsRise : List (Float × Float) → Type 0
BeatsRise [] = Unit {0}
BeatsRise (e ∷ l) = BeatAbove e.0 l × BeatsRise l

row_beats_rise : (x y : Float) → T (allowed_beat x) → T (allowed_beat y) → row_key_at x < row_key_at y → T (lt (beat_on_row x) (beat_on_row y))
row_beats_rise x y p q l =
    let r = row binary64 x in
    let s = row binary64 y in
    let within-r = row_within binary64 x p in
    let within-s = row_within binary64 y q in
    beats-rise binary64 binary64 r s within-r within-s (subst T (sym (rows-below r s (in_i32 r within-r) (in_i32 s within-s) ∙ lt-ltb (row_key r) (row_key s) l)) tt)

above-beats : (x : Float) (l : List (Float × Float)) → T (allowed_beat x) → Each row_key_of Allowed l → Above row_key_of (row_key_at x) l → BeatAbove (beat_on_row x) (map on_its_row l)
above-beats x [] p ps a = tt
above-beats x (e ∷ l) p ps a = (row_beats_rise x e.0 p ps.0 a.0, above-beats x l p ps.1 a.1)

rising-beats : (l : List (Float × Float)) → Each row_key_of Allowed l → Rises row_key_of l → BeatsRise (map on_its_row l)
rising-beats [] ps r = tt
rising-beats (e ∷ l) ps r = (above-beats e.0 l ps.0 ps.1 r.0, rising-beats l ps.1 r.1)

pub tidy_beats_rise : (beats values : List Float) → rows_number beats values ≡ 0 → BeatsRise (tidy_rows beats values)
unfolding tidy_rows
tidy_beats_rise beats values h = rising-beats (tidied row_key_of (entries beats values)) (kept-allowed beats values h) (tidied-rises row_key_of (entries beats values))
