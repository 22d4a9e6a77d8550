-- Tempos on rows from beat 0 on, tidied and narrowed, pass the clock's tests: sizes, rows that rise strictly, and a start at beat 0. Assumes nothing.
use Prim.Native.Nat.{◌≤◌, ◌<◌}
use mathlib.Core.Path.{◌≡◌, refl, sym, ◌∙◌, subst}
use mathlib.Core.Bool.{true, not}
use mathlib.Core.List.{List, [], ◌∷◌, map}
use borrow.Author.Tests.{lt-ltb, ltb-true}
use lib.Dec.{T, ltb}
use lib.IntN.{pos}
use lib.ListN.{length, length-map}
use lib.Ieee.{Float, binary32, binary64, is_nan, fits, of_int, lt, eq}
use lib.Ieee.Fits.{div-fits, fits_widens}
use Rattle.ieee.specs.Narrowing.{narrow}
use Rattle.ieee.proofs.Narrow.{narrow-own}
use Rattle.rows.specs.Rows.{row, quantized, allowed_beat}
use Rattle.limits.specs.declared.Kind.TheVariants.{Beat, Tempo}
use Rattle.limits.specs.Numbers.{range_of, all_in, every}
use Rattle.limits.specs.Refusals.{list_number}
use Rattle.order.specs.Order.{Above, Rises, tidied}
use Rattle.order.specs.Entries.{entries, first, second}
use Rattle.order.specs.FloatKey.{float_key}
use Rattle.order.proofs.FloatKeys.{floats-below}
use Rattle.order.proofs.OrderedList.{Each}
use Rattle.order.proofs.EachEntry.{each_so, rises-map}
use Rattle.rows.specs.RowKey.{row_key_at, row_key_of}
use Rattle.tidy_tempos.specs.TempoTidying.{beat_key_of, from_zero_else, changes, tidy_tempos}
use Rattle.clock_tests.specs.TimingNumbers.{rises, starts_at_zero}
use Rattle.assembly_rows.specs.AssembledRows.{narrowed_entry}
use Rattle.assembly_rows.proofs.InRowOrder.{quantized-below}
use Rattle.limits.proofs.ListTaken.{list-passes}
use Rattle.process.proofs.TemposOnGrid.{OnGrid, Narrowed}
use Rattle.process.proofs.TidiedOnGrid.{Tidied}
use Rattle.rows.proofs.Allowed.{allowed-taken, allowed-number}
use Rattle.assembly_laws.proofs.RowLists.{key-rises}

fits32 : (x : Float) → quantized x ≡ x → T (fits binary32 x)
fits32 x e = subst (λ (y : Float). T (fits binary32 y)) e (div-fits binary32 (of_int binary32 (row binary32 (narrow x))) (of_int binary32 (pos 48)))

-- ---- beats on rows: an order by key is an order by row

below : (x y : Float) → quantized x ≡ x → quantized y ≡ y → T (allowed_beat x) → T (allowed_beat y) → float_key binary64 x < float_key binary64 y → row_key_at x < row_key_at y
below x y ex ey ax ay h =
    let less : lt x y ≡ true = floats-below binary64 x y (fits_widens x (fits32 x ex)) (fits_widens y (fits32 y ey)) (allowed-number x ax) (allowed-number y ay) ∙ lt-ltb (float_key binary64 x) (float_key binary64 y) h in
    let rows : lt x y ≡ ltb (row_key_at x) (row_key_at y) = subst (λ (p : Float). lt p y ≡ ltb (row_key_at p) (row_key_at y)) ex (subst (λ (q : Float). lt (quantized x) q ≡ ltb (row_key_at (quantized x)) (row_key_at q)) ey (quantized-below x y ax ay)) in
    ltb-true (row_key_at x) (row_key_at y) (sym rows ∙ less)

above-row : (e : Float × Float) → OnGrid Narrowed e → (list : List (Float × Float)) → Each beat_key_of (OnGrid Narrowed) list → Above beat_key_of (beat_key_of e) list → Above row_key_of (row_key_of e) list
above-row e g [] p a = tt
above-row e g (x ∷ list) p a = (below e.0 x.0 g.beat_on_row p.0.beat_on_row g.allowed p.0.allowed a.0, above-row e g list p.1 a.1)

rises-row : (list : List (Float × Float)) → Each beat_key_of (OnGrid Narrowed) list → Rises beat_key_of list → Rises row_key_of list
rises-row [] p r = tt
rises-row (e ∷ list) p r = (above-row e p.0 list p.1 r.0, rises-row list p.1 r.1)

-- ---- the first at beat 0

pub starts-tidied : (beats values : List Float) → starts_at_zero (map first (tidy_tempos beats values)) ≡ true
unfolding tidy_tempos changes from_zero_else starts_at_zero eq
starts-tidied [] values = refl
starts-tidied (b ∷ beats) values = go (tidied beat_key_of (entries (b ∷ beats) values))
  where
    go : (list : List (Float × Float)) → starts_at_zero (map first (changes (from_zero_else list))) ≡ true
    go [] = refl
    go (e ∷ list) = refl

-- ---- as f32

same-beats : (list : List (Float × Float)) → Each beat_key_of (OnGrid Narrowed) list → map first (map narrowed_entry list) ≡ map first list
same-beats [] p = refl
same-beats (e ∷ list) p = rw (narrow-own e.0 (fits32 e.0 p.0.beat_on_row), same-beats list p.1)

beats_in_lem : (list : List (Float × Float)) → Each beat_key_of (OnGrid Narrowed) list → all_in (range_of Beat) (map first list) ≡ true
unfolding every
beats_in_lem [] p = refl
beats_in_lem (e ∷ list) p = rw (allowed-taken e.0 p.0.allowed) (beats_in_lem list p.1)

values_in_lem : (list : List (Float × Float)) → Each beat_key_of (OnGrid Narrowed) list → all_in (range_of Tempo) (map second (map narrowed_entry list)) ≡ true
unfolding every
values_in_lem [] p = refl
values_in_lem (e ∷ list) p = rw p.0.tempo (values_in_lem list p.1)

pub record TidyTempos (list : List (Float × Float)) : Type 0 where
  pub taken : list_number (range_of Beat) (range_of Tempo) (map first list) (map second list) ≡ 0
  pub rising : rises (map first list) ≡ true
  pub starts : starts_at_zero (map first list) ≡ true

pub narrowed-tidy : (list : List (Float × Float)) → length list ≤ 1024 → Tidied Narrowed list → starts_at_zero (map first list) ≡ true → TidyTempos (map narrowed_entry list)
narrowed-tidy list few t starts =
    let same = same-beats list t.each in
    let inside = beats_in_lem list t.each in
    let rows = rises-map first row_key_of row_key_at list (each_so beat_key_of (λ e g. refl) list t.each) (rises-row list t.each t.rising) in
    record {
      taken = list-passes (range_of Beat) (range_of Tempo) (map first (map narrowed_entry list)) (map second (map narrowed_entry list)) (simp length-map few) (simp length-map) (rw same inside) (values_in_lem list t.each);
      rising = rw same (key-rises (map first list) inside rows);
      starts = rw same starts;
    }
