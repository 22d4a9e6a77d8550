-- Where rows rise, the entries on rows up to a row are the front of the list: so timings that agree for a row are the same when cut there. Assumes nothing.
use Prim.Native.Nat.{suc}
use mathlib.Core.List.{List, [], ◌∷◌, map}
use mathlib.Core.Bool.{Bool, true, false}
use mathlib.Core.Path.{◌≡◌, refl, sym, ap, ◌∙◌}
use native.Mathlib.Omega.{arith}
use lib.ListN.{length, take}
use lib.IntN.{ℤ}
use lib.Signed.{lt_z}
use lib.Ieee.{Float, binary64}
use Rattle.picks.specs.Pick.{pick}
use Rattle.rows.specs.Rows.{row}
use Rattle.chart.specs.Timing.{Timing, timing}
use Rattle.rows.proofs.RowOrder.{no, lt_le, le_trans, lt_not}
use Rattle.clock_tests.specs.TimingNumbers.{rises_from, rises}
use Rattle.clock_edits_laws.specs.AgreeingTimings.{entries_on, up_to_row, below_row, AgreeFor}
use Rattle.clock_edits_laws.proofs.Fronts.{front_by, is-above, cut}

-- a test that fails above wherever it fails
abbrev Falls : (ℤ → Bool) → Type 0
Falls test = (x y : ℤ) → test x ≡ false → lt_z x y ≡ true → test y ≡ false

both : (b c : Bool) → pick b c false ≡ true → (b ≡ true) × (c ≡ true)
both true c h = (refl, h)
both false c h = no h

abbrev pub beats_on : List (Float × Float) → List Float
beats_on list = map (λ (e : Float × Float). e.0) list

abbrev pub values_on : List (Float × Float) → List Float
values_on list = map (λ (e : Float × Float). e.1) list

module _ (test : ℤ → Bool) (falls : Falls test) where
  none-on : (last : ℤ) (beats values : List Float) → test last ≡ false → rises_from last beats ≡ true → entries_on test beats values ≡ []
  unfolding entries_on rises_from
  none-on last [] values out rise = refl
  none-on last (b ∷ beats) [] out rise = refl
  none-on last (b ∷ beats) (v ∷ values) out rise =
      let h = both (lt_z last (row binary64 b)) (rises_from (row binary64 b) beats) rise in
      let k = falls last (row binary64 b) out h.0 in
      rw k (none-on (row binary64 b) beats values k h.1)

  rest : (b : Float) (beats : List Float) → rises (b ∷ beats) ≡ true → rises beats ≡ true
  unfolding rises rises_from
  rest b [] h = refl
  rest b (c ∷ beats) h = (both (lt_z (row binary64 b) (row binary64 c)) (rises_from (row binary64 c) beats) h).1

  beats-front : (beats values : List Float) → length beats ≡ length values → rises beats ≡ true → beats_on (entries_on test beats values) ≡ take (front_by test beats) beats
  unfolding entries_on front_by rises
  beats-front [] values even rise = refl
  beats-front (b ∷ beats) [] even rise = absurd (omega arith)
  beats-front (b ∷ beats) (v ∷ values) even rise = go (test (row binary64 b)) refl (beats-front beats values (omega arith) (rest b beats rise))
    where
      go : (x : Bool) → test (row binary64 b) ≡ x → beats_on (entries_on test beats values) ≡ take (front_by test beats) beats
          → beats_on (pick x ((b, v) ∷ entries_on test beats values) (entries_on test beats values)) ≡ take (pick x (suc (front_by test beats)) 0) (b ∷ beats)
      go true e ih = ap (λ (l : List Float). b ∷ l) ih
      go false e ih = ap beats_on (none-on (row binary64 b) beats values e rise)

  values-front : (beats values : List Float) → length beats ≡ length values → rises beats ≡ true → values_on (entries_on test beats values) ≡ take (front_by test beats) values
  unfolding entries_on front_by rises
  values-front [] values even rise = refl
  values-front (b ∷ beats) [] even rise = absurd (omega arith)
  values-front (b ∷ beats) (v ∷ values) even rise = go (test (row binary64 b)) refl (values-front beats values (omega arith) (rest b beats rise))
    where
      go : (x : Bool) → test (row binary64 b) ≡ x → values_on (entries_on test beats values) ≡ take (front_by test beats) values
          → values_on (pick x ((b, v) ∷ entries_on test beats values) (entries_on test beats values)) ≡ take (pick x (suc (front_by test beats)) 0) (v ∷ values)
      go true e ih = ap (λ (l : List Float). v ∷ l) ih
      go false e ih = ap values_on (none-on (row binary64 b) beats values e rise)

module _ (r : ℤ) where
  up_to_falls : Falls (up_to_row r)
  up_to_falls x y h k = rw (lt_le r x y (is-above r x h) (lt_not x y k))

  below-falls : Falls (below_row r)
  below-falls x y h k = le_trans r x y h (lt_not x y k)

-- what is needed of a timing: columns of one length, and rows that rise
pub record Ordered (t : Timing) : Type 0 where
  pub tempos_even : length t.tempo_beats ≡ length t.tempo_values
  pub stops_even : length t.stop_beats ≡ length t.stop_values
  pub delays_even : length t.delay_beats ≡ length t.delay_values
  pub warps_even : length t.warp_beats ≡ length t.warp_lengths
  pub tempos_rise : rises t.tempo_beats ≡ true
  pub stops_rise : rises t.stop_beats ≡ true
  pub delays_rise : rises t.delay_beats ≡ true
  pub warps_rise : rises t.warp_beats ≡ true

-- four lists of entries as the columns of a timing
abbrev columns_of : (tempos stops delays warps : List (Float × Float)) → Timing
columns_of tempos stops delays warps = timing (beats_on tempos) (values_on tempos) (beats_on stops) (values_on stops) (beats_on delays) (values_on delays) (beats_on warps) (values_on warps)

same-columns : (tempos stops delays warps tempos' stops' delays' warps' : List (Float × Float)) → tempos ≡ tempos' → stops ≡ stops' → delays ≡ delays' → warps ≡ warps'
    → columns_of tempos stops delays warps ≡ columns_of tempos' stops' delays' warps'
same-columns tempos stops delays warps tempos' stops' delays' warps' a b c d = rw (a, b, c, d)

-- what counts for a row
module _ (r : ℤ) (t : Timing) where
  abbrev tempos_on : List (Float × Float)
  tempos_on = entries_on (up_to_row r) t.tempo_beats t.tempo_values

  abbrev stops_on : List (Float × Float)
  stops_on = entries_on (below_row r) t.stop_beats t.stop_values

  abbrev delays_on : List (Float × Float)
  delays_on = entries_on (up_to_row r) t.delay_beats t.delay_values

  abbrev warps_on : List (Float × Float)
  warps_on = entries_on (below_row r) t.warp_beats t.warp_lengths

  abbrev up_to : Timing
  up_to = columns_of tempos_on stops_on delays_on warps_on

up_to_is_cut : (r : ℤ) (t : Timing) → Ordered t → up_to r t ≡ cut r t
unfolding cut
up_to_is_cut r t o =
    rw (
      beats-front (up_to_row r) (up_to_falls r) t.tempo_beats t.tempo_values o.tempos_even o.tempos_rise,
      values-front (up_to_row r) (up_to_falls r) t.tempo_beats t.tempo_values o.tempos_even o.tempos_rise,
      beats-front (below_row r) (below-falls r) t.stop_beats t.stop_values o.stops_even o.stops_rise,
      values-front (below_row r) (below-falls r) t.stop_beats t.stop_values o.stops_even o.stops_rise,
      beats-front (up_to_row r) (up_to_falls r) t.delay_beats t.delay_values o.delays_even o.delays_rise,
      values-front (up_to_row r) (up_to_falls r) t.delay_beats t.delay_values o.delays_even o.delays_rise,
      beats-front (below_row r) (below-falls r) t.warp_beats t.warp_lengths o.warps_even o.warps_rise,
      values-front (below_row r) (below-falls r) t.warp_beats t.warp_lengths o.warps_even o.warps_rise,
    )

pub agree-cut : (r : ℤ) (t u : Timing) → Ordered t → Ordered u → AgreeFor r t u → cut r t ≡ cut r u
agree-cut r t u o p agree =
    sym (up_to_is_cut r t o)
    ∙ same-columns (tempos_on r t) (stops_on r t) (delays_on r t) (warps_on r t) (tempos_on r u) (stops_on r u) (delays_on r u) (warps_on r u) agree.tempos agree.stops agree.delays agree.warps
    ∙ up_to_is_cut r u p
