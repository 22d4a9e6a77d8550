-- The opening: its two loops, and what holds after it. Assumes nothing.
use Rattle.std.proofs.Common.{◌≡◌, ℕ, zero, suc, ◌+◌, ◌<◌, ◌≤◌, max, Bool, true, false, List, [], ◌∷◌, length, get_or, drop, sym, refl, ap, ◌∙◌, add-one, arith}
use native.Mathlib.Nat.{max-zero, suc-max-suc}
use lib.Ieee.{Float, binary32, sub, lt, le, eq, nan}
use Rattle.ieee.specs.Constants.{plus_zero32, sixty32}
use Rattle.picks.specs.Pick.{pick}
use Rattle.order.specs.Entries.{entries}
use Rattle.process_sm_walk.specs.Chart.{taken_off, stops_before, first_tempo, last_tempo, tempos_by0, TemposNumbers}
use Rattle.process_sm_walk.specs.inside.Opening.{first_value}
use Rattle.process_sm_walk.proofs.NextChange.{at, entries_from, entries-end}

pub first-is : (beats values : List Float) → length beats ≡ length values → first_tempo (entries beats values) ≡ first_value values
unfolding entries
first-is [] [] e = refl
first-is [] (v ∷ vs) e = absurd (omega arith)
first-is (b ∷ bs) [] e = absurd (omega arith)
first-is (b ∷ bs) (v ∷ vs) e = refl

module _ (beats values : List Float) (same : length beats ≡ length values) (i : ℕ) where
  from : i < length beats → drop i (entries beats values) ≡ at beats values i ∷ drop (i + 1) (entries beats values)
  from h = entries_from beats values i same h ∙ ap (λ (k : ℕ). at beats values i ∷ drop k (entries beats values)) (sym (add-one i))

  -- ---- tempos

  pub tempo-on : (tempo : Float) → i < length beats → le (get_or beats i nan) plus_zero32 ≡ true
      → last_tempo tempo (drop i (entries beats values)) ≡ last_tempo (get_or values i nan) (drop (i + 1) (entries beats values))
  unfolding last_tempo
  tempo-on tempo h b = rw (from h, b)

  pub tempo-off : (tempo : Float) → i < length beats → le (get_or beats i nan) plus_zero32 ≡ false → last_tempo tempo (drop i (entries beats values)) ≡ tempo
  unfolding last_tempo
  tempo-off tempo h b = rw (from h, b)

  pub tempo-end : (tempo : Float) → length beats ≤ i → last_tempo tempo (drop i (entries beats values)) ≡ tempo
  unfolding last_tempo
  tempo-end tempo h = rw (entries-end beats values i h)

  pub tempos-on : i < length beats → le (get_or beats i nan) plus_zero32 ≡ true → tempos_by0 (drop i (entries beats values)) ≡ suc (tempos_by0 (drop (i + 1) (entries beats values)))
  unfolding tempos_by0
  tempos-on h b = rw (from h, b)

  pub tempos-off : i < length beats → le (get_or beats i nan) plus_zero32 ≡ false → tempos_by0 (drop i (entries beats values)) ≡ 0
  unfolding tempos_by0
  tempos-off h b = rw (from h, b)

  pub tempos-end : length beats ≤ i → tempos_by0 (drop i (entries beats values)) ≡ 0
  unfolding tempos_by0
  tempos-end h = rw (entries-end beats values i h)

  -- ---- stops

  pub stop-on : (offset : Float) → i < length beats → lt (get_or beats i nan) plus_zero32 ≡ true
      → taken_off offset (drop i (entries beats values)) ≡ taken_off (sub binary32 offset (get_or values i nan)) (drop (i + 1) (entries beats values))
  unfolding taken_off
  stop-on offset h b = rw (from h, b)

  pub stop-off : (offset : Float) → i < length beats → lt (get_or beats i nan) plus_zero32 ≡ false → taken_off offset (drop i (entries beats values)) ≡ offset
  unfolding taken_off
  stop-off offset h b = rw (from h, b)

  pub stop-end : (offset : Float) → length beats ≤ i → taken_off offset (drop i (entries beats values)) ≡ offset
  unfolding taken_off
  stop-end offset h = rw (entries-end beats values i h)

  pub stops-on : i < length beats → lt (get_or beats i nan) plus_zero32 ≡ true → stops_before (drop i (entries beats values)) ≡ suc (stops_before (drop (i + 1) (entries beats values)))
  unfolding stops_before
  stops-on h b = rw (from h, b)

  pub stops-off : i < length beats → lt (get_or beats i nan) plus_zero32 ≡ false → stops_before (drop i (entries beats values)) ≡ 0
  unfolding stops_before
  stops-off h b = rw (from h, b)

  pub stops_end : length beats ≤ i → stops_before (drop i (entries beats values)) ≡ 0
  unfolding stops_before
  stops_end h = rw (entries-end beats values i h)

-- ---- after the opening

pub fewer-tempos : (l : List (Float × Float)) → tempos_by0 l ≤ length l
unfolding tempos_by0
fewer-tempos [] = omega arith
fewer-tempos (x ∷ l) = let h = fewer-tempos l in go (le x.0 plus_zero32) h
  where
    go : (b : Bool) → tempos_by0 l ≤ length l → pick b (suc (tempos_by0 l)) 0 ≤ suc (length l)
    go true h = omega arith
    go false h = omega arith

pub fewer-stops : (l : List (Float × Float)) → stops_before l ≤ length l
unfolding stops_before
fewer-stops [] = omega arith
fewer-stops (x ∷ l) = let h = fewer-stops l in go (lt x.0 plus_zero32) h
  where
    go : (b : Bool) → stops_before l ≤ length l → pick b (suc (stops_before l)) 0 ≤ suc (length l)
    go true h = omega arith
    go false h = omega arith

pub last-number : (l : List (Float × Float)) (tempo : Float) → TemposNumbers l → eq tempo tempo ≡ true → eq (last_tempo tempo l) (last_tempo tempo l) ≡ true
unfolding last_tempo
last-number [] tempo n e = e
last-number (x ∷ l) tempo n e = go (le x.0 plus_zero32) (last-number l x.1 n.1 n.0)
  where
    go : (b : Bool) → eq (last_tempo x.1 l) (last_tempo x.1 l) ≡ true → eq (pick b (last_tempo x.1 l) tempo) (pick b (last_tempo x.1 l) tempo) ≡ true
    go true h = h
    go false h = e

pub max-one : (n : ℕ) → (n ≡ 0 → ⊥) → n ≡ max n 1
max-one zero h = absurd (h refl)
max-one (suc n) h = sym (suc-max-suc n 0 ∙ ap suc (max-zero n))

pub first_empty : (l : List Float) → length l ≡ 0 → sixty32 ≡ first_value l
first_empty [] h = refl
first_empty (x ∷ l) h = absurd (omega arith)

pub first_some : (l : List Float) → (length l ≡ 0 → ⊥) → get_or l 0 nan ≡ first_value l
first_some [] h = absurd (h refl)
first_some (x ∷ l) h = refl
