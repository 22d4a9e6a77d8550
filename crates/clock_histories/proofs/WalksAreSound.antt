-- Over a timing that is taken, the cursor test refuses nothing of a fresh cursor, nor of what a walk from one leaves behind. Assumes nothing.
use Prim.Native.Nat.{ℕ, zero, suc, ◌+◌, ◌≤◌, ◌<◌}
use mathlib.Core.List.{[], ◌∷◌}
use mathlib.Core.Bool.{true}
use mathlib.Core.Path.{◌≡◌, refl, ◌∙◌}
use native.Mathlib.Nat.{zero-lt-suc}
use native.Mathlib.Omega.{arith}
use borrow.Author.Tests.{le-leb}
use lib.Dec.{lit≤}
use lib.ListN.{length, get_or}
use lib.IntN.{ℤ, pos, nat_abs}
use lib.Signed.{le_z}
use lib.Ieee.{Float, nan, binary64, neg, lt, le, eq}
use Rattle.ieee.specs.Constants.{plus_zero, sixty}
use Rattle.picks.specs.Pick.{pick}
use Rattle.ieee.proofs.Magnitude.{AtMost, Sized, sized}
use Rattle.ieee.proofs.SizesAddUp.{power_of_format, at_most_wider, at_most_neg, sub_at_most}
use Rattle.rows.specs.Rows.{row}
use Rattle.rows.proofs.RowOfZero.{row_of_zero}
use Rattle.limits.specs.Numbers.{range_of, in_range, every, row_in, most_row}
use Rattle.limits.specs.declared.Kind.TheVariants as Kind
use Rattle.limits.proofs.ListTaken.{Taken}
use Rattle.limits.proofs.TakenWithin.{taken-within}
use Rattle.chart.specs.Timing.{Timing}
use Rattle.clock_walk.specs.Walk.{walk}
use Rattle.chart.specs.declared.State.{State}
use Rattle.clock_walk.proofs.EventByEvent.{left_le}
use Rattle.clock_tests.specs.TimingNumbers.{rises, rises_from, starts_at_zero, timing_number}
use Rattle.clock_tests.specs.CursorNumbers.{fresh_mark}
use Rattle.clock_tests.proofs.RowByRow.{first-starts}
use Rattle.clock_tests.proofs.TimingTaken.{TimingTaken, timing-taken}
use Rattle.clock.specs.Question.{filled, fresh_state, fresh_cursor, cursor_refusal}
use Rattle.clock_histories.proofs.WarpEnds.{end-begins}
use Rattle.clock_histories.proofs.EachEventKeeps.{ListsTaken, Fine, spans, spans_after, walk_fine, walk-time}
use Rattle.clock_histories.proofs.CursorTestPasses.{fine-passes}
use Rattle.clock_histories.proofs.WithATempo.{given, of_filled, tempos-filled, stops-filled, delays-filled, warps-filled}
use Rattle.clock_histories.proofs.WhereAFreshOneEnds.{Usable}

-- what is found of a fresh cursor and of each that a walk leaves behind: it can be walked on from, and the cursor test has nothing to refuse
pub record Sound (t : Timing) (offset global : Float) : Type 0 where
  pub usable : Usable (filled t) offset global
  pub fresh_fine : cursor_refusal t (fresh_cursor offset global) ≡ 0
  pub walked_fine : (r : ℤ) → nat_abs r ≤ most_row → cursor_refusal t (record { state = (walk (filled t) r (fresh_state offset global)).state; asked = r }) ≡ 0

-- ---- a timing without a tempo has the one of 60 at beat 0
sole_taken : Taken (range_of Kind.Beat) (range_of Kind.Tempo) (plus_zero ∷ []) (sixty ∷ [])
unfolding every in_range lt le eq
sole_taken = record { few = lit≤ tt; even = refl; beats_in = refl; values_in = refl }

pub lists-taken : (t : Timing) (offset global : Float) → TimingTaken t offset global → ListsTaken (filled t)
lists-taken t offset global h =
    of_filled ListsTaken t
    (record { tempos = sole_taken; stops = h.stops; delays = h.delays; warps = h.warps })
    (λ _. record { tempos = h.tempos; stops = h.stops; delays = h.delays; warps = h.warps })

-- it has a tempo, the first at beat 0, and tempos that rise
record Starts (f : Timing) : Type 0 where
  some : 0 < length f.tempo_beats
  first : row binary64 (get_or f.tempo_beats 0 nan) ≡ pos 0
  starts : starts_at_zero f.tempo_beats ≡ true
  rise : rises f.tempo_beats ≡ true

sole_starts : (t : Timing) → Starts (given t)
unfolding starts_at_zero rises rises_from eq
sole_starts t = record { some = zero-lt-suc 0; first = row_of_zero binary64 plus_zero refl; starts = refl; rise = refl }

some-start : (t : Timing) → (length t.tempo_beats ≡ 0 → ⊥) → starts_at_zero t.tempo_beats ≡ true → rises t.tempo_beats ≡ true → Starts t
some-start t n h k = record { some = some (length t.tempo_beats) n; first = row_of_zero binary64 (get_or t.tempo_beats 0 nan) (first-starts t.tempo_beats n ∙ h); starts = h; rise = k }
  where
    some : (n : ℕ) → (n ≡ 0 → ⊥) → 0 < n
    some zero h = absurd (h refl)
    some (suc n) h = zero-lt-suc n

filled-starts : (t : Timing) (offset global : Float) → TimingTaken t offset global → Starts (filled t)
filled-starts t offset global h = of_filled Starts t (sole_starts t) (λ n. some-start t n h.starts h.tempos_rise)

-- ---- a fresh state
module _ (t : Timing) (offset global : Float) (taken : TimingTaken t offset global) where
  offset-sized : (x : Float) → in_range (range_of Kind.Offset) x ≡ true → Sized 20 x
  offset-sized x h = sized 20 x (taken-within 20 x h)

  pub fresh-fine : Fine (filled t) (fresh_state offset global) 0
  unfolding fresh_state
  fresh-fine =
      let lists = lists-taken t offset global taken in
      record {
        places = record { tempos = omega arith; stops = omega arith; delays = omega arith; warps = omega arith };
        near = omega arith;
        time =
            at_most_wider (lit≤ tt)
            (sub_at_most binary64 (power_of_format binary64 21 (lit≤ tt)) (neg offset) global (at_most_neg offset (offset-sized offset taken.offset_in)) (offset-sized global taken.global_in) (lit≤ tt));
        end = end-begins;
        few = omega (arith, left_le (filled t) (fresh_state offset global), lists.tempos.few, lists.stops.few, lists.delays.few, lists.warps.few);
      }

  -- ---- what a walk leaves
  module _ (r : ℤ) (near : nat_abs r ≤ most_row) where
    none_passed : (fresh_state offset global).tempos ≡ 0
    unfolding fresh_state
    none_passed = refl

    pub walked-fine : Fine (filled t) (walk (filled t) r (fresh_state offset global)).state (walk (filled t) r (fresh_state offset global)).passed
    walked-fine = walk_fine (filled t) (lists-taken t offset global taken) r near (fresh_state offset global) none_passed fresh-fine

    pub walked-time : AtMost (spans (spans_after (walk (filled t) r (fresh_state offset global)).passed + 1)) (walk (filled t) r (fresh_state offset global)).time
    walked-time = walk-time (filled t) (lists-taken t offset global taken) r near (fresh_state offset global) none_passed fresh-fine

  -- ---- the cursor test
  passes : (s : State) (n : ℕ) (asked : ℤ) → Fine (filled t) s n → pick (row_in asked) true (le_z asked fresh_mark) ≡ true → cursor_refusal t (record { state = s; asked = asked }) ≡ 0
  unfolding cursor_refusal
  passes s n asked f mark = rw (tempos-filled t, stops-filled t, delays-filled t, warps-filled t) at (fine-passes (filled t) s n asked f mark)

  fresh-passes : cursor_refusal t (fresh_cursor offset global) ≡ 0
  unfolding fresh_cursor row_in
  fresh-passes = passes (fresh_state offset global) 0 fresh_mark fresh-fine refl

  walked-passes : (r : ℤ) → nat_abs r ≤ most_row → cursor_refusal t (record { state = (walk (filled t) r (fresh_state offset global)).state; asked = r }) ≡ 0
  unfolding row_in
  walked-passes r near = passes (walk (filled t) r (fresh_state offset global)).state (walk (filled t) r (fresh_state offset global)).passed r (walked-fine r near) (rw (le-leb (nat_abs r) 3145728 near))

  pub sound_if_taken : Sound t offset global
  sound_if_taken =
      let starts = filled-starts t offset global taken in
      record {
        usable = record {
          some = starts.some;
          first = starts.first;
          beats_in = (lists-taken t offset global taken).tempos.beats_in;
          starts = starts.starts;
          rise = starts.rise;
          near = λ r near. (walked-fine r near).near;
        };
        fresh_fine = fresh-passes;
        walked_fine = walked-passes;
      }

pub sound : {t : Timing} {offset global : Float} → timing_number t offset global ≡ 0 → Sound t offset global
sound {t} {offset} {global} h = sound_if_taken t offset global (timing-taken h)
