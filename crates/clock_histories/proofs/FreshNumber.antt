-- A fresh cursor that is asked an allowed beat answers the timing's own number, whatever the timing and its offsets are. Assumes nothing.
use Prim.Native.Nat.{ℕ, ◌≤◌}
use mathlib.Core.Bool.{Bool, true, false}
use mathlib.Core.List.{List}
use mathlib.Core.Path.{◌≡◌, refl, sym, ◌∙◌}
use native.Mathlib.Omega.{arith}
use borrow.Author.Tests.{eqb-true, le-leb}
use lib.Dec.{ltb, leb, eqb}
use lib.ListN.{length}
use lib.Ieee.{Float}
use lib.Ieee.Scale.{finite}
use Rattle.picks.specs.Pick.{pick}
use Rattle.limits.specs.Numbers.{range_of, in_range, all_in}
use Rattle.limits.specs.Refusals.{lower, list_number}
use Rattle.limits.specs.declared.Kind.TheVariants.{Beat, Tempo, Pause, Value, Offset}
use Rattle.limits.specs.declared.Range.{Range}
use Rattle.limits.proofs.NoRefusal.{none-lower}
use Rattle.chart.specs.Timing.{Timing}
use Rattle.clock_tests.specs.TimingNumbers.{rises, starts_at_zero, timing_lists_number, offset_number, offsets_number, order_number, timing_number, beat_number}
use Rattle.clock_tests.specs.CursorNumbers.{places_in, rows_in, end_in, cursor_number}
use Rattle.clock.specs.Question.{tempos_of, fresh_cursor, refused_with, by_number_of, reply, cursor_refusal, player_number, question_number, question}
use Rattle.clock.specs.declared.Cursor.{Cursor}
use Rattle.clock_histories.proofs.WalksAreSound.{sound}

-- ---- a timing's numbers are below a cursor's
lower_at_most : (most one other : ℕ) → one ≤ most → other ≤ most → lower one other ≤ most
unfolding lower
lower_at_most most one other h k = go (eqb one 0) (eqb other 0) (leb one other)
  where
    go : (a b c : Bool) → pick a other (pick b one (pick c one other)) ≤ most
    go true b c = k
    go false true c = h
    go false false true = h
    go false false false = k

list_at_most : (beat value : Range) (beats values : List Float) → list_number beat value beats values ≤ 5
unfolding list_number
list_at_most beat value beats values = go (ltb 1024 (length beats)) (ltb 1024 (length values)) (eqb (length beats) (length values)) (all_in beat beats) (all_in value values)
  where
    go : (a b c d e : Bool) → pick a 1 (pick b 1 (pick c (pick d (pick e 0 4) 3) 2)) ≤ 5
    go true b c d e = omega arith
    go false true c d e = omega arith
    go false false false d e = omega arith
    go false false true false e = omega arith
    go false false true true false = omega arith
    go false false true true true = omega arith

offset_at_most : (offset : Float) → offset_number offset ≤ 5
unfolding offset_number
offset_at_most offset = go (in_range (range_of Offset) offset)
  where
    go : (a : Bool) → pick a 0 4 ≤ 5
    go true = omega arith
    go false = omega arith

order_at_most : (t : Timing) → order_number t ≤ 5
unfolding order_number
order_at_most t = go (rises t.tempo_beats) (rises t.stop_beats) (rises t.delay_beats) (rises t.warp_beats) (starts_at_zero t.tempo_beats)
  where
    go : (a b c d e : Bool) → pick a (pick b (pick c (pick d (pick e 0 5) 5) 5) 5) 5 ≤ 5
    go true true true true true = omega arith
    go true true true true false = omega arith
    go true true true false e = omega arith
    go true true false d e = omega arith
    go true false c d e = omega arith
    go false b c d e = omega arith

timing_at_most : (t : Timing) (offset global : Float) → timing_number t offset global ≤ 5
unfolding timing_number timing_lists_number offsets_number
timing_at_most t offset global =
    let tempos = list_at_most (range_of Beat) (range_of Tempo) t.tempo_beats t.tempo_values in
    let stops = list_at_most (range_of Beat) (range_of Pause) t.stop_beats t.stop_values in
    let delays = list_at_most (range_of Beat) (range_of Pause) t.delay_beats t.delay_values in
    let warps = list_at_most (range_of Beat) (range_of Value) t.warp_beats t.warp_lengths in
    lower_at_most 5 _ _ (lower_at_most 5 _ _ tempos (lower_at_most 5 _ _ stops (lower_at_most 5 _ _ delays warps)))
    (lower_at_most 5 _ _ (lower_at_most 5 _ _ (offset_at_most offset) (offset_at_most global)) (order_at_most t))

-- beside a cursor's number, which is 0 or 9, one up to 5 is the lower
beside_nine : (n : ℕ) (a b c d : Bool) → n ≤ 5 → eqb n 0 ≡ false → lower n (pick a (pick b (pick c (pick d 0 9) 9) 9) 9) ≡ n
unfolding lower
beside_nine n true true true true h e = rw e
beside_nine n true true true false h e = rw (e, le-leb n 9 (omega (arith, h)))
beside_nine n true true false d h e = rw (e, le-leb n 9 (omega (arith, h)))
beside_nine n true false c d h e = rw (e, le-leb n 9 (omega (arith, h)))
beside_nine n false b c d h e = rw (e, le-leb n 9 (omega (arith, h)))

module _ (t : Timing) (offset global : Float) where
  abbrev fresh : Cursor
  fresh = fresh_cursor offset global

  refused-first : eqb (timing_number t offset global) 0 ≡ false → lower (timing_number t offset global) (cursor_refusal t fresh) ≡ timing_number t offset global
  unfolding cursor_refusal cursor_number
  refused-first e =
      beside_nine (timing_number t offset global) (places_in (tempos_of t) (length t.stop_beats) (length t.delay_beats) (length t.warp_beats) fresh.state) (rows_in fresh.state.row fresh.asked) (finite fresh.state.time) (end_in fresh.state.end) (timing_at_most t offset global) e

  beside-cursor : lower (timing_number t offset global) (cursor_refusal t fresh) ≡ timing_number t offset global
  beside-cursor = go (eqb (timing_number t offset global) 0) refl
    where
      taken : timing_number t offset global ≡ 0 → lower (timing_number t offset global) (cursor_refusal t fresh) ≡ timing_number t offset global
      taken n = rw (n, (sound n).fresh_fine) (none-lower 0)

      go : (x : Bool) → eqb (timing_number t offset global) 0 ≡ x → lower (timing_number t offset global) (cursor_refusal t fresh) ≡ timing_number t offset global
      go true e = taken (eqb-true (timing_number t offset global) 0 e)
      go false e = refused-first e

  number_of : (n : ℕ) (c : Cursor) (b : Float) → (by_number_of n t c offset global b).number ≡ n
  unfolding reply
  number_of n c b = go (eqb n 0) refl
    where
      go : (x : Bool) → eqb n 0 ≡ x → (pick x (reply t c offset global b) (refused_with n c)).number ≡ n
      go true e = sym (eqb-true n 0 e)
      go false e = refl

  pub fresh-number : (b : Float) → beat_number b ≡ 0 → (question t fresh offset global b).number ≡ timing_number t offset global
  unfolding question question_number player_number
  fresh-number b allowed = number_of (question_number t fresh offset global b) fresh b ∙ rw (allowed, none-lower (cursor_refusal t fresh)) beside-cursor
