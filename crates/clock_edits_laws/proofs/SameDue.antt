-- What is due by an asked row is the same where the lists are cut at that row. Assumes nothing.
use Rattle.clock_walk.specs.declared.Next.{Next}
use Rattle.std.specs.Prelude.{Option, Some, None}
use Prim.Native.Nat.{ℕ, ◌≤◌}
use mathlib.Core.List.{List}
use mathlib.Core.Bool.{Bool, true, false}
use mathlib.Core.Path.{◌≡◌, refl, sym, ap, ◌∙◌}
use native.Mathlib.Omega.{arith}
use borrow.Author.Tests.{ltb-true, ltb-false}
use lib.Dec.{ltb}
use lib.ListN.{length, get_or, take}
use lib.Seq.{get_or-take}
use lib.IntN.{ℤ}
use lib.Signed.{lt_z}
use lib.Ieee.{Float, nan, binary64}
use Rattle.picks.specs.Pick.{pick}
use Rattle.rows.specs.Rows.{row}
use Rattle.chart.specs.Timing.{Timing}
use Rattle.chart.specs.declared.State.{State}
use Rattle.clock_walk.specs.Events.{sooner, offered, end_offered, row_ahead, ahead, goes_first, goes_before, due_of, due}
use Rattle.clock_walk.specs.Walk.{is_passes}
use Rattle.clock_walk.specs.declared.Event.{Event}
use Rattle.clock_walk.specs.declared.Event.TheVariants.{Tempo, Delay, Stop, Warp}
use Rattle.rows.proofs.RowOrder.{no, lt_le, le_lt, le_trans, lt_not}
use Rattle.clock_walk.proofs.ClockTest.{behind}
use Rattle.clock_walk.proofs.StaysWithin.{PlacesWithin}
use Rattle.clock_edits_laws.specs.AgreeingTimings.{up_to_row, below_row}
use Rattle.clock_edits_laws.proofs.Fronts.{front_by, front_le, front-stops, front_length, is-above, cut}

-- ---- what was found in a list and in its front: the same, or both beyond, in a sense in which no candidate of the list comes back from there
data Close (Beyond : Option Next → Type 0) (a b : Option Next) : Type 0 where
  same : a ≡ b → Close Beyond a b
  beyond : Beyond a → Beyond b → Close Beyond a b

abbrev found : ℤ → Event → Option Next
found at k = Some (record { row = at; kind = k })

-- one that is no sooner than what is beyond is beyond itself; so is one that fails the test of the front, and what it is sooner than
record Bounds (test : ℤ → Bool) (k : Event) (Beyond : Option Next → Type 0) : Type 0 where
  later : (at : ℤ) (a : Option Next) → Beyond a → lt_z at (row_ahead a) ≡ false → Beyond (found at k)
  fails : (at : ℤ) → test at ≡ false → Beyond (found at k)
  over : (at : ℤ) (a : Option Next) → test at ≡ false → lt_z at (row_ahead a) ≡ true → Beyond a

module _ (test : ℤ → Bool) (k : Event) (Beyond : Option Next → Type 0) (bounds : Bounds test k Beyond) where
  close-sooner : (a b : Option Next) (at : ℤ) → Close Beyond a b → Close Beyond (sooner row_ahead a (found at k)) (sooner row_ahead b (found at k))
  unfolding sooner
  close-sooner a b at (same e) = same (ap (λ (x : Option Next). sooner row_ahead x (found at k)) e)
  close-sooner a b at (beyond p q) = go (lt_z at (row_ahead a)) (lt_z at (row_ahead b)) refl refl
    where
      go : (x y : Bool) → lt_z at (row_ahead a) ≡ x → lt_z at (row_ahead b) ≡ y → Close Beyond (pick x (found at k) a) (pick y (found at k) b)
      go true true e f = same refl
      go true false e f = beyond (bounds.later at b q f) q
      go false true e f = beyond p (bounds.later at a p e)
      go false false e f = beyond p q

  -- one that fails the test may be left out
  close_without : (a b : Option Next) (at : ℤ) → test at ≡ false → Close Beyond a b → Close Beyond (sooner row_ahead a (found at k)) b
  unfolding sooner
  close_without a b at out c = go (lt_z at (row_ahead a)) refl c
    where
      go : (x : Bool) → lt_z at (row_ahead a) ≡ x → Close Beyond a b → Close Beyond (pick x (found at k) a) b
      go true e (same p) = beyond (bounds.fails at out) (bounds.over at b out (ap (λ (x : Option Next). lt_z at (row_ahead x)) (sym p) ∙ e))
      go true e (beyond p q) = beyond (bounds.fails at out) q
      go false e c = c

  close-offered : (a b : Option Next) (beats : List Float) (place : ℕ) → place ≤ front_by test beats → Close Beyond a b
      → Close Beyond (offered row_ahead Some a beats place k) (offered row_ahead Some b (take (front_by test beats) beats) place k)
  unfolding offered
  close-offered a b beats place within c = rw (front_length test beats) (go (ltb place (front_by test beats)) (ltb place (length beats)) refl refl)
    where
      at : List Float → ℤ
      at list = row binary64 (get_or list place nan)

      go : (x y : Bool) → ltb place (front_by test beats) ≡ x → ltb place (length beats) ≡ y
          → Close Beyond (pick y (sooner row_ahead a (found (at beats) k)) a) (pick x (sooner row_ahead b (found (at (take (front_by test beats) beats)) k)) b)
      go true true e f = rw (get_or-take (front_by test beats) beats place nan (ltb-true place (front_by test beats) e)) (close-sooner a b (at beats) c)
      go true false e f = absurd (omega (arith, ltb-true place (front_by test beats) e, ltb-false place (length beats) f, front_le test beats))
      go false false e f = c
      go false true e f =
          let l = ltb-false place (front_by test beats) e in
          let m = ltb-true place (length beats) f in
          let is : place ≡ front_by test beats = omega arith in
          close_without a b (at beats) (rw is (front-stops test beats (rw is at m))) c

module _ (r : ℤ) where
  -- ---- tempos and delays: beyond is above the asked row
  abbrev Above : Option Next → Type 0
  Above a = lt_z r (row_ahead a) ≡ true

  up_to_bounds : (k : Event) → Bounds (up_to_row r) k Above
  up_to_bounds k = record {
    later = λ at a p e. lt_le r (row_ahead a) at p e;
    fails = λ at out. is-above r at out;
    over = λ at a out e. lt_le r at (row_ahead a) (is-above r at out) (lt_not at (row_ahead a) e);
  }

  -- ---- stops and warps: beyond is not below the asked row, and not due
  record Late (a : Option Next) : Type 0 where
    not_below : lt_z (row_ahead a) r ≡ false
    not_due : is_passes (due_of r a) ≡ false

  above_late : (a : Option Next) → Above a → Late a
  above_late a h = record { not_below = lt_not r (row_ahead a) h; not_due = go a h }
    where
      go : (a : Option Next) → Above a → is_passes (due_of r a) ≡ false
      go (Some n) h = rw (behind r n h)
      go None h = refl

  late_found : (k : Event) (at : ℤ) → goes_first k ≡ false → lt_z at r ≡ false → Late (found at k)
  unfolding goes_before
  late_found k at last e = record { not_below = e; not_due = rw (e, last) (go (lt_z r at)) }
    where
      go : (b : Bool) → is_passes (pick (pick b false false) (Some (record { row = at; kind = k })) None) ≡ false
      go true = refl
      go false = refl

  below_bounds : (k : Event) → goes_first k ≡ false → Bounds (below_row r) k Late
  below_bounds k last = record {
    later = λ at a p e. late_found k at last (le_trans r (row_ahead a) at p.not_below e);
    fails = λ at out. late_found k at last out;
    over = λ at a out e. above_late a (le_lt r at (row_ahead a) out e);
  }

  both_late : (a b : Option Next) → Close Above a b → Close Late a b
  both_late a b (same e) = same e
  both_late a b (beyond p q) = beyond (above_late a p) (above_late b q)

  -- ---- so the same is due
  asked_if : (d : Option Next) → is_passes d ≡ false → d ≡ None
  asked_if (Some n) h = no (sym h)
  asked_if None h = refl

  due_if : (a b : Option Next) → Close Late a b → due_of r a ≡ due_of r b
  due_if a b (same e) = ap (due_of r) e
  due_if a b (beyond p q) = asked_if (due_of r a) p.not_due ∙ sym (asked_if (due_of r b) q.not_due)

  pub same-due : (t : Timing) (s : State) → PlacesWithin (cut r t) s → due t r s ≡ due (cut r t) r s
  unfolding ahead cut
  same-due t s within =
      let tempos : s.tempos ≤ front_by (up_to_row r) t.tempo_beats = rw (front_length (up_to_row r) t.tempo_beats) at within.tempos in
      let delays : s.delays ≤ front_by (up_to_row r) t.delay_beats = rw (front_length (up_to_row r) t.delay_beats) at within.delays in
      let stops : s.stops ≤ front_by (below_row r) t.stop_beats = rw (front_length (below_row r) t.stop_beats) at within.stops in
      let warps : s.warps ≤ front_by (below_row r) t.warp_beats = rw (front_length (below_row r) t.warp_beats) at within.warps in
      let end = end_offered row_ahead Some None s.warping s.end in
      let tempo = close-offered (up_to_row r) Tempo Above (up_to_bounds Tempo) end end t.tempo_beats s.tempos tempos (same refl) in
      let delay = close-offered (up_to_row r) Delay Above (up_to_bounds Delay) _ _ t.delay_beats s.delays delays tempo in
      let stop = close-offered (below_row r) Stop Late (below_bounds Stop refl) _ _ t.stop_beats s.stops stops (both_late _ _ delay) in
      let warp = close-offered (below_row r) Warp Late (below_bounds Warp refl) _ _ t.warp_beats s.warps warps stop in
      due_if _ _ warp
