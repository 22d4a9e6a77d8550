-- The start and the end of an entry say what it covers; and so whether a row is warped, fake or judgable. Assumes nothing.
use Rattle.std.proofs.Common.{◌≡◌, ℕ, zero, suc, ◌-◌, Bool, true, false, not, List, get_or, ℤ, sym, refl, ◌∙◌, arith, ne_eqb}
use lib.Ieee.{Float, nan, inf, fin, binary32, add, lt, le, eq}
use Rattle.ieee.specs.Constants.{plus_zero}
use Rattle.picks.specs.Pick.{pick}
use Rattle.rows.specs.Rows.{beat_of}
use Rattle.rows.specs.RowKey.{row_key}
use Rattle.lookup.specs.Lookups.{WarpLists, LookupLists, list_columns, but_fakes, warp_covers, fake_covers, in_warp, is_paused, is_warped, is_fake, is_judgable, of_last}
use Rattle.lookup.specs.inside.Finding.{Split, Usable, span_covers, start_of, warp_end, fake_end}
use Rattle.lookup.proofs.FoundEntries.{last_found}

-- no beat is before a NaN
before-none : (x : Float) → lt x nan ≡ false
unfolding lt
before-none nan = refl
before-none (inf s) = refl
before-none (fin s m e) = refl

module _ (beats lengths : List Float) (at : Float) where
  no_length : (t : Bool) (beat end : Float) → span_covers beat (pick t end nan) at ≡ pick t (span_covers beat end at) false
  no_length true beat end = refl
  no_length false beat end = go (le beat at)
    where
      go : (t : Bool) → pick t (lt at nan) false ≡ false
      go true = before-none at
      go false = refl

  warp-spans : (n : ℕ) → span_covers (start_of beats n) (warp_end beats lengths n) at ≡ of_last (warp_covers at) false beats lengths n
  unfolding warp_end le lt eq
  warp-spans zero = refl
  warp-spans (suc m) =
      let here : suc m - 1 ≡ m = omega arith in
      rw (ne_eqb (suc m) 0 (λ e. omega arith), here) (no_length (lt plus_zero (get_or lengths m nan)) (get_or beats m nan) (add binary32 (get_or beats m nan) (get_or lengths m nan)))

  fake-spans : (n : ℕ) → span_covers (start_of beats n) (fake_end beats lengths n) at ≡ of_last (fake_covers at) false beats lengths n
  unfolding fake_end le lt eq
  fake-spans zero = refl
  fake-spans (suc m) = let here : suc m - 1 ≡ m = omega arith in rw (ne_eqb (suc m) 0 (λ e. omega arith), here)

-- ---- a row where what the last entry covers is held
module _ (asked : ℤ) (n : ℕ) (start end : Float) where
  pub in_fake_lem : (beats lengths : List Float) → Usable beats lengths → Split (row_key asked) beats n → start ≡ start_of beats n → end ≡ fake_end beats lengths n
      → is_fake (list_columns beats lengths) asked ≡ span_covers start end (beat_of binary32 asked)
  unfolding is_fake
  in_fake_lem beats lengths usable split p q =
      last_found (fake_covers (beat_of binary32 asked)) (row_key asked) false beats lengths n usable.0 split ∙ sym (rw (p, q) (fake-spans beats lengths (beat_of binary32 asked) n))

  module _ (lists : WarpLists) (usable : Usable lists.warps.beats lists.warps.values) (split : Split (row_key asked) lists.warps.beats n) (p : start ≡ start_of lists.warps.beats n) (q : end ≡ warp_end lists.warps.beats lists.warps.values n) where
    in_warp_lem : in_warp lists asked ≡ span_covers start end (beat_of binary32 asked)
    in_warp_lem = last_found (warp_covers (beat_of binary32 asked)) (row_key asked) false lists.warps.beats lists.warps.values n usable.0 split ∙ sym (rw (p, q) (warp-spans lists.warps.beats lists.warps.values (beat_of binary32 asked) n))

    pub warped-outside : span_covers start end (beat_of binary32 asked) ≡ false → is_warped lists asked ≡ false
    unfolding is_warped
    warped-outside e = rw (in_warp_lem ∙ e)

    pub warped-inside : span_covers start end (beat_of binary32 asked) ≡ true
        → is_warped lists asked ≡ pick (is_paused (row_key asked) lists.stops.beats lists.stops.values) false (not (is_paused (row_key asked) lists.delays.beats lists.delays.values))
    unfolding is_warped
    warped-inside e = rw (in_warp_lem ∙ e)

-- neither warped nor fake
module _ (lists : LookupLists) (asked : ℤ) (warped fake : Bool) where
  pub judged : is_warped (but_fakes lists) asked ≡ warped → is_fake lists.fakes asked ≡ fake
      → is_judgable lists asked ≡ pick warped false (not fake)
  unfolding is_judgable
  judged w f = rw (w, f)
