-- A walk that passes the scrolls up to a beat, one after the other, comes to where the beat is drawn. Assumes nothing.
use Rattle.std.proofs.Common.{◌≡◌, ℕ, zero, suc, ◌+◌, ◌-◌, ◌<◌, ◌≤◌, Bool, true, false, eqb, List, [], ◌∷◌, length, get_or, drop, sym, refl, ◌∙◌, add-one, arith, drop_of_length-le, drop-cons, ne_eqb}
use lib.Ieee.{Float, nan}
use Rattle.ieee.specs.Constants.{plus_zero}
use Rattle.picks.specs.Pick.{pick}
use Rattle.notes_displayed.specs.Scrolls.{scrolled_on, prefix_from, ratio_before, scroll_prefix, reaches, up_to_beat, displayed_from, behind_scrolls, displayed_beat}
use Rattle.notes_displayed.specs.inside.Steps.{walked}

-- the last of n entries, or what stood before them
abbrev last_of : (shown from ratio : Float) → (beats ratios prefix : List Float) → ℕ → Float → Float
last_of shown from ratio beats ratios prefix n at =
    pick (eqb n 0) (displayed_from shown from ratio at) (displayed_from (get_or prefix (n - 1) nan) (get_or beats (n - 1) nan) (get_or ratios (n - 1) nan) at)

module _ (at : Float) where
  -- one entry more in front
  further : (n : ℕ) (before since ratio shown b r : Float) (beats ratios prefix : List Float)
      → last_of shown b r beats ratios prefix n at ≡ last_of before since ratio (b ∷ beats) (r ∷ ratios) (shown ∷ prefix) (suc n) at
  further n before since ratio shown b r beats ratios prefix =
      let less : suc n - 1 ≡ n = omega arith in
      rw (ne_eqb (suc n) 0 (λ z. omega arith), less) (there n)
    where
      there : (n : ℕ) → last_of shown b r beats ratios prefix n at ≡ displayed_from (get_or (shown ∷ prefix) n nan) (get_or (b ∷ beats) n nan) (get_or (r ∷ ratios) n nan) at
      there zero = refl
      there (suc n) = let less : suc n - 1 ≡ n = omega arith in rw (ne_eqb (suc n) 0 (λ z. omega arith), less)

  walked-is : (shown from ratio : Float) (beats ratios : List Float) → length beats ≡ length ratios
      → walked shown from ratio beats ratios at ≡ last_of shown from ratio beats ratios (prefix_from shown from ratio beats ratios) (up_to_beat at beats) at
  unfolding walked prefix_from up_to_beat
  walked-is shown from ratio [] ratios even = refl
  walked-is shown from ratio (b ∷ beats) [] even = absurd (omega arith)
  walked-is shown from ratio (b ∷ beats) (r ∷ ratios) even = go (reaches b at) (walked-is (scrolled_on shown from ratio b) b r beats ratios (omega arith))
    where
      go : (t : Bool) → walked (scrolled_on shown from ratio b) b r beats ratios at ≡ last_of (scrolled_on shown from ratio b) b r beats ratios (prefix_from (scrolled_on shown from ratio b) b r beats ratios) (up_to_beat at beats) at
          → pick t (walked (scrolled_on shown from ratio b) b r beats ratios at) (displayed_from shown from ratio at)
          ≡ last_of shown from ratio (b ∷ beats) (r ∷ ratios) (scrolled_on shown from ratio b ∷ prefix_from (scrolled_on shown from ratio b) b r beats ratios) (pick t (suc (up_to_beat at beats)) 0) at
      go true rest = rest ∙ further (up_to_beat at beats) shown from ratio (scrolled_on shown from ratio b) b r beats ratios (prefix_from (scrolled_on shown from ratio b) b r beats ratios)
      go false rest = refl

  -- where no scroll is passed, the beat is drawn from where the walk stands
  none_passed : (shown from ratio : Float) (beats ratios : List Float) → up_to_beat at beats ≡ 0 → walked shown from ratio beats ratios at ≡ displayed_from shown from ratio at
  unfolding walked up_to_beat
  none_passed shown from ratio [] ratios h = refl
  none_passed shown from ratio (b ∷ beats) [] h = refl
  none_passed shown from ratio (b ∷ beats) (r ∷ ratios) h = go (reaches b at) h
    where
      go : (t : Bool) → pick t (suc (up_to_beat at beats)) 0 ≡ 0 → pick t (walked (scrolled_on shown from ratio b) b r beats ratios at) (displayed_from shown from ratio at) ≡ displayed_from shown from ratio at
      go true h = absurd (omega arith)
      go false h = refl

  module _ (beats ratios : List Float) where
    -- after i scrolls that were passed
    pub record Walking (shown from ratio : Float) (i : ℕ) : Type 0 where
      pub inside : i ≤ length beats
      pub counted : up_to_beat at beats ≡ i + up_to_beat at (drop i beats)
      pub same : walked shown from ratio (drop i beats) (drop i ratios) at ≡ walked plus_zero plus_zero ratio_before beats ratios at

    pub walk-begun : Walking plus_zero plus_zero ratio_before 0
    walk-begun = record { inside = omega arith; counted = omega arith; same = refl }

    module _ {shown from ratio : Float} {i : ℕ} (so_far : Walking shown from ratio i) where
      pub walk-turned : length beats ≡ length ratios → i < length beats → reaches (get_or beats i nan) at ≡ true
          → Walking (scrolled_on shown from ratio (get_or beats i nan)) (get_or beats i nan) (get_or ratios i nan) (i + 1)
      unfolding walked up_to_beat
      walk-turned even more passes =
          let others : i < length ratios = omega arith in
          record {
            inside = omega arith;
            counted = omega (arith, so_far.counted, one_more);
            same = rw (add-one i) (rw (drop-cons beats i nan more, drop-cons ratios i nan others, passes) at so_far.same);
          }
        where
          one_more : up_to_beat at (drop i beats) ≡ suc (up_to_beat at (drop (i + 1) beats))
          one_more = rw (add-one i, drop-cons beats i nan more, passes)

      -- the next one is not passed
      pub next-stays : i < length beats → reaches (get_or beats i nan) at ≡ false → up_to_beat at (drop i beats) ≡ 0
      unfolding up_to_beat
      next-stays more stays = rw (drop-cons beats i nan more, stays)

      -- there is no next one
      pub all-passed : length beats ≤ i → up_to_beat at (drop i beats) ≡ 0
      unfolding up_to_beat
      all-passed past = rw (drop_of_length-le beats past)

      module _ (last : up_to_beat at (drop i beats) ≡ 0) where
        pub walked_none : i ≡ 0 → at ≡ displayed_beat beats ratios at
        unfolding displayed_beat behind_scrolls
        walked_none none = let n : up_to_beat at beats ≡ 0 = omega (arith, so_far.counted) in rw n

        pub walked-some : length beats ≡ length ratios → (i ≡ 0 → ⊥) → displayed_from shown from ratio at ≡ displayed_beat beats ratios at
        unfolding displayed_beat behind_scrolls scroll_prefix
        walked-some even some =
            let n : eqb (up_to_beat at beats) 0 ≡ false = ne_eqb (up_to_beat at beats) 0 (λ z. some (omega (arith, so_far.counted))) in
            sym (none_passed shown from ratio (drop i beats) (drop i ratios) last) ∙ so_far.same ∙ walked-is plus_zero plus_zero ratio_before beats ratios even ∙ rw n
