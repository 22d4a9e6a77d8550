-- Where a head is left, the least beat is that of a head, which is met: so every turn lessens what is left. Assumes nothing.
use Rattle.std.proofs.Common.{◌≡◌, ℕ, zero, suc, ◌+◌, ◌-◌, ◌/◌, ◌<◌, ◌≤◌, Bool, true, false, not, ltb, ◌⊎◌, List, [], ◌++◌, length, get_or, sym, refl, ap, ◌∙◌, inl, inr, ⊎_elim, arith, ltb-true}
use lib.Ieee.{Float, nan, inf, lt}
use Rattle.picks.specs.Pick.{pick}
use Rattle.stops_for_sm.specs.Merging.{Sources, Heads, lesser, least_beat, meets, moved_on, beat_here, stop_met, delay_met, warp_met, turn, is_over, turns_left, sum_written, merged_within, merged_stops}
use Rattle.stops_for_sm.specs.Plain.{AllFinite, Plain}

no {ℓ} : {A : Type ℓ} → false ≡ true → A
no h = let z : ◌≡◌ {A = ℕ} 0 1 = cc in absurd (omega arith)

-- either the least stays, and no head that is there is less, or the head takes its place
data Compared (least : Float) (beats : List Float) (place : ℕ) : Type 0 where
  stays : lesser least beats place ≡ least → (ltb place (length beats) ≡ true → lt (get_or beats place nan) least ≡ false) → Compared least beats place
  gives : ltb place (length beats) ≡ true → lesser least beats place ≡ get_or beats place nan → Compared least beats place

compare : (least : Float) (beats : List Float) (place : ℕ) → Compared least beats place
unfolding lesser
compare least beats place = go (ltb place (length beats)) (lt (get_or beats place nan) least) refl refl
  where
    is : (a b : Bool) → ltb place (length beats) ≡ a → lt (get_or beats place nan) least ≡ b → lesser least beats place ≡ pick a (pick b (get_or beats place nan) least) least
    is a b e f = rw (e, f)

    go : (a b : Bool) → ltb place (length beats) ≡ a → lt (get_or beats place nan) least ≡ b → Compared least beats place
    go true true e f = gives e (is true true e f)
    go true false e f = stays (is true false e f) (λ _. f)
    go false b e f = stays (is false b e f) (λ h. no (sym e ∙ h))

-- a head on the least beat is met
met : (beats : List Float) (place : ℕ) (beat : Float) → AllFinite beats → ltb place (length beats) ≡ true → beat ≡ get_or beats place nan → meets beats place beat ≡ true
unfolding meets
met beats place beat n here e = rw (here, e) (n.same place (ltb-true place (length beats) here))

-- no head is below infinity only where there is none
none_here : (beats : List Float) (place : ℕ) → AllFinite beats → (ltb place (length beats) ≡ true → lt (get_or beats place nan) (inf false) ≡ false) → ltb place (length beats) ≡ false
none_here beats place n h = go (ltb place (length beats)) refl
  where
    go : (a : Bool) → ltb place (length beats) ≡ a → a ≡ false
    go false e = refl
    go true e = no (sym (h e) ∙ n.below place (ltb-true place (length beats) e))

-- a head that is met is there
pub here : (beats : List Float) (place : ℕ) (beat : Float) → meets beats place beat ≡ true → place < length beats
unfolding meets
here beats place beat e = go (ltb place (length beats)) refl
  where
    go : (a : Bool) → ltb place (length beats) ≡ a → place < length beats
    go true q = ltb-true place (length beats) q
    go false q = no (rw q at e)

module _ (s : Sources) (h : Heads) where
  abbrev first : Float
  first = lesser (inf false) s.stops h.stop

  abbrev second : Float
  second = lesser first s.delay_beats h.delay

  -- the least beat is below infinity, and a head is on it
  record Met : Type 0 where
    below : lt (beat_here s h) (inf false) ≡ true
    some : (stop_met s h ≡ true) ⊎ ((delay_met s h ≡ true) ⊎ (warp_met s h ≡ true))

  on_head : (beats : List Float) (place : ℕ) → AllFinite beats → ltb place (length beats) ≡ true → beat_here s h ≡ get_or beats place nan → lt (beat_here s h) (inf false) ≡ true
  on_head beats place n here e = rw e (n.below place (ltb-true place (length beats) here))

  over_or_met : Plain s → (is_over s h ≡ true) ⊎ Met
  unfolding least_beat is_over
  over_or_met plain = by-warp (compare second s.warp_beats h.warp)
    where
      by-warp : Compared second s.warp_beats h.warp → (is_over s h ≡ true) ⊎ Met
      by-warp (gives here e) = inr (record { below = on_head s.warp_beats h.warp plain.warps here e; some = inr (inr (met s.warp_beats h.warp (beat_here s h) plain.warps here e)) })
      by-warp (stays kept w) = by-delay (compare first s.delay_beats h.delay)
        where
          by-delay : Compared first s.delay_beats h.delay → (is_over s h ≡ true) ⊎ Met
          by-delay (gives here e) = inr (record { below = on_head s.delay_beats h.delay plain.delays here (kept ∙ e); some = inr (inl (met s.delay_beats h.delay (beat_here s h) plain.delays here (kept ∙ e))) })
          by-delay (stays kept' d) = by-stop (compare (inf false) s.stops h.stop)
            where
              by-stop : Compared (inf false) s.stops h.stop → (is_over s h ≡ true) ⊎ Met
              by-stop (gives here e) = inr (record { below = on_head s.stops h.stop plain.stops here (kept ∙ kept' ∙ e); some = inl (met s.stops h.stop (beat_here s h) plain.stops here (kept ∙ kept' ∙ e)) })
              by-stop (stays kept'' p) =
                  let a = none_here s.stops h.stop plain.stops p in
                  let b = none_here s.delay_beats h.delay plain.delays (λ x. sym (ap (lt (get_or s.delay_beats h.delay nan)) kept'') ∙ d x) in
                  let c = none_here s.warp_beats h.warp plain.warps (λ x. sym (ap (lt (get_or s.warp_beats h.warp nan)) (kept' ∙ kept'')) ∙ w x) in
                  inl (rw (a, b, c))

  over-least : is_over s h ≡ true → lt (beat_here s h) (inf false) ≡ false
  unfolding least_beat lesser is_over lt
  over-least e = go (ltb h.stop (length s.stops)) (ltb h.delay (length s.delay_beats)) (ltb h.warp (length s.warp_beats)) refl refl refl
    where
      go : (a b c : Bool) → ltb h.stop (length s.stops) ≡ a → ltb h.delay (length s.delay_beats) ≡ b → ltb h.warp (length s.warp_beats) ≡ c → lt (beat_here s h) (inf false) ≡ false
      go false false false p q r = rw (p, q, r)
      go true b c p q r = no (rw p at e)
      go false true c p q r = no (rw (p, q) at e)
      go false false true p q r = no (rw (p, q, r) at e)

  -- it is over just where the least beat is infinite
  pub over_by_least : Plain s → not (lt (beat_here s h) (inf false)) ≡ is_over s h
  over_by_least plain = go (is_over s h) refl
    where
      go : (o : Bool) → is_over s h ≡ o → not (lt (beat_here s h) (inf false)) ≡ o
      go true e = rw (over-least e)
      go false e = ⊎_elim (λ t. no (sym e ∙ t)) (λ m. rw m.below) (over_or_met plain)

module _ (s : Sources) (h : Heads) (plain : Plain s) (more : is_over s h ≡ false) where
  some-met : (stop_met s h ≡ true) ⊎ ((delay_met s h ≡ true) ⊎ (warp_met s h ≡ true))
  some-met = ⊎_elim (λ t. no (sym more ∙ t)) (λ m. m.some) (over_or_met s h plain)

  -- one entry fewer at least: of three lists, of which those that are met move on
  fewer : (a b c : Bool) (S D W p q r : ℕ) → (a ≡ true → p < S) → (b ≡ true → q < D) → (c ≡ true → r < W) → (a ≡ true) ⊎ ((b ≡ true) ⊎ (c ≡ true))
      → (S + 1 - moved_on a p 2) / 2 + (D - moved_on b q 1) + (W - moved_on c r 1) < (S + 1 - p) / 2 + (D - q) + (W - r)
  fewer true true true S D W p q r f g k some = let x = f refl in let y = g refl in let z = k refl in omega arith
  fewer true true false S D W p q r f g k some = let x = f refl in let y = g refl in omega arith
  fewer true false true S D W p q r f g k some = let x = f refl in let z = k refl in omega arith
  fewer true false false S D W p q r f g k some = let x = f refl in omega arith
  fewer false true true S D W p q r f g k some = let y = g refl in let z = k refl in omega arith
  fewer false true false S D W p q r f g k some = let y = g refl in omega arith
  fewer false false true S D W p q r f g k some = let z = k refl in omega arith
  fewer false false false S D W p q r f g k (inl e) = no e
  fewer false false false S D W p q r f g k (inr (inl e)) = no e
  fewer false false false S D W p q r f g k (inr (inr e)) = no e

  pub left-falls : turns_left s (turn s h).heads < turns_left s h
  unfolding turn
  left-falls =
      fewer (stop_met s h) (delay_met s h) (warp_met s h) (length s.stops) (length s.delay_beats) (length s.warp_beats) h.stop h.delay h.warp
      (here s.stops h.stop (beat_here s h)) (here s.delay_beats h.delay (beat_here s h)) (here s.warp_beats h.warp (beat_here s h)) some-met

-- ---- the turns of the merge
module _ (s : Sources) (plain : Plain s) where
  enough : (f g : ℕ) (b : Bool) (h : Heads) → is_over s h ≡ b → turns_left s h ≤ f → turns_left s h ≤ g → merged_within f b s h ≡ merged_within g b s h
  unfolding merged_within
  enough zero zero b h e p q = refl
  enough zero (suc g) false h e p q = let l = left-falls s h plain e in absurd (omega arith)
  enough zero (suc g) true h e p q = refl
  enough (suc f) zero false h e p q = let l = left-falls s h plain e in absurd (omega arith)
  enough (suc f) zero true h e p q = refl
  enough (suc f) (suc g) false h e p q =
      let l = left-falls s h plain e in
      ap (λ (x : List (Float × Float)). sum_written (turn s h) ++ x) (enough f g (is_over s (turn s h).heads) (turn s h).heads refl (omega arith) (omega arith))
  enough (suc f) (suc g) true h e p q = refl

  pub merged_on : (h : Heads) → is_over s h ≡ false → merged_stops s h ≡ sum_written (turn s h) ++ merged_stops s (turn s h).heads
  unfolding merged_stops merged_within
  merged_on h e = go (turns_left s h) refl
    where
      go : (f : ℕ) → turns_left s h ≡ f → merged_within (turns_left s h) (is_over s h) s h ≡ sum_written (turn s h) ++ merged_within (turns_left s (turn s h).heads) (is_over s (turn s h).heads) s (turn s h).heads
      go zero q = let l = left-falls s h plain e in absurd (omega arith)
      go (suc f) q =
          let l = left-falls s h plain e in
          rw (q, e) (ap (λ (x : List (Float × Float)). sum_written (turn s h) ++ x) (enough f (turns_left s (turn s h).heads) (is_over s (turn s h).heads) (turn s h).heads refl (omega arith) (omega arith)))

  pub merged-end : (h : Heads) → is_over s h ≡ true → merged_stops s h ≡ []
  unfolding merged_stops merged_within
  merged-end h e = go (turns_left s h) refl
    where
      go : (f : ℕ) → turns_left s h ≡ f → merged_within (turns_left s h) (is_over s h) s h ≡ []
      go zero q = rw q
      go (suc f) q = rw (q, e)
