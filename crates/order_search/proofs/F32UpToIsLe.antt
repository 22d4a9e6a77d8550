-- An f32 is at or before an f64 just where it is at or before the greatest f32 that is not above it. Assumes nothing.
use Rattle.std.proofs.Common.{◌≡◌, ℕ, ◌+◌, Bool, true, false, not, T, ltb, leb, sym, refl, ap, ◌∙◌, subst, inl, inr, arith, le-ltb, lt-ltb, le-leb}
use borrow.Author.Tests.{lt-leb}
use lib.Ieee.{Float, nan, inf, fin, binary32, fits, is_nan, lt, eq, le}
use lib.Ieee.Bits.{of_bits-fits}
use Rattle.picks.specs.Pick.{pick}
use Rattle.ieee.specs.Narrowing.{narrow}
use Rattle.ieee.proofs.FloatOrder.{lt_le}
use Rattle.ieee.proofs.Narrow.{narrow-nan, narrow-fits, narrow-number, narrow-own, narrow_keeps_order}
use Rattle.order.specs.FloatKey.{float_key}
use Rattle.order.proofs.Compare.{below?}
use Rattle.order.proofs.FloatKeys.{floats-below, floats_at_most}
use Rattle.order_search.specs.F32UpTo.{next_below, f32_up_to}
use Rattle.ieee.proofs.FloatsInOrder.{float_le_trans, float_lt_or_le, float_lt_not_le}
use Rattle.order_search.proofs.PatternBelow.{rounded-up, below-number, key_below}

agree : (p q : Bool) → (T p → T q) → (T q → T p) → p ≡ q
agree true true f g = refl
agree true false f g = absurd (f tt)
agree false true f g = absurd (g tt)
agree false false f g = refl

-- at or before the number below one is before it
one_less : (a b c : ℕ) → b + 1 ≡ c → leb a b ≡ ltb a c
one_less a b c e = elim (below? b a) [ inl h ↦ lt-leb a b h ∙ sym (le-ltb a c (omega arith)) | inr h ↦ le-leb a b h ∙ sym (lt-ltb a c (omega arith)) ]

module _ (b at : Float) (held : T (fits binary32 b)) (nb : T (not (is_nan b))) (na : T (not (is_nan at))) where
  abbrev near : Float
  near = narrow at

  near-number : T (not (is_nan near))
  near-number = narrow-number at na

  -- rounding keeps the order of the f32 and the f64, both ways
  stays-before : T (le b at) → T (le b near)
  stays-before h = subst (λ (x : Float). T (le x near)) (narrow-own b held) (narrow_keeps_order b at h)

  stays-behind : T (le at b) → T (le near b)
  stays-behind h = subst (λ (x : Float). T (le near x)) (narrow-own b held) (narrow_keeps_order at b h)

  up_to_near : lt at near ≡ false → le b near ≡ le b at
  up_to_near e = agree (le b near) (le b at) (λ h. elim (float_lt_or_le at near na near-number) [ inl l ↦ absurd (subst T e l) | inr l ↦ float_le_trans b near at h l ]) stays-before

  up_to_below : lt at near ≡ true → le b (next_below near) ≡ le b at
  unfolding next_below
  up_to_below e =
      let low = next_below near in
      floats_at_most binary32 b low held (of_bits-fits binary32 _) nb (below-number near (narrow-fits at) (rounded-up at e))
      ∙ one_less (float_key binary32 b) (float_key binary32 low) (float_key binary32 near) (key_below near (narrow-fits at) (rounded-up at e))
      ∙ sym (floats-below binary32 b near held (narrow-fits at) nb near-number)
      ∙ agree (lt b near) (le b at)
      (λ h. elim (float_lt_or_le at b na nb) [ inl l ↦ absurd (float_lt_not_le b near h (stays-behind (lt_le at b l))) | inr l ↦ l ])
      (λ h. elim (float_lt_or_le b near nb near-number) [ inl l ↦ l | inr l ↦ absurd (float_lt_not_le at near (subst T (sym e) tt) (float_le_trans near b at l h)) ])

  of_numbers_lem : le b (f32_up_to at) ≡ le b at
  unfolding f32_up_to
  of_numbers_lem = go (lt at near) refl
    where
      go : (t : Bool) → lt at near ≡ t → le b (pick t (next_below near) near) ≡ le b at
      go true e = up_to_below e
      go false e = up_to_near e

-- a NaN is at or before nothing, and nothing at or before it
pub f32_up_to_is_le : (b at : Float) → T (fits binary32 b) → le b (f32_up_to at) ≡ le b at
unfolding f32_up_to le lt eq is_nan
f32_up_to_is_le nan at h = refl
f32_up_to_is_le (inf s) nan h = ap (le (inf s)) narrow-nan
f32_up_to_is_le (fin s m e) nan h = ap (le (fin s m e)) narrow-nan
f32_up_to_is_le (inf s) (inf t) h = of_numbers_lem (inf s) (inf t) h tt tt
f32_up_to_is_le (inf s) (fin t n d) h = of_numbers_lem (inf s) (fin t n d) h tt tt
f32_up_to_is_le (fin s m e) (inf t) h = of_numbers_lem (fin s m e) (inf t) h tt tt
f32_up_to_is_le (fin s m e) (fin t n d) h = of_numbers_lem (fin s m e) (fin t n d) h tt tt
