-- Whether each two beats pass a test, from one beat on: by that of it and the next; and beats that are numbers never fall where their keys do not. Assumes nothing.
use Prim.Native.Nat.{ℕ, suc, ◌+◌, ◌-◌, ◌≤◌, ◌<◌}
use mathlib.Core.Path.{◌≡◌, refl, ap, ◌∙◌}
use mathlib.Core.Bool.{Bool, true, false, not}
use mathlib.Core.Logic.{inl, inr}
use mathlib.Core.List.{List, [], ◌∷◌, map}
use native.Mathlib.Numerals.{add-one}
use native.Mathlib.Omega.{arith}
use lib.ListN.{length, drop, get_or, drop_of_length-le}
use lib.Seq.{drop-cons}
use lib.Dec.{T, ltb, leb}
use lib.Ieee.{Float, nan, Format, is_nan, fits}
use borrow.Author.Tests.{lt-ltb, le-ltb, lt-leb, le-leb}
use Rattle.order.specs.Order.{never_falls, may_precede}
use Rattle.order.specs.FloatKey.{float_key}
use Rattle.order.proofs.Compare.{below?}
use Rattle.order.proofs.OrderedList.{Each}
use Rattle.order.proofs.FloatKeys.{floats-below}
use Rattle.picks.specs.Pick.{pick}
use Rattle.limits.specs.Numbers.{every}
use Rattle.limits.specs.Neighbours.{neighbours, every_two, not_falling}

-- ---- a test of each two, from one beat on
module _ (beats : List Float) (i : ℕ) where
  one : i < length beats → drop i beats ≡ get_or beats i nan ∷ drop (i + 1) beats
  one h = rw (add-one i, drop-cons beats i nan h)

  two : i + 1 < length beats → drop i beats ≡ get_or beats i nan ∷ get_or beats (i + 1) nan ∷ drop (suc (i + 1)) beats
  two h = one (omega arith) ∙ ap (◌∷◌ (get_or beats i nan)) (drop-cons beats (i + 1) nan h)

  module _ (test : Float → Float → Bool) where
    two-pass : i + 1 < length beats → test (get_or beats i nan) (get_or beats (i + 1) nan) ≡ true → every_two test (drop i beats) ≡ every_two test (drop (i + 1) beats)
    unfolding neighbours every
    two-pass h t = rw (two h, drop-cons beats (i + 1) nan h, t)

    two_fail : i + 1 < length beats → test (get_or beats i nan) (get_or beats (i + 1) nan) ≡ false → every_two test (drop i beats) ≡ false
    unfolding neighbours every
    two_fail h t = rw (two h, t)

    two-last : i < length beats → length beats ≤ i + 1 → every_two test (drop i beats) ≡ true
    unfolding neighbours every
    two-last h l = rw (one h, drop_of_length-le beats l)

    two_none : length beats ≤ i → every_two test (drop i beats) ≡ true
    unfolding neighbours every
    two_none l = rw (drop_of_length-le beats l)

-- a place that a loop has come to, the place before it, and the end
module _ (test : Float → Float → Bool) (beats : List Float) where
  pub pass-on : (before i : ℕ) → i ≡ before + 1 → i < length beats → test (get_or beats before nan) (get_or beats i nan) ≡ true
      → every_two test (drop before beats) ≡ every_two test (drop (i + 1 - 1) beats)
  pass-on before i e h t =
      let now : i + 1 - 1 ≡ before + 1 = omega arith in
      rw now (two-pass beats before test (rw e at h) (rw e at t))

  pub fail-here : (before i : ℕ) → i ≡ before + 1 → i < length beats → test (get_or beats before nan) (get_or beats i nan) ≡ false → every_two test (drop before beats) ≡ false
  fail-here before i e h t = two_fail beats before test (rw e at h) (rw e at t)

  pub pass-end : (before : ℕ) → length beats ≤ before + 1 → every_two test (drop before beats) ≡ true
  pass-end before h = elim (below? before (length beats)) [ inl more ↦ two-last beats before test more h | inr past ↦ two_none beats before test past ]

-- ---- by keys, over the format
pub record Number (f : Format) (x : Float) : Type 0 where
  pub held : T (fits f x)
  pub number : T (not (is_nan x))

precedes : (a b : ℕ) → leb a b ≡ not (ltb b a)
precedes a b = elim (below? b a) [ inl h ↦ rw (lt-leb a b h, lt-ltb b a h) | inr h ↦ rw (le-leb a b h, le-ltb b a h) ]

module _ {A : Type 0} (f : Format) (beat : A → Float) where
  abbrev key : A → ℕ
  key x = float_key f (beat x)

  pub in_order_by_key : (list : List A) → Each key (λ (x : A). Number f (beat x)) list → every_two not_falling (map beat list) ≡ never_falls key list
  unfolding neighbours every never_falls may_precede
  in_order_by_key [] ps = refl
  in_order_by_key (x ∷ []) ps = refl
  in_order_by_key (x ∷ next ∷ list) ps =
      rw (floats-below f (beat next) (beat x) ps.1.0.held ps.0.held ps.1.0.number ps.0.number, precedes (key x) (key next))
      (go (ltb (key next) (key x)) (in_order_by_key (next ∷ list) ps.1))
    where
      go : (falls : Bool) → every_two not_falling (map beat (next ∷ list)) ≡ never_falls key (next ∷ list)
          → pick (not falls) (every_two not_falling (map beat (next ∷ list))) false ≡ pick (not falls) (never_falls key (next ∷ list)) false
      go true e = refl
      go false e = e
