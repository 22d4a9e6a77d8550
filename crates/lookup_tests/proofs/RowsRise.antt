-- Rows that rise: each is above all before it; and the test of neighbours. Assumes nothing.
use Prim.Native.Nat.{ℕ, zero, suc, ◌+◌, ◌≤◌, ◌<◌}
use mathlib.Core.Path.{◌≡◌, refl, sym, ap, ◌∙◌}
use mathlib.Core.Bool.{Bool, true, false}
use mathlib.Core.List.{List, [], ◌∷◌}
use mathlib.Core.Logic.{⊎_elim}
use native.Mathlib.Omega.{arith}
use native.Mathlib.Numerals.{add-one}
use borrow.Author.Tests.{ltb-true, lt-ltb, le-ltb, ne_eqb}
use lib.Dec.{ltb, eqb}
use lib.ListN.{length, drop, get_or, length-drop}
use lib.Seq.{drop-cons}
use lib.Ieee.{Float, nan}
use Rattle.picks.specs.Pick.{pick}
use Rattle.order.proofs.Compare.{below?}
use Rattle.lookup_tests.specs.Refused.{key_of, is_below, rows_rise, key_at}
use Rattle.lookup_tests.specs.inside.CountNotAbove.{count_not_above}

pub never : {A : Type 0} → false ≡ true → A
never e = let z : ◌≡◌ {A = ℕ} 0 1 = ap (λ (t : Bool). pick t 1 0) e in absurd (omega arith)

-- every row is above all earlier ones
abbrev pub Rising : List Float → Type 0
Rising beats = (before place : ℕ) → before < place → place < length beats → key_at beats before < key_at beats place

rise-rest : (beat : Float) (beats : List Float) → rows_rise (beat ∷ beats) ≡ true → (is_below beat beats ≡ true) × (rows_rise beats ≡ true)
unfolding rows_rise
rise-rest beat beats h = go (is_below beat beats) refl h
  where
    go : (t : Bool) → is_below beat beats ≡ t → pick t (rows_rise beats) false ≡ true → (is_below beat beats ≡ true) × (rows_rise beats ≡ true)
    go true e k = (e, k)
    go false e k = never k

below_all : (beat : Float) (beats : List Float) → is_below beat beats ≡ true → rows_rise beats ≡ true → (place : ℕ) → place < length beats → key_of beat < key_at beats place
unfolding is_below
below_all beat [] b r place h = absurd (omega arith)
below_all beat (next ∷ beats) b r zero h = ltb-true (key_of beat) (key_of next) b
below_all beat (next ∷ beats) b r (suc place) h =
    let rest = rise-rest next beats r in
    omega (arith, ltb-true (key_of beat) (key_of next) b, below_all next beats rest.0 rest.1 place (omega arith))

pub rises : (beats : List Float) → rows_rise beats ≡ true → Rising beats
rises [] h before place l k = absurd (omega arith)
rises (beat ∷ beats) h before zero l k = absurd (omega arith)
rises (beat ∷ beats) h zero (suc place) l k = let rest = rise-rest beat beats h in below_all beat beats rest.0 rest.1 place (omega arith)
rises (beat ∷ beats) h (suc before) (suc place) l k = rises beats (rise-rest beat beats h).1 before place (omega arith) (omega arith)

-- ---- the test of two neighbours
module _ (beats : List Float) (i : ℕ) where
  two : i + 1 < length beats → drop i beats ≡ get_or beats i nan ∷ get_or beats (i + 1) nan ∷ drop (suc (i + 1)) beats
  two h =
      let rest : drop (suc i) beats ≡ get_or beats (i + 1) nan ∷ drop (suc (i + 1)) beats = rw (← add-one i) (drop-cons beats (i + 1) nan h) in
      drop-cons beats i nan (omega arith) ∙ ap (◌∷◌ (get_or beats i nan)) rest

  pub rise-turn : i + 1 < length beats → key_at beats i < key_at beats (i + 1) → rows_rise (drop i beats) ≡ rows_rise (drop (i + 1) beats)
  unfolding rows_rise is_below
  rise-turn h l = rw (two h, drop-cons beats (i + 1) nan h, lt-ltb (key_at beats i) (key_at beats (i + 1)) l)

  pub rise-fails : i + 1 < length beats → key_at beats (i + 1) ≤ key_at beats i → rows_rise (drop i beats) ≡ false
  unfolding rows_rise is_below
  rise-fails h l = rw (two h, le-ltb (key_at beats i) (key_at beats (i + 1)) l)

  rise-end : length beats ≤ i + 1 → rows_rise (drop i beats) ≡ true
  unfolding rows_rise is_below
  rise-end k = go (drop i beats) (omega (arith, length-drop i beats))
    where
      go : (l : List Float) → length l ≤ 1 → rows_rise l ≡ true
      go [] e = refl
      go (x ∷ []) e = refl
      go (x ∷ y ∷ l) e = absurd (omega arith)

-- ---- the falls of the first i pairs counted
pub record Falls (beats : List Float) (i falls : ℕ) : Type 0 where
  pub few : falls ≤ i
  pub same : pick (eqb falls 0) (rows_rise (drop i beats)) false ≡ rows_rise beats

pub few-fall : (before beat : Float) → count_not_above before beat ≤ 1
few-fall before beat = go (ltb (key_of before) (key_of beat))
  where
    go : (t : Bool) → pick t 0 1 ≤ 1
    go true = omega arith
    go false = omega arith

module _ (beats : List Float) where
  module _ (i falls : ℕ) (known : Falls beats i falls) where
    dropped : (t : Bool) → pick t false false ≡ false
    dropped true = refl
    dropped false = refl

    pub falls-turn : (one : ℕ) → i + 1 < length beats → one ≡ count_not_above (get_or beats i nan) (get_or beats (i + 1) nan) → Falls beats (i + 1) (falls + one)
    falls-turn one h e =
        ⊎_elim
        (λ t.
        let none : falls + one ≡ falls = omega (arith, rw (lt-ltb (key_at beats i) (key_at beats (i + 1)) t) at e) in
        record { few = omega (arith, known.few); same = rw none (rw (rise-turn beats i h t) at known.same) })
        (λ t.
        let more : falls + one ≡ suc falls = omega (arith, rw (le-ltb (key_at beats i) (key_at beats (i + 1)) t) at e) in
        let fell : false ≡ rows_rise beats = sym (dropped (eqb falls 0)) ∙ (rw (rise-fails beats i h t) at known.same) in
        record { few = omega (arith, known.few); same = rw (more, ne_eqb (suc falls) 0 (λ z. omega arith)) fell })
        (below? (key_at beats i) (key_at beats (i + 1)))

    whole : (t : Bool) → pick t true false ≡ t
    whole true = refl
    whole false = refl

    pub falls-last : length beats ≤ i + 1 → eqb falls 0 ≡ rows_rise beats
    falls-last k = sym (whole (eqb falls 0)) ∙ (rw (rise-end beats i k) at known.same)
