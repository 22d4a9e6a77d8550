-- Whether rows rise, told row by row. Assumes nothing.
use Rattle.std.proofs.Common.{◌≡◌, ℕ, ◌+◌, ◌-◌, ◌<◌, ◌≤◌, true, false, List, [], ◌∷◌, length, get_or, take, drop, ℤ, pos, sym, refl, ap, ◌∙◌, add-one, arith, drop_of_length-le, drop-cons, length-drop}
use lib.Seq.{take_all}
use Rattle.std.proofs.lemmas.Grind.{get_or_after_one}
use lib.Signed.{lt_z}
use lib.Ieee.{Float, fin, nan, binary64, eq}
use Rattle.rows.specs.Rows.{row}
use Rattle.clock_tests.specs.TimingNumbers.{rises_from, rises, starts_at_zero}

pub none-rise : (beats : List Float) → length beats ≡ 0 → true ≡ rises beats
unfolding rises
none-rise [] e = refl
none-rise (b ∷ beats) e = absurd (omega arith)

pub none-start : (beats : List Float) → length beats ≡ 0 → true ≡ starts_at_zero beats
unfolding starts_at_zero
none-start [] e = refl
none-start (b ∷ beats) e = absurd (omega arith)

pub first-starts : (beats : List Float) → (length beats ≡ 0 → ⊥) → eq (get_or beats 0 nan) (fin false 0 (pos 0)) ≡ starts_at_zero beats
unfolding starts_at_zero
first-starts [] e = absurd (e refl)
first-starts (b ∷ beats) e = refl

-- the beats behind the first, as a slice of them all
behind : (beats : List Float) → take (length beats - 1) (drop 1 beats) ≡ drop 1 beats
behind beats = take_all (length beats - 1) (drop 1 beats) (omega (arith, length-drop 1 beats))

pub length-behind : (beats : List Float) → length (take (length beats - 1) (drop 1 beats)) ≡ length beats - 1
length-behind beats = ap length (behind beats) ∙ length-drop 1 beats

pub get_or-behind : (beats : List Float) (place : ℕ) → get_or (take (length beats - 1) (drop 1 beats)) place nan ≡ get_or beats (place + 1) nan
get_or-behind beats place =
    let next : 1 + place ≡ place + 1 = omega arith in
    ap (λ (l : List Float). get_or l place nan) (behind beats) ∙ get_or_after_one beats place nan ∙ ap (λ (k : ℕ). get_or beats k nan) next

-- the loop at place i, above whose rows so far `last` is the highest
pub record Rising (beats : List Float) (last : ℤ) (i : ℕ) : Type 0 where
  pub same : rises_from last (drop i beats) ≡ rises beats

pub begun : (beats : List Float) → (length beats ≡ 0 → ⊥) → Rising beats (row binary64 (get_or beats 0 nan)) 1
unfolding rises
begun [] e = absurd (e refl)
begun (b ∷ beats) e = record { same = refl }

module _ (beats : List Float) (last : ℤ) (i : ℕ) (rising : Rising beats last i) where
  pub over : length beats ≤ i → true ≡ rises beats
  unfolding rises_from
  over h = sym (ap (rises_from last) (drop_of_length-le beats h)) ∙ rising.same

  module _ (within : i < length beats) where
    parts : rises_from last (get_or beats i nan ∷ drop (i + 1) beats) ≡ rises beats
    parts = sym (ap (rises_from last) (drop-cons beats i nan within ∙ ap (λ (k : ℕ). get_or beats i nan ∷ drop k beats) (sym (add-one i)))) ∙ rising.same

    pub not_higher : lt_z last (row binary64 (get_or beats i nan)) ≡ false → false ≡ rises beats
    unfolding rises_from
    not_higher h = rw h at parts

    pub higher : lt_z last (row binary64 (get_or beats i nan)) ≡ true → Rising beats (row binary64 (get_or beats i nan)) (i + 1)
    unfolding rises_from
    higher h = record { same = rw h at parts }
