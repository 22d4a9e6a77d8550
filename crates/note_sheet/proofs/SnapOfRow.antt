-- The place of a row, and the colour by it: the first of the nine rules that holds of the row itself. Assumes nothing.
use Prim.Native.Nat.{ℕ, zero, suc, ◌+◌, ◌-◌, ◌*◌, ◌/◌, ◌%◌, ◌<◌}
use mathlib.Core.Path.{◌≡◌, refl, sym, ap, ◌∙◌}
use mathlib.Core.Bool.{Bool, true, false}
use native.Mathlib.Nat.{add_comm, mul_assoc, add-mod-mod, mul-mod_right, mul-add-mod_self_left}
use native.Mathlib.Omega.{arith}
use lib.Dec.{eqb}
use lib.IntN.{ℤ, pos, negsuc, nat_abs, neg_ℤ, ◌+ℤ◌, ◌*ℤ◌}
use borrow.Author.Tests.{lt-ltb, eq-eqb, ne_eqb, eqb-true, eqb-false}
use Rattle.note_sheet.specs.Snap.{place_in_beat, is_multiple, first_rule, snap_of}

pub place-below : (row : ℤ) → place_in_beat row < 48
unfolding place_in_beat
place-below (pos n) = omega arith
place-below (negsuc n) = omega arith

-- a row is so many whole beats and its place: rows counted down from 0 are counted up from the beat before
abbrev beats_before : ℤ → ℤ
beats_before (pos n) = pos (n / 48)
beats_before (negsuc n) = negsuc (n / 48)

pub row_of_place : (row : ℤ) → beats_before row *ℤ pos 48 +ℤ pos (place_in_beat row) ≡ row
unfolding place_in_beat
row_of_place (pos n) = ap pos (omega arith)
row_of_place (negsuc n) = go (suc (n / 48) * 48) refl
  where
    go : (m : ℕ) → suc (n / 48) * 48 ≡ m → neg_ℤ (pos m) +ℤ pos (47 - n % 48) ≡ negsuc n
    go zero e = absurd (omega arith)
    go (suc m) e = rw (lt-ltb (47 - n % 48) (suc m) (omega arith)) (ap negsuc (omega arith))

-- two remainders are 0 together
together : (a b : ℕ) → (a ≡ 0 → b ≡ 0) → (b ≡ 0 → a ≡ 0) → eqb a 0 ≡ eqb b 0
together a b f g = go (eqb a 0) refl
  where
    go : (t : Bool) → eqb a 0 ≡ t → t ≡ eqb b 0
    go true e = sym (eq-eqb b 0 (f (eqb-true a 0 e)))
    go false e = sym (ne_eqb b 0 (λ h. eqb-false a 0 e (g h)))

one_then_other : (many a b : ℕ) → (a + b) % many ≡ 0 → b % many ≡ 0 → a % many ≡ 0
one_then_other many a b h k =
    let e : a ≡ a + b % many = omega arith in
    ap (λ (n : ℕ). n % many) e ∙ add-mod-mod a b many ∙ h

-- a row and its place are multiples together, of each number that a beat's rows are a multiple of
module _ (many times : ℕ) (e : many * times ≡ 48) where
  in_beats_lem : (n : ℕ) → 48 * n ≡ many * (times * n)
  in_beats_lem n = ap (λ (m : ℕ). m * n) (sym e) ∙ mul_assoc many times n

  -- counted up from the beat before and down from 0, a row's two distances are whole beats together
  beat-around : (n : ℕ) → (suc n + (47 - n % 48)) % many ≡ 0
  beat-around n =
      let beats : suc n + (47 - n % 48) ≡ 48 * (n / 48 + 1) = omega arith in
      ap (λ (m : ℕ). m % many) (beats ∙ in_beats_lem (n / 48 + 1)) ∙ mul-mod_right many (times * (n / 48 + 1))

  same_multiple : (row : ℤ) → is_multiple many (place_in_beat row) ≡ is_multiple many (nat_abs row)
  unfolding place_in_beat
  same_multiple (pos n) =
      let parts : n ≡ 48 * (n / 48) + n % 48 = omega arith in
      let rest : n % many ≡ n % 48 % many =
      ap (λ (m : ℕ). m % many) (parts ∙ ap (λ (m : ℕ). m + n % 48) (in_beats_lem (n / 48))) ∙ mul-add-mod_self_left many (times * (n / 48)) (n % 48) in
      ap (λ (m : ℕ). eqb m 0) (sym rest)
  same_multiple (negsuc n) =
      let around = beat-around n in
      together ((47 - n % 48) % many) (suc n % many)
      (one_then_other many (suc n) (47 - n % 48) around)
      (one_then_other many (47 - n % 48) (suc n) (ap (λ (m : ℕ). m % many) (add_comm (47 - n % 48) (suc n)) ∙ around))

-- the colour by the place is the first rule that holds of the row, with its sign struck off
pub snap_of_row_lem : (row : ℤ) → snap_of row ≡ first_rule (nat_abs row)
unfolding first_rule
snap_of_row_lem row =
    rw (
      same_multiple 48 1 refl row,
      same_multiple 24 2 refl row,
      same_multiple 16 3 refl row,
      same_multiple 12 4 refl row,
      same_multiple 8 6 refl row,
      same_multiple 6 8 refl row,
      same_multiple 4 12 refl row,
      same_multiple 3 16 refl row,
    )
