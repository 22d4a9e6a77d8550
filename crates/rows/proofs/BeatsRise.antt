-- The beats of rows are allowed beats, rise as their rows do, and are each the beat of one row alone. Assumes nothing.
use Rattle.std.proofs.Common.{◌≡◌, ◌≤◌, Bool, true, false, not, T, ◌⊎◌, ℤ, pos, negsuc, nat_abs, ◌≤ℤ◌, sym, refl, ap, ◌∙◌, subst, subst₂, inl, inr, eq-or-lt_of_le, lt→ltb, leb→le}
use lib.Signed.{lt_z, le_z, lt_z_no}
use lib.Dec.{not_T}
use lib.Ieee.{Float, fin, Format, binary32, binary64, div, of_int, lt}
use lib.Ieee.Bits.{is_true, is_false}
use lib.Ieee.Scale.{finite}
use Rattle.ieee.proofs.FloatOrder.{lt_le, lt_not_le}
use Rattle.ieee.proofs.Magnitude.{sized-within, within-finite}
use Rattle.limits.specs.Numbers.{most_row}
use Rattle.rows.specs.Rows.{row, beat_of, allowed_beat}
use Rattle.rows.proofs.RowValue.{beat-sized}
use Rattle.rows.proofs.RowOfBeat.{row_of_beat}
use Rattle.rows.proofs.RowsKeepOrder.{rows-rise}
use Rattle.rows.proofs.Allowed.{within-allowed}

pub beat-allowed : (f : Format) (r : ℤ) → nat_abs r ≤ most_row → T (allowed_beat (beat_of f r))
beat-allowed f r h = within-allowed (beat_of f r) (sized-within 16 (beat_of f r) (beat-sized f r h))

pub beat-finite : (f : Format) (r : ℤ) → nat_abs r ≤ most_row → T (finite (beat_of f r))
beat-finite f r h = within-finite 16 (beat_of f r) (sized-within 16 (beat_of f r) (beat-sized f r h))

pub beat_of_zero : (f : Format) → beat_of f (pos 0) ≡ fin false 0 (pos 0)
unfolding div of_int
beat_of_zero binary32 = refl
beat_of_zero binary64 = refl

module _ (f g : Format) (r q : ℤ) (h : nat_abs r ≤ most_row) (k : nat_abs q ≤ most_row) where
  pub beat_injective : beat_of f r ≡ beat_of g q → r ≡ q
  beat_injective e = sym (row_of_beat f f r h) ∙ ap (λ (x : Float). row f x) e ∙ row_of_beat f g q k

  pub beats-rise : T (lt_z r q) → T (lt (beat_of f r) (beat_of g q))
  beats-rise l =
      rows-rise f (beat_of f r) (beat_of g q) (beat-allowed f r h) (beat-allowed g q k)
      (subst₂ (λ (a b : ℤ). T (lt_z a b)) (sym (row_of_beat f f r h)) (sym (row_of_beat f g q k)) l)

-- at one width, exactly as their rows do
same_or_less : (a b : ℤ) → T (le_z a b) → (a ≡ b) ⊎ T (lt_z a b)
same_or_less (pos a) (pos b) h = elim (eq-or-lt_of_le (leb→le a b h)) [ inl e ↦ inl (ap pos e) | inr l ↦ inr (lt→ltb a b l) ]
same_or_less (pos a) (negsuc b) h = absurd h
same_or_less (negsuc a) (pos b) h = inr tt
same_or_less (negsuc a) (negsuc b) h = elim (eq-or-lt_of_le (leb→le b a h)) [ inl e ↦ inl (ap negsuc (sym e)) | inr l ↦ inr (lt→ltb b a l) ]

pub beat-order : (f : Format) (r q : ℤ) → nat_abs r ≤ most_row → nat_abs q ≤ most_row → lt (beat_of f r) (beat_of f q) ≡ lt_z r q
beat-order f r q h k = go (lt_z r q) refl
  where
    not_less : T (le_z q r) → T (lt (beat_of f r) (beat_of f q)) → ⊥
    not_less g l =
        let back : T (lt (beat_of f q) (beat_of f r)) = elim (same_or_less q r g) [
          | inl e ↦ subst₂ (λ (a b : ℤ). T (lt (beat_of f a) (beat_of f b))) (sym e) e l
          | inr m ↦ beats-rise f f q r k h m
        ] in
        lt_not_le (beat_of f r) (beat_of f q) (beat-finite f r h) (beat-finite f q k) l (lt_le (beat_of f q) (beat_of f r) back)

    go : (t : Bool) → lt_z r q ≡ t → lt (beat_of f r) (beat_of f q) ≡ t
    go true e = is_true (lt (beat_of f r) (beat_of f q)) (beats-rise f f r q h k (subst T (sym e) tt))
    go false e =
        let g : q ≤ℤ r = lt_z_no (subst (λ (t : Bool). T (not t)) (sym e) tt) in
        is_false (lt (beat_of f r) (beat_of f q)) (not_T (lt (beat_of f r) (beat_of f q)) (not_less g.le))
