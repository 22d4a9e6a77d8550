-- Of a finite f32 one text of six decimals, with the float's sign, is nearest, and it is the one that is written. Assumes nothing.
use Prim.Native.Nat.{ℕ, zero, suc, ◌+◌, ◌*◌, ◌/◌, ◌%◌, ◌^◌, ◌≤◌, ◌<◌}
use mathlib.Core.Path.{◌≡◌, refl, sym, ap, subst, ◌∙◌}
use mathlib.Core.Logic.{◌≢◌}
use mathlib.Core.Bool.{Bool, ◌&&◌}
use mathlib.Core.List.{List, [], ◌∷◌, ◌++◌}
use native.Mathlib.Omega.{arith}
use native.Mathlib.Nat.{mul-le-mul_right, mul_right_comm, le_trans, le_of_lt, le_of_eq, lt_of_le_of_lt, div-lt_iff_lt-mul}
use lib.Dec.{T, ltb, leb, eqb, ltb→lt}
use lib.IntN.{ℤ}
use lib.ListN.{length, get_or}
use lib.Ieee.{fin, binary32, fits, up, down}
use lib.Ieee.Fits.{down_pos, and_r}
use Rattle.ieee.proofs.NearestWhole.{closest_nearest, closest_is}
use Rattle.ieee.proofs.ClosestLaws.{closest_le}
use Rattle.text_page.specs.Digits.{decimal_digits}
use Rattle.text_decimal.specs.Dec6.{lowest_digits, whole_text, minus_sign, millionths_text, millionths, dec6}
use Rattle.text_decimal.specs.Reading.{read_digits, SixDecimals, NearestText}
use Rattle.text_decimal.proofs.TextSizes.{last-size}
use Rattle.text_decimal.proofs.DigitsReadBack.{read_join, read_behind, read_below, reads-last, reads_decimal, last_digits, decimal_digits_lem, leads, last_of, decimal_of, few-digits}

-- ---- so many millionths: written, read, and only so
zero-digit : whole_text 0 ≡ 48 ∷ []
unfolding decimal_digits
zero-digit = refl

split_parts : (n : ℕ) → n / 1000000 * 1000000 + n % 1000000 ≡ n
split_parts n = omega arith

millionths-read : (s : Bool) (n : ℕ) → n / 1000000 < 10 ^ 39 → SixDecimals (minus_sign s ++ millionths_text n) s n
unfolding millionths_text
millionths-read s n h =
    let q = n / 1000000 in
    let r = n % 1000000 in
    let small : r < 10 ^ 6 = omega arith in
    let parts : q * 10 ^ 6 + r ≡ n = split_parts n in
    record {
      whole = whole_text q;
      decimals = lowest_digits 6 n;
      shape = refl;
      whole_digits = decimal_digits_lem 39 q;
      six_digits = last_digits 6 n;
      some = whole-some q h;
      six = last-size 6 n;
      no_zero = λ long. whole-leads q h long;
      reads =
          read_join 0 (whole_text q) (lowest_digits 6 n)
          ∙ ap (λ (x : ℕ). read_digits x (lowest_digits 6 n)) (reads_decimal 39 q (omega arith) h)
          ∙ ap (λ (x : ℕ). read_digits q (lowest_digits 6 x)) (sym parts)
          ∙ reads-last 6 q r q small
          ∙ parts;
    }
  where
    whole-some : (q : ℕ) → q < 10 ^ 39 → 0 < length (whole_text q)
    whole-some zero h = rw zero-digit (omega arith)
    whole-some (suc q) h = (leads 39 (suc q) (omega arith) h).some

    whole-leads : (q : ℕ) → q < 10 ^ 39 → 1 < length (whole_text q) → get_or (whole_text q) 0 0 ≢ 48
    whole-leads zero h long = absurd (omega (arith, ap length zero-digit))
    whole-leads (suc q) h long = (leads 39 (suc q) (omega arith) h).no_zero

only-millionths : (text : List ℕ) (s : Bool) (n : ℕ) → n / 1000000 < 10 ^ 39 → SixDecimals text s n → text ≡ minus_sign s ++ millionths_text n
unfolding millionths_text
only-millionths text s n h t =
    let w = t.whole in
    let d = t.decimals in
    let q = read_digits 0 w in
    let r = read_digits 0 d in
    let small : r < 10 ^ 6 = subst (λ (k : ℕ). r < 10 ^ k) t.six (read_below d t.six_digits) in
    let parts : q * 10 ^ 6 + r ≡ n =
    ap (λ (k : ℕ). q * 10 ^ k + r) (sym t.six) ∙ sym (read_behind q d) ∙ sym (read_join 0 w d) ∙ t.reads in
    let upper : n / 1000000 ≡ q = omega arith in
    let few : length w ≤ 39 = few-digits w 39 t.whole_digits (omega arith) t.no_zero (subst (λ (x : ℕ). x < 10 ^ 39) upper h) in
    let whole : whole_text (n / 1000000) ≡ w = ap whole_text upper ∙ decimal_of w 39 t.whole_digits t.some few t.no_zero in
    let last : lowest_digits 6 n ≡ d =
    ap (lowest_digits 6) (sym parts) ∙ ap (λ (k : ℕ). lowest_digits k (q * 10 ^ k + r)) (sym t.six) ∙ last_of d q t.six_digits in
    t.shape ∙ ap (λ (l : List ℕ). minus_sign s ++ (l ++ ((46 ∷ []) ++ d))) (sym whole) ∙ ap (λ (l : List ℕ). minus_sign s ++ (whole_text (n / 1000000) ++ ((46 ∷ []) ++ l))) (sym last)

-- ---- of a float
-- an f32 is below 2 ^ 128
below_range : (s : Bool) (m : ℕ) (e : ℤ) → T (fits binary32 (fin s m e)) → m * up e ≤ 2 ^ 128 * down e
unfolding fits
below_range s zero e f = none (up e) (2 ^ 128 * down e)
  where
    none : (x y : ℕ) → 0 * x ≤ y
    none x y = omega arith
below_range s (suc m) e f =
    le_of_lt
    (ltb→lt (suc m * up e) (2 ^ 128 * down e)
    (and_r (eqb (suc m % 2) 1 && ltb (suc m) (2 ^ 24) && leb (down e) (2 ^ 149)) (ltb (suc m * up e) (2 ^ 128 * down e)) f))

whole_below : (s : Bool) (m : ℕ) (e : ℤ) → T (fits binary32 (fin s m e)) → millionths m e / 1000000 < 10 ^ 39
whole_below s m e f =
    let most : m * up e * 1000000 ≤ 2 ^ 128 * 1000000 * down e =
    le_trans (mul-le-mul_right 1000000 (below_range s m e f)) (le_of_eq (mul_right_comm (2 ^ 128) (down e) 1000000)) in
    let near : millionths m e ≤ 2 ^ 128 * 1000000 = closest_le (2 ^ 128 * 1000000) (m * up e * 1000000) (down e) (down_pos e) most in
    (div-lt_iff_lt-mul {k = 1000000} (omega arith)).1 (lt_of_le_of_lt near (ltb→lt (2 ^ 128 * 1000000) (10 ^ 39 * 1000000) tt))

-- THE TEXT READ BACK: it has the form, the float's sign, and says a number of millionths that is nearest to the float
pub text-reads : (s : Bool) (m : ℕ) (e : ℤ) → T (fits binary32 (fin s m e)) → NearestText s m e (dec6 (fin s m e))
unfolding dec6
text-reads s m e f = record {
  number = millionths m e;
  form = millionths-read s (millionths m e) (whole_below s m e f);
  nearest = closest_nearest (m * up e * 1000000) (down e) (down_pos e);
}

-- AND NO OTHER TEXT DOES
pub only-text : (s : Bool) (m : ℕ) (e : ℤ) (text : List ℕ) → T (fits binary32 (fin s m e)) → NearestText s m e text → text ≡ dec6 (fin s m e)
unfolding dec6
only-text s m e text f t =
    let same : t.number ≡ millionths m e = sym (closest_is (m * up e * 1000000) (down e) t.number (down_pos e) t.nearest) in
    only-millionths text s (millionths m e) (whole_below s m e f) (subst (λ (x : ℕ). SixDecimals text s x) same t.form)
