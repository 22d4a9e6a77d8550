-- One pass over warps counts their keys: where starts never fall just those that some warp has, and of any list no more. Assumes nothing.
use Rattle.std.proofs.Common.{◌≡◌, ℕ, ◌+◌, ◌-◌, ◌<◌, ◌≤◌, Bool, true, false, List, [], ◌∷◌, sym, refl, ap, ◌∙◌, ⊎_elim, arith, le-ltb, lt-ltb, le-leb}
use borrow.Author.Tests.{lt-leb}
use lib.Ieee.{Float}
use Rattle.picks.specs.Pick.{pick}
use Rattle.order.specs.Order.{From, NeverFalls}
use Rattle.order.proofs.Compare.{below?}
use Rattle.rows.specs.RowKey.{row_key_of}
use Rattle.lookup_warped.specs.WarpedRows.{span}
use Rattle.lookup_warped.specs.OnePass.{end_key, first_new, pass_on}
use Rattle.lookup_warped.proofs.KeysCounted.{keys_from, keys_none, keys-agree, keys-fewer, keys-around, keys_at_least}
use Rattle.lookup_warped.proofs.RowsByKey.{has_key, some_has_key}
use Rattle.lookup_warped.proofs.HowFar.{end-within}

-- ---- which keys a warp has
has : (warp : Float × Float) (k : ℕ) → row_key_of warp ≤ k → k < end_key warp → has_key warp k ≡ true
unfolding has_key
has warp k h l = rw (le-leb (row_key_of warp) k h, lt-ltb k (end_key warp) l)

has-before : (warp : Float × Float) (k : ℕ) → k < row_key_of warp → has_key warp k ≡ false
unfolding has_key
has-before warp k h = rw (lt-leb (row_key_of warp) k h)

has-behind : (warp : Float × Float) (k : ℕ) → end_key warp ≤ k → has_key warp k ≡ false
unfolding has_key
has-behind warp k h = ⊎_elim (λ l. has-before warp k l) (λ l. rw (le-leb (row_key_of warp) k l, le-ltb k (end_key warp) h)) (below? k (row_key_of warp))

none_before : (j k : ℕ) (warps : List (Float × Float)) → From row_key_of j warps → k < j → some_has_key warps k ≡ false
unfolding some_has_key
none_before j k [] f h = refl
none_before j k (warp ∷ warps) f h = rw (has-before warp k (omega (arith, f.0))) (none_before j k warps f.1 h)

first-has : (warp : Float × Float) (warps : List (Float × Float)) (k : ℕ) → has_key warp k ≡ true → some_has_key (warp ∷ warps) k ≡ true
unfolding some_has_key
first-has warp warps k e = rw e

first-lacks : (warp : Float × Float) (warps : List (Float × Float)) (k : ℕ) → has_key warp k ≡ false → some_has_key (warp ∷ warps) k ≡ some_has_key warps k
unfolding some_has_key
first-lacks warp warps k e = rw e

some-later : (warp : Float × Float) (warps : List (Float × Float)) (k : ℕ) → some_has_key warps k ≡ true → some_has_key (warp ∷ warps) k ≡ true
unfolding some_has_key
some-later warp warps k = by (has_key warp k)
  where
    by : (b : Bool) → some_has_key warps k ≡ true → pick b true (some_has_key warps k) ≡ true
    by true t = refl
    by false t = t

-- ---- and which of them are new
before-start : (far : ℕ) (warp : Float × Float) (j : ℕ) → far ≤ j → j < first_new far warp → j < row_key_of warp
before-start far warp j l m = omega arith

has_new : (far : ℕ) (warp : Float × Float) (warps : List (Float × Float)) (j : ℕ) → first_new far warp ≤ j → j < end_key warp → some_has_key (warp ∷ warps) j ≡ true
has_new far warp warps j l m = first-has warp warps j (has warp j (omega arith) m)

lacks : (far : ℕ) (warp : Float × Float) (j : ℕ) → far ≤ j → end_key warp ≤ first_new far warp → has_key warp j ≡ false
lacks far warp j l h = ⊎_elim (λ b. has-before warp j b) (λ b. has-behind warp j (omega arith)) (below? j (row_key_of warp))

-- ---- a warp that adds nothing, and one that adds the keys from its first new one on
pass-none : (far : ℕ) (warp : Float × Float) (warps : List (Float × Float)) → end_key warp ≤ first_new far warp → pass_on far (warp ∷ warps) ≡ pass_on far warps
unfolding pass_on
pass-none far warp warps h =
    let none : end_key warp - first_new far warp ≡ 0 = omega arith in
    rw (none, le-ltb (first_new far warp) (end_key warp) h) (omega arith)

pass-some : (far : ℕ) (warp : Float × Float) (warps : List (Float × Float)) → first_new far warp < end_key warp
    → pass_on far (warp ∷ warps) ≡ (end_key warp - first_new far warp) + pass_on (end_key warp) warps
unfolding pass_on
pass-some far warp warps h = rw (lt-ltb (first_new far warp) (end_key warp) h)

-- ---- of the n keys from far on, which are the rest of the span
rest_of_span : (far n : ℕ) (warp : Float × Float) → far + n ≡ span → end_key warp ≤ far + n
rest_of_span far n warp s = omega (arith, end-within warp)

pub pass-counts : (far n : ℕ) (warps : List (Float × Float)) → far + n ≡ span → NeverFalls row_key_of warps → pass_on far warps ≡ keys_from (some_has_key warps) far n
pass-counts far n [] s p = unfold pass_on in (sym (keys_none (some_has_key []) far n (λ j l h. unfold some_has_key in refl)))
pass-counts far n (warp ∷ warps) s p =
    ⊎_elim
    (λ h.
    let fits = rest_of_span far n warp s in
    let counted =
    keys-around (some_has_key (warp ∷ warps)) (some_has_key warps) far (first_new far warp) (end_key warp) n (omega arith) h fits (has_new far warp warps)
    (λ j l m. first-lacks warp warps j (has-before warp j (before-start far warp j l m)) ∙ none_before (row_key_of warp) j warps p.0 (before-start far warp j l m))
    (λ j l. first-lacks warp warps j (has-behind warp j l)) in
    pass-some far warp warps h ∙ ap (λ (m : ℕ). (end_key warp - first_new far warp) + m) (pass-counts (end_key warp) (far + n - end_key warp) warps (omega arith) p.1) ∙ sym counted)
    (λ h. pass-none far warp warps h ∙ pass-counts far n warps s p.1
    ∙ sym (keys-agree (some_has_key (warp ∷ warps)) (some_has_key warps) far n (λ j l m. first-lacks warp warps j (lacks far warp j l h))))
    (below? (first_new far warp) (end_key warp))

pub pass_at_most : (far n : ℕ) (warps : List (Float × Float)) → far + n ≡ span → pass_on far warps ≤ keys_from (some_has_key warps) far n
pass_at_most far n [] s = unfold pass_on in omega arith
pass_at_most far n (warp ∷ warps) s =
    ⊎_elim
    (λ h.
    let fits = rest_of_span far n warp s in
    let counted =
    keys_at_least (some_has_key (warp ∷ warps)) (some_has_key warps) far (first_new far warp) (end_key warp) n (omega arith) h fits (has_new far warp warps) (some-later warp warps) in
    omega (arith, pass-some far warp warps h, pass_at_most (end_key warp) (far + n - end_key warp) warps (omega arith)))
    (λ h. omega (arith, pass-none far warp warps h, pass_at_most far n warps s, keys-fewer (some_has_key warps) (some_has_key (warp ∷ warps)) far n (some-later warp warps)))
    (below? (first_new far warp) (end_key warp))
