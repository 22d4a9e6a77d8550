-- A list laid over the front of a room: entry by entry, and one list behind another. Assumes nothing.
use mathlib.Core.Path.{◌≡◌, refl, ap, sym, ◌∙◌}
use mathlib.Core.List.{List, [], ◌∷◌, ◌++◌, append_assoc, append-nil}
use Prim.Native.Nat.{ℕ, ◌+◌, ◌-◌, ◌≤◌, ◌<◌}
use native.Mathlib.Omega.{arith}
use native.Mathlib.Numerals.{add-one}
use lib.ListN.{length, take, drop, set, length-set, length-append, length-drop, take-append-drop, drop_of_length-le}
use lib.Seq.{length-take-le, take_all, take_at, drop_at, drop-drop, take-suc-set, drop-set-lt}
use borrow.Rule.Slice.PartMut.{put_mid}
use Rattle.order.specs.Order.{laid}

module _ {ℓ} {A : Type ℓ} where
  pub laid-length : (new old : List A) → length new ≤ length old → length (laid new old) ≡ length old
  unfolding laid
  laid-length new old h = simp (length-append, length-drop) (omega arith)

  -- ---- entry by entry: `count` are laid, `left` are still to come, and behind them the room is as it was
  pub record Laying (new old out left : List A) (count : ℕ) : Type ℓ where
    pub size : length out ≡ length old
    pub within : count ≤ length out
    pub done : take count out ++ left ≡ new
    pub rest : drop count out ≡ drop count old

  pub laying-none : (new old : List A) → Laying new old old new 0
  laying-none new old = record { size = refl; within = omega arith; done = refl; rest = refl }

  module _ (new old out left : List A) (count : ℕ) (p : Laying new old out left count) where
    laid-count : count + length left ≡ length new
    laid-count = omega (arith, simp length-append at (ap length p.done), length-take-le count out p.within)

    -- there is room for the next entry where there is room for all
    pub laying-room : (x : A) (less : List A) → left ≡ x ∷ less → length new ≤ length old → count < length out
    laying-room x less e h = omega (arith, laid-count, ap length e, p.size)

    pub laying-more : (x : A) (less : List A) → left ≡ x ∷ less → count < length out → Laying new old (set out count x) less (count + 1)
    laying-more x less e h = record {
      size = length-set out count x ∙ p.size;
      within = rw (length-set out count x) (omega arith);
      done = rw (add-one count, take-suc-set out count x h, append_assoc (take count out) (x ∷ []) less, ← e) p.done;
      rest = drop-set-lt (count + 1) out count x (omega arith) ∙ sym (drop-drop 1 count out) ∙ ap (drop 1) p.rest ∙ drop-drop 1 count old;
    }

    pub laying-count : left ≡ [] → count ≡ length new
    laying-count e = omega (arith, laid-count, ap length e)

    pub laying-all : left ≡ [] → out ≡ laid new old
    unfolding laid
    laying-all e =
        let front : take count out ≡ new = sym (append-nil (take count out)) ∙ rw e at p.done in
        sym (take-append-drop count out) ∙ rw (front, p.rest, laying-count e)

-- ---- one list behind another: what is lent from a place on, where x lies before it, comes back with y over its front
module _ {A : Type 0} where
  together : (x y old : List A) (at : ℕ) → at ≡ length x → x ++ laid y (drop at old) ≡ laid (x ++ y) old
  unfolding laid
  together x y old at e = rw (e, drop-drop, length-append, append_assoc)

  pub laid_more : (room back old x y : List A) (at : ℕ) → room ≡ laid x old → at ≡ length x → length x + length y ≤ length old
      → back ≡ laid y (take (length room - at) (drop at room)) → put_mid at (length room - at) room back ≡ laid (x ++ y) old
  laid_more room back old x y at r a h b =
      let size : length room ≡ length old = ap length r ∙ laid-length x old (omega arith) in
      let lent : drop at room ≡ drop at old = ap (drop at) r ∙ unfold laid in (rw (a, drop_at x (drop (length x) old) (length x) refl)) in
      let rest : length (drop at room) ≤ length room - at = simp length-drop (omega arith) in
      let front : take at room ≡ x = ap (take at) r ∙ unfold laid in (rw a (take_at x (drop (length x) old) (length x) refl)) in
      let all : back ≡ laid y (drop at old) = b ∙ ap (laid y) (take_all (length room - at) (drop at room) rest ∙ lent) in
      let none : drop (length room - at) (drop at room) ≡ [] = drop_of_length-le (drop at room) rest in
      rw (front, none, append-nil, all) (together x y old at a)
