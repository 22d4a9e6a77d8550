-- A loop that writes an entry over the front of a room before it knows whether the entry is kept: the next one goes to the same place where it is not. Assumes nothing.
use mathlib.Core.Path.{◌≡◌, ap, sym, ◌∙◌}
use mathlib.Core.List.{List, [], ◌∷◌, ◌++◌, append_assoc}
use Prim.Native.Nat.{ℕ, ◌+◌, ◌≤◌, ◌<◌}
use native.Mathlib.Omega.{arith}
use native.Mathlib.Numerals.{add-one}
use lib.ListN.{length, take, drop, set, length-set, length-append}
use lib.Seq.{length-take-le, take-set-le, take-suc-set, drop-set-lt, drop-drop}
use Rattle.order.proofs.LaidOverFront.{Laying}

module _ {ℓ} {A : Type ℓ} where
  -- as `Laying`, but that the place behind those that are laid may have been written
  pub record Ahead (new old out left : List A) (count : ℕ) : Type ℓ where
    pub size : length out ≡ length old
    pub within : count ≤ length out
    pub done : take count out ++ left ≡ new
    pub rest : drop (count + 1) out ≡ drop (count + 1) old

  pub ahead_none : {new old out left : List A} {count : ℕ} → Laying new old out left count → Ahead new old out left count
  ahead_none {old = old} {out = out} {count = count} p = record {
    size = p.size;
    within = p.within;
    done = p.done;
    rest = sym (drop-drop 1 count out) ∙ ap (drop 1) p.rest ∙ drop-drop 1 count old;
  }

  module _ {new old out left : List A} {count : ℕ} (p : Ahead new old out left count) where
    -- there is room for one more where there is room for all
    pub ahead-room : 0 < length left → length new ≤ length old → count < length out
    ahead-room h k = omega (arith, simp length-append at (ap length p.done), length-take-le count out p.within, p.size)

    -- one that is not kept
    pub ahead-over : (x : A) → Ahead new old (set out count x) left count
    ahead-over x = record {
      size = length-set out count x ∙ p.size;
      within = rw (length-set out count x) p.within;
      done = ap (λ (l : List A). l ++ left) (take-set-le count out count x (omega arith)) ∙ p.done;
      rest = drop-set-lt (count + 1) out count x (omega arith) ∙ p.rest;
    }

    -- one that is
    pub ahead-kept : (x : A) (less : List A) → left ≡ x ∷ less → count < length out → Laying new old (set out count x) less (count + 1)
    ahead-kept x less e h = record {
      size = length-set out count x ∙ p.size;
      within = rw (length-set out count x) (omega arith);
      done = rw (add-one count, take-suc-set out count x h, append_assoc (take count out) (x ∷ []) less, ← e) p.done;
      rest = drop-set-lt (count + 1) out count x (omega arith) ∙ p.rest;
    }
