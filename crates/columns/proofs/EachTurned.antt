-- A loop that lays a call's answers over a lent column, that for the last number first: where it begins, and after each turn. Assumes nothing.
use Prim.Native.Nat.{ℕ, ◌+◌, ◌-◌, ◌<◌, min}
use mathlib.Core.Path.{◌≡◌, sym, ap, ◌∙◌}
use mathlib.Core.List.{List, reverse}
use native.Mathlib.Omega.{arith}
use lib.ListN.{length, get_or, set, length-reverse}
use Rattle.order.proofs.TurnedRound.{turned-at}
use Rattle.columns.proofs.LaidEach.{LayingEach, begun, turned}

module _ {A B : Type 0} {f : A → B} (from : List A) {old : List B} {n : ℕ} where
  pub begun-turned : n ≡ min (length from) (length old) → LayingEach f (reverse from) old n old 0
  begun-turned many = begun (rw (length-reverse from) many)

  module _ {out : List B} {i : ℕ} (so_far : LayingEach f (reverse from) old n out i) where
    pub inside-turned : i < n → i < length from
    inside-turned more = omega (arith, so_far.many, length-reverse from)

    pub next-turned : (none : A) {y : B} → i < n → y ≡ f (get_or from (length from - 1 - i) none) → LayingEach f (reverse from) old n (set out i y) (i + 1)
    next-turned none more answer = turned so_far none more (answer ∙ ap f (sym (turned-at none from i (inside-turned more))))
