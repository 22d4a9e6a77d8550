-- The outcome of a list that passes the tests and is the result: refused for want of room, or laid. Assumes nothing.
use Prim.Native.Nat.{ℕ, ◌≤◌, ◌<◌, min}
use mathlib.Core.Path.{◌≡◌, ap, subst, ◌∙◌}
use mathlib.Core.List.{List, map}
use native.Mathlib.Omega.{arith}
use lib.ListN.{length}
use lib.Ieee.{Float}
use Rattle.order.specs.Order.{laid}
use Rattle.order.specs.Entries.{first, second}
use Rattle.columns.specs.declared.Outcome.{Outcome}
use Rattle.columns.specs.Laying.{LaidPair, Laid, refused_by}
use Rattle.columns.proofs.Rooms.{refused_for_room, taken}

-- one number for another that is the same
pub numbered : {n m : ℕ} {list : List (Float × Float)} {outcome : Outcome} {a b c d : List Float} → n ≡ m → LaidPair n list outcome a b c d → LaidPair m list outcome a b c d
numbered {list = list} {outcome = outcome} {a = a} {b = b} {c = c} {d = d} e = subst (λ (n : ℕ). LaidPair n list outcome a b c d) e

module _ (tests : ℕ) (result : List (Float × Float)) (first_old second_old : List Float) (h : tests ≡ 0) (list : List (Float × Float)) (is : list ≡ result) where
  pub no_room : min (length first_old) (length second_old) < length list → LaidPair tests result (refused_by 7) first_old first_old second_old second_old
  no_room l = refused_for_room tests result first_old second_old h (omega (arith, ap length is))

  pub all_laid : {first_new second_new : List Float} (count : ℕ) → count ≡ length list → length list ≤ min (length first_old) (length second_old)
      → Laid list first_old first_new second_old second_new → LaidPair tests result (record { number = 0; count = count }) first_old first_new second_old second_new
  all_laid {first_new} {second_new} count c l p =
      taken tests result first_old second_old count first_new second_new h (omega (arith, ap length is)) (c ∙ ap length is)
      (p.first_is ∙ ap (λ (e : List (Float × Float)). laid (map first e) first_old) is) (p.second_is ∙ ap (λ (e : List (Float × Float)). laid (map second e) second_old) is)
