-- `text_tempos::put_comma` meets its contract, at the first entry and at a later one. Assumes nothing.
use Prim.Native.Nat.{ℕ, zero, suc, ◌≤◌, ◌<◌}
use mathlib.Core.Path.{◌≡◌, refl}
use mathlib.Core.List.{[], ◌∷◌}
use native.Mathlib.Omega.{arith}
use Rattle.text_page.proofs.Joined.{wrote_as, wrote_none}
use Rattle.text_tempos.specs.inside.TextsLeft.{comma_before}
use Rattle.text_tempos.proofs.put_comma.Goals as goal

later : (i : ℕ) → 0 < i → 44 ∷ [] ≡ comma_before i
later zero h = absurd (omega arith)
later (suc i) h = refl

at_first : (i : ℕ) → i ≤ 0 → [] ≡ comma_before i
at_first zero h = refl
at_first (suc i) h = absurd (omega arith)

pub returns-then-i-gt0 : goal.returns-then-i-gt0
returns-then-i-gt0 c =
    let tested = c in
    wrote_as (later tested.args.i tested.if-i-gt0.true) c.put_byte.ensures

pub returns : goal.returns
returns c = wrote_as (at_first c.args.i c.if-i-gt0.false) (wrote_none _ _)
