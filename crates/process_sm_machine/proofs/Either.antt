-- What holds of both holds of the one picked. Assumes nothing.
use mathlib.Core.Bool.{Bool, true, false}
use Rattle.picks.specs.Pick.{pick}

pub either {ℓ} : {A : Type ℓ} (P : A → Type 0) (b : Bool) (x y : A) → P x → P y → P (pick b x y)
either P true x y p q = p
either P false x y p q = q
