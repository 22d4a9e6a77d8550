use Rattle.std.proofs.Common.{rules, leb-true}
use Rattle.ieee_mul_add.proofs.ExactProducts.{mid_powers, never}
use Rattle.ieee_mul_add.proofs.mid_range.Goals as goal

pub returns-then-fields-lt1076 : goal.returns-then-fields-lt1076
returns-then-fields-lt1076 c = λ h. never h

pub returns : goal.returns
returns c = λ h. mid_powers _ _ c.if-fields-lt1076.false (leb-true _ 3067 h)
