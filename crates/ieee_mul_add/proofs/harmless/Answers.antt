use Rattle.ieee_mul_add.proofs.ExactProducts.{never}
use Rattle.std.proofs.Common.{rules}
use Rattle.ieee_mul_add.proofs.harmless.Goals as goal

pub returns-then-pattern-eq268435456 : goal.returns-then-pattern-eq268435456
returns-then-pattern-eq268435456 c = λ h. never h

pub returns-then-pattern-eq0 : goal.returns-then-pattern-eq0
returns-then-pattern-eq0 c = λ h. never h
