use Rattle.std.proofs.Common.{refl, rules}
use Rattle.ieee_mul_add.proofs.join.Goals as goal

pub returns-then-alike : goal.returns-then-alike
returns-then-alike c =
    let s = c in
    rw c.if-alike.true (c.plus-w.ensures, refl)

pub returns-else-alike : goal.returns-else-alike
returns-else-alike c =
    let s = c in
    rw c.if-alike.false c.apart.ensures
