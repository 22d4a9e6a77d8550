use Rattle.std.proofs.Common.{◌≡◌, Bool, true, false, not, refl}
use lib.Ieee.{unlike}
use Rattle.ieee_mul_add.proofs.unlike.Goals as goal

unlike-minus : (t : Bool) → not t ≡ unlike true t
unlike-minus true = refl
unlike-minus false = refl

unlike-plus : (t : Bool) → t ≡ unlike false t
unlike-plus true = refl
unlike-plus false = refl

pub returns-then-s : goal.returns-then-s
returns-then-s c = rw c.if-s.true (unlike-minus c.args.t)

pub returns-else-s : goal.returns-else-s
returns-else-s c = rw c.if-s.false (unlike-plus c.args.t)
