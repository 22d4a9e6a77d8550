use Rattle.std.proofs.Common.{arith, rules}
use Rattle.ieee_mul_add.proofs.plus.Goals as goal

pub overflow_add-result : goal.overflow_add-result
overflow_add-result c = omega arith

pub overflow_add-result-then-low-a_low : goal.overflow_add-result-then-low-a_low
overflow_add-result-then-low-a_low c = omega arith

pub overflow_add-result-else-low-a_low : goal.overflow_add-result-else-low-a_low
overflow_add-result-else-low-a_low c = omega arith
