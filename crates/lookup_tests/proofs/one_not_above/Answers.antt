-- `lookup_tests::one_not_above` is 1 for a row that does not rise. Assumes nothing.
use Rattle.picks.proofs.Rules.{flags}
use Rattle.lookup_tests.proofs.one_not_above.Goals as goal

pub returns-then-row_key_f32 : goal.returns-then-row_key_f32
returns-then-row_key_f32 c = rw (← c.row_key_f32-2.ensures, ← c.row_key_f32.ensures) (search flags)

pub returns-else-row_key_f32 : goal.returns-else-row_key_f32
returns-else-row_key_f32 c = rw (← c.row_key_f32-2.ensures, ← c.row_key_f32.ensures) (search flags)
