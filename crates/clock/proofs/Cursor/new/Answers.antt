-- `clock::Cursor::new` is `made`. Assumes nothing.
use borrow.Author.Tests.{eq-eqb, ne_eqb}
use mathlib.Core.Path.{◌≡◌, sym, ap, ◌∙◌}
use lib.Ieee.{of_bits}
use Rattle.clock.specs.Question.{made}
use borrow.Author.Rules.{rules}
use Rattle.clock.proofs.Cursor.new.Goals as goal

pub returns-then-number-eq-TAKEN : goal.returns-then-number-eq-TAKEN
unfolding made of_bits
returns-then-number-eq-TAKEN c =
    rw (← c.offsets_number-number.ensures, eq-eqb _ _ c.if-number-eq-TAKEN.true, c.fresh_cursor-cursor.ensures)

pub returns : goal.returns
unfolding made of_bits
returns c =
    rw (← c.offsets_number-number.ensures, ne_eqb _ _ c.if-number-eq-TAKEN.false, c.fresh_cursor-cursor-2.ensures)
