-- `assembly_scrolls::rise_apart` looks at the beats first. Assumes nothing.
use Rattle.assembly_scrolls.specs.AssembledScrolls.{rise_apart}
use borrow.Author.Rules.{rules}
use Rattle.assembly_scrolls.proofs.rise_apart.Goals as goal

pub returns-then-rise : goal.returns-then-rise
unfolding rise_apart
returns-then-rise c = rw (← c.rise.ensures, c.if-rise.true) c.all_apart.ensures

pub returns : goal.returns
unfolding rise_apart
returns c = rw (← c.rise.ensures, c.if-rise.false)
