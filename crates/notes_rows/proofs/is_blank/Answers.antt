-- `notes_rows::is_blank` tests the five bytes in turn. Assumes nothing.
use borrow.Author.Tests.{eq-eqb, ne_eqb}
use Rattle.notes_rows.specs.Measures.{is_blank}
use Rattle.notes_rows.proofs.is_blank.Goals as goal

pub returns-then-byte-eq9 : goal.returns-then-byte-eq9
unfolding is_blank
returns-then-byte-eq9 c = simp (eq-eqb _ _ c.if-byte-eq9.true)

pub returns-then-byte-eq-LINE_FEED : goal.returns-then-byte-eq-LINE_FEED
unfolding is_blank
returns-then-byte-eq-LINE_FEED c = simp (ne_eqb _ _ c.if-byte-eq9.false, eq-eqb _ _ c.if-byte-eq-LINE_FEED.true)

pub returns-then-byte-eq12 : goal.returns-then-byte-eq12
unfolding is_blank
returns-then-byte-eq12 c = simp (ne_eqb _ _ c.if-byte-eq9.false, ne_eqb _ _ c.if-byte-eq-LINE_FEED.false, eq-eqb _ _ c.if-byte-eq12.true)

pub returns-then-byte-eq13 : goal.returns-then-byte-eq13
unfolding is_blank
returns-then-byte-eq13 c = simp (ne_eqb _ _ c.if-byte-eq9.false, ne_eqb _ _ c.if-byte-eq-LINE_FEED.false, ne_eqb _ _ c.if-byte-eq12.false, eq-eqb _ _ c.if-byte-eq13.true)

pub returns : goal.returns
unfolding is_blank
returns c = rw (ne_eqb _ _ c.if-byte-eq9.false, ne_eqb _ _ c.if-byte-eq-LINE_FEED.false, ne_eqb _ _ c.if-byte-eq12.false, ne_eqb _ _ c.if-byte-eq13.false)
