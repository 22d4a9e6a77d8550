-- `mend_fates::settle` writes the fate, and the place where it is kept. Assumes nothing.
use Prim.Native.Nat.{ℕ}
use mathlib.Core.Path.{◌≡◌, ap, ◌∙◌}
use lib.ListN.{set}
use borrow.Author.Rules.{rules}
use borrow.Author.Tests.{eq-eqb, ne_eqb}
use Rattle.order.specs.Packed.{lower_half}
use Rattle.mend_fates.proofs.settle.Goals as goal
use Rattle.mend_fates.proofs.settle.Goals.{After-put_fate}

-- the place is the number's lower half
fate-put : (c : After-put_fate) → set c.args.fates.now c.lower_half-place.result c.args.fate
    ≡ set c.args.fates.now (lower_half c.args.number) c.args.fate
fate-put c =
    let given = c.args in
    ap (λ (p : ℕ). set given.fates.now p given.fate) c.lower_half-place.ensures

pub returns-then-fate-ne-KEPT : goal.returns-then-fate-ne-KEPT
returns-then-fate-ne-KEPT c =
    let put = c in
    let fate = put.args.fate in
    record {
      fates_after = put.put_fate.ensures ∙ fate-put (goal.at.returns-then-fate-ne-KEPT put).After-put_fate;
      kept_after = rw (ne_eqb fate 0 c.if-fate-ne-KEPT.true);
      value = rw (ne_eqb fate 0 c.if-fate-ne-KEPT.true);
    }

pub returns : goal.returns
returns c =
    let keeping = c in
    let branch = keeping in
    let put = branch in
    let given = put.args in
    let kept = keeping.put_kept.ensures in
    record {
      fates_after = put.put_fate.ensures ∙ fate-put (goal.at.returns put).After-put_fate;
      kept_after = rw (eq-eqb given.fate 0 branch.if-fate-ne-KEPT.false) (kept.kept_after ∙ ap (set given.kept.now given.count) put.lower_half-place.ensures);
      value = rw (eq-eqb given.fate 0 branch.if-fate-ne-KEPT.false) kept.value;
    }
