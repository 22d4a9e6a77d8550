-- `assembly_moved::one_moved` meets its contract. Assumes nothing.
use Rattle.std.proofs.Common.{◌≡◌, ℕ, Bool, true, false, not, sym, ap, ◌∙◌}
use Rattle.picks.specs.Pick.{pick}
use Rattle.rows.specs.Rows.{on_grid}
use Rattle.assembly_moved.proofs.one_moved.Goals as goal

-- 1 where it is off
told : (on off t : Bool) → off ≡ not on → off ≡ t → pick {A = ℕ} t 1 0 ≡ pick on 0 1
told true off t e h = ap (λ (b : Bool). pick {A = ℕ} b 1 0) (sym h ∙ e)
told false off t e h = ap (λ (b : Bool). pick {A = ℕ} b 1 0) (sym h ∙ e)

pub returns-then-off : goal.returns-then-off
returns-then-off c =
    let off = c.quantize-off in
    rw (sym c.stays-stayed.ensures ∙ c.if-stayed.true)
    (told (on_grid c.args.beat) off.result.off true off.ensures.1 c.if-off.true)

pub returns-else-off : goal.returns-else-off
returns-else-off c =
    let off = c.quantize-off in
    rw (sym c.stays-stayed.ensures ∙ c.if-stayed.true)
    (told (on_grid c.args.beat) off.result.off false off.ensures.1 c.if-off.false)

pub returns-else-stayed : goal.returns-else-stayed
returns-else-stayed c = rw (sym c.stays-stayed.ensures ∙ c.if-stayed.false)
