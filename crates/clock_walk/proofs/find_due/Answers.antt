-- `clock_walk::find_due` is `due_of` of what is ahead. Assumes nothing.
use Rattle.std.proofs.Common.{◌≡◌, Some, None, sym, ap, ◌∙◌}
use Rattle.picks.specs.Pick.{pick}
use Rattle.clock_walk.specs.declared.Next.{Next}
use Rattle.clock_walk.specs.Events.{goes_before}
use Rattle.clock_walk.specs.Heads.{least_head}
use Rattle.rows.proofs.BackFromBits.{back}
use Rattle.clock_walk.proofs.HeadsAhead.{not_behind, due_by_least}
use Rattle.clock_walk.proofs.PickedOrNone.{picked_or_none}
use Rattle.clock_walk.proofs.find_due.Goals as goal

pub returns : goal.returns
returns c =
    let a = c.args in
    let least = c.least_head-next in
    let goes : goes_before a.asked (least_head a.heads) ≡ c.goes_before.result = rw (back a.asked c.ranges.asked, least.ensures) at (sym c.goes_before.ensures) in
    c.then_some.ensures ∙ picked_or_none _ _ ∙ ap (λ (n : Next). pick c.goes_before.result (Some n) None) least.ensures
    ∙ sym (due_by_least a.heads a.asked (not_behind a.asked c.ranges.asked) c.goes_before.result goes)
