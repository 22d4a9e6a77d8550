-- `assembly_moved::none_off` quantises a column whole and looks at the count. Assumes nothing.
use Rattle.std.proofs.Common.{sym, ◌∙◌, true≢false, lit≤, eqb-true}
use Rattle.assembly_moved.proofs.NoneOff.{counted-whole}
use Rattle.assembly_moved.proofs.none_off.Goals as goal

pub returns-then-beats-le-FEW : goal.returns-then-beats-le-FEW
returns-then-beats-le-FEW c none =
    let given = c.args in
    let count = c.quantize_beats in
    counted-whole given.beats.now 64 c.if-beats-le-FEW.true (lit≤ tt) (sym count.ensures.value ∙ eqb-true count.result 0 none)

pub returns-then-beats-le-MOST_ENTRIES : goal.returns-then-beats-le-MOST_ENTRIES
returns-then-beats-le-MOST_ENTRIES c none =
    let given = c.args in
    let count = c.quantize_beats-then-beats-le-MOST_ENTRIES in
    counted-whole given.beats.now 1024 c.if-beats-le-MOST_ENTRIES.true (lit≤ tt) (sym count.ensures.value ∙ eqb-true count.result 0 none)

pub returns : goal.returns
returns c none = absurd (true≢false (sym none))
