-- `clock_run::soon` is `soon_before`. Assumes nothing.
use Rattle.std.proofs.Common.{◌≡◌, sym, ◌∙◌, le-ltb, lt-ltb}
use Rattle.clock_walk.specs.Soon.{row_after}
use Rattle.rows.proofs.BackFromBits.{back}
use Rattle.clock_run.specs.inside.Outlook.{lesser_row, is_before, soon_before}
use Rattle.clock_run.proofs.soon.Goals as goal
use Rattle.clock_run.proofs.soon.Goals.{After-is_before}

-- what the test of the beat found
test-is : (c : After-is_before) → let a = c.args in
    c.is_before.result ≡ is_before a.outlook.known (lesser_row (row_after a.tempo_beats.now a.at.state.tempos) a.outlook.rest) a.at.asked a.beat a.row
test-is c =
    let s = c in
    let a = s.args in
    let after = c.row_after in
    let until = c.least_of-until in
    let is_until : until.result ≡ lesser_row (row_after a.tempo_beats.now a.at.state.tempos) a.outlook.rest =
    rw (back after.result (record { sfits = after.type_inv }), after.ensures, back a.outlook.rest (record { sfits = c.struct_told-1.given.1.1.0.1 })) at until.ensures in
    rw (
      back until.result (record { sfits = until.type_inv }),
      is_until,
      back a.at.asked (record { sfits = c.struct_told-2-1.given.1.0.1 }),
      back a.row s.ranges.row,
    ) at c.is_before.ensures

pub returns-then-next-tempo_values : goal.returns-then-next-tempo_values
unfolding soon_before
returns-then-next-tempo_values c =
    let a = c.args in
    rw (
      sym (test-is (goal.at.returns-then-next-tempo_values c).After-is_before) ∙ c.if-is_before.true,
      lt-ltb _ _ c.if-next-tempo_beats.true,
      lt-ltb _ _ c.if-next-tempo_values.true,
      c.pass_next_tempo-moved.ensures,
      back a.outlook.row (record { sfits = c.struct_told-then-next-tempo_values-1.given.1.0.1 }),
    )

pub returns-else-next-tempo_values : goal.returns-else-next-tempo_values
unfolding soon_before
returns-else-next-tempo_values c = rw (sym (test-is (goal.at.returns-else-next-tempo_values c).After-is_before) ∙ c.if-is_before.true, lt-ltb _ _ c.if-next-tempo_beats.true, le-ltb _ _ c.if-next-tempo_values.false)

pub returns-else-next-tempo_beats : goal.returns-else-next-tempo_beats
unfolding soon_before
returns-else-next-tempo_beats c = rw (sym (test-is (goal.at.returns-else-next-tempo_beats c).After-is_before) ∙ c.if-is_before.true, le-ltb _ _ c.if-next-tempo_beats.false)

pub returns-else-is_before : goal.returns-else-is_before
unfolding soon_before
returns-else-is_before c = rw (sym (test-is (goal.at.returns-else-is_before c).After-is_before) ∙ c.if-is_before.false)
