-- `columns_each::apart` meets its contract. Assumes nothing.
use Rattle.std.proofs.Common.{◌≡◌, ℕ, Bool, true, false, sym, ap, ◌∙◌}
use lib.Ieee.{Float, eq}
use Rattle.picks.specs.Pick.{pick}
use Rattle.rows.specs.Rows.{quantized32, on_grid32}
use Rattle.limits.specs.Numbers.{miss}
use Rattle.columns_each.proofs.apart.Goals as goal

-- the test, as the definition has it
told : (beat moved : Float) (t : Bool) → moved ≡ quantized32 beat → eq beat moved ≡ t → pick {A = ℕ} t 0 1 ≡ miss on_grid32 beat
unfolding on_grid32
told beat moved t e h = ap (λ (b : Bool). pick {A = ℕ} b 0 1) (sym h ∙ ap (λ (x : Float). eq beat x) e)

pub returns-then-beat-moved : goal.returns-then-beat-moved
returns-then-beat-moved c = told c.args.beat c.args.moved true c.requires c.if-beat-moved.true

pub returns-else-beat-moved : goal.returns-else-beat-moved
returns-else-beat-moved c = told c.args.beat c.args.moved false c.requires c.if-beat-moved.false
