-- `lookup::fake_end` is the end of the last fake of those counted. Assumes nothing.
use Rattle.lookup.specs.inside.Finding.{fake_end}
use lib.Ieee.{div, of_bits}
use Rattle.picks.proofs.Rules.{flags}
use Rattle.lookup.proofs.fake_end.Goals as goal

pub returns-then-n-eq0 : goal.returns-then-n-eq0
unfolding fake_end div of_bits
returns-then-n-eq0 c = search flags depth 8

pub returns : goal.returns
unfolding fake_end
returns c = rw (c.narrow_f64.ensures, c.f32_to_f64_with_nan-2.ensures, c.f32_to_f64_with_nan.ensures) (search flags depth 8)
