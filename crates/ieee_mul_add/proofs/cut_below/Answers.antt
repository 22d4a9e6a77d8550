use Rattle.std.proofs.Common.{ℕ, ◌<◌, sym, subst, pow_pos, rules}
use Rattle.ieee_mul_add.proofs.WordsCut.{fits_word, one_shl, below-cut}
use Rattle.ieee_mul_add.proofs.cut_below.Goals as goal

pub overflow_add-high : goal.overflow_add-high
overflow_add-high c = record { fits = fits_word c.args.high c.args.low c.args.places c.requires.0 c.requires.1 c.ranges.low.fits }

pub returns : goal.returns
returns c = let b = c in below-cut b.args.high b.args.low b.args.places b.requires.0 b.requires.1 c.made_odd.result c.made_odd.ensures
