use Rattle.std.proofs.Common.{not, T, sym, ◌∙◌, subst, rules}
use lib.Ieee.{binary64, is_nan, of_bits}
use lib.Ieee.Scale.{finite}
use Rattle.ieee.proofs.FiniteTest.{finite_of_test, number_of_test}
use Rattle.ieee_mul_add.proofs.ByFractions.{other-sum, other-product}
use Rattle.ieee_mul_add.proofs.ByFloats.{AllFinite, by_patterns, zero-first, zero-second, all_finite_bits, not_finite, not_first, not_second}
use Rattle.ieee_mul_add.proofs.by_words_f64.Goals as goal
use Rattle.ieee_mul_add.proofs.by_words_f64.Goals.{Start, Then-c}

-- where all three tests have passed
abbrev start : Then-c → Start
start c = (goal.at.Then-c c).Start

numbers : (t : Then-c) → AllFinite (start t).args.a (start t).args.b (start t).args.c
unfolding of_bits
numbers t =
    record {
      fits_x = subst T (sym (start t).well_formed.0.1) tt;
      fits_y = subst T (sym (start t).well_formed.1.0.1) tt;
      fits_z = subst T (sym (start t).well_formed.1.1.0.1) tt;
      finite_x = finite_of_test binary64 (start t).args.a t.if-a.true;
      finite_y = finite_of_test binary64 (start t).args.b t.if-b.true;
      finite_z = finite_of_test binary64 (start t).args.c t.if-c.true;
    }

number-a : (t : Then-c) → T (not (is_nan (start t).args.a))
unfolding of_bits
number-a t = number_of_test binary64 (start t).args.a t.if-a.true

number-b : (t : Then-c) → T (not (is_nan (start t).args.b))
unfolding of_bits
number-b t = number_of_test binary64 (start t).args.b t.if-b.true

number-c : (t : Then-c) → T (not (is_nan (start t).args.c))
unfolding of_bits
number-c t = number_of_test binary64 (start t).args.c t.if-c.true

pub float_to_bits-x : goal.float_to_bits-x
float_to_bits-x c = number-a c

pub float_to_bits-y : goal.float_to_bits-y
float_to_bits-y c = number-b c

pub returns-then-digits-eq0 : goal.returns-then-digits-eq0
returns-then-digits-eq0 c = let t = c in zero-first binary64 (start (goal.at.returns-then-digits-eq0 t).Then-c).args.a (start (goal.at.returns-then-digits-eq0 t).Then-c).args.b (start (goal.at.returns-then-digits-eq0 t).Then-c).args.c (numbers (goal.at.returns-then-digits-eq0 t).Then-c) c.digits.result c.digits.ensures c.if-digits-eq0.true

pub returns-then-digits-eq0-2 : goal.returns-then-digits-eq0-2
returns-then-digits-eq0-2 c = let t = c in zero-second binary64 (start (goal.at.returns-then-digits-eq0-2 t).Then-c).args.a (start (goal.at.returns-then-digits-eq0-2 t).Then-c).args.b (start (goal.at.returns-then-digits-eq0-2 t).Then-c).args.c (numbers (goal.at.returns-then-digits-eq0-2 t).Then-c) c.digits-then-c.result c.digits-then-c.ensures c.if-digits-eq0-2.true

pub float_to_bits-c : goal.float_to_bits-c
float_to_bits-c c = number-c (goal.at.float_to_bits-c c).Then-c

pub finite_f64-requires : goal.finite_f64-requires
finite_f64-requires c =
    let t = c in
    let first = c in
    let second = c in
    all_finite_bits binary64 (start (goal.at.finite_f64-requires t).Then-c).args.a (start (goal.at.finite_f64-requires t).Then-c).args.b (start (goal.at.finite_f64-requires t).Then-c).args.c (numbers (goal.at.finite_f64-requires t).Then-c) first.digits.result second.digits-then-c.result first.digits.ensures second.digits-then-c.ensures c.if-digits-eq0.false c.if-digits-eq0-2.false

pub returns-then-c : goal.returns-then-c
returns-then-c c = let t = c in c.finite_f64.ensures ∙ by_patterns binary64 (start (goal.at.returns-then-c t).Then-c).args.a (start (goal.at.returns-then-c t).Then-c).args.b (start (goal.at.returns-then-c t).Then-c).args.c (numbers (goal.at.returns-then-c t).Then-c)

pub returns-then-b : goal.returns-then-b
unfolding of_bits
returns-then-b c =
    let s = c in
    other-sum binary64 s.args.a s.args.b s.args.c (finite_of_test binary64 s.args.a c.if-a.true) (finite_of_test binary64 s.args.b c.if-b.true) (not_finite binary64 s.args.c c.if-c.false)

pub returns-then-a : goal.returns-then-a
unfolding of_bits
returns-then-a c = let s = c in other-product binary64 s.args.a s.args.b s.args.c (not_second (finite s.args.a) (finite s.args.b) (not_finite binary64 s.args.b c.if-b.false))

pub returns : goal.returns
unfolding of_bits
returns c = let s = c in other-product binary64 s.args.a s.args.b s.args.c (not_first (finite s.args.a) (finite s.args.b) (not_finite binary64 s.args.a c.if-a.false))
