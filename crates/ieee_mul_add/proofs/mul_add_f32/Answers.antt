use Rattle.std.proofs.Common.{not, T, sym, ap, ◌∙◌, subst, rules}
use lib.Ieee.{Float, binary32, binary64, fits, is_nan, add, mul, to_bits, of_bits}
use lib.Ieee.Fits.{and_i, fits_widens}
use lib.Ieee.Scale.{finite}
use Rattle.ieee.specs.Narrowing.{narrow}
use Rattle.ieee.specs.inside.Harmless.{Harmless}
use Rattle.ieee.proofs.FiniteTest.{finite_of_test, number_of_test}
use Rattle.ieee.proofs.Values.{number_of_eq}
use Rattle.ieee_mul_add.proofs.ByFractions.{finite-parts, number-factors, number_summands}
use Rattle.ieee_mul_add.proofs.ExactProducts.{two_operations_f32}
use Rattle.ieee_mul_add.proofs.ThroughF64.{narrowed_multiply_add}
use Rattle.ieee_mul_add.proofs.mul_add_f32.Goals as goal
use Rattle.ieee_mul_add.proofs.mul_add_f32.Goals.{Start, Then-r, Then-twice}

fits-a : (s : Start) → T (fits binary32 s.args.a)
fits-a s = subst T (sym s.well_formed.0.1) tt

fits-b : (s : Start) → T (fits binary32 s.args.b)
fits-b s = subst T (sym s.well_formed.1.0.1) tt

fits-c : (s : Start) → T (fits binary32 s.args.c)
fits-c s = subst T (sym s.well_formed.1.1.0.1) tt

-- what equals itself is no NaN, and nothing in it is
number : (c : Then-twice) → T (not (is_nan (add binary32 (mul binary32 c.args.a c.args.b) c.args.c)))
number c = let a = c.args in number_of_eq (add binary32 (mul binary32 a.a a.b) a.c) c.if-twice.true

factors : (c : Then-twice) → T (not (is_nan c.args.a)) × T (not (is_nan c.args.b))
factors c = let a = c.args in number-factors binary32 a.a a.b (number_summands binary32 (mul binary32 a.a a.b) a.c (number c)).0

addend : (c : Then-twice) → T (not (is_nan c.args.c))
addend c = let a = c.args in (number_summands binary32 (mul binary32 a.a a.b) a.c (number c)).1

pub float_to_float-r : goal.float_to_float-r
float_to_float-r c = let t = c in and_i (fits binary64 t.args.a) (not (is_nan t.args.a)) (fits_widens t.args.a (fits-a (goal.at.float_to_float-r t).Start)) (factors (goal.at.float_to_float-r t).Then-twice).0

pub float_to_float-r-then-twice : goal.float_to_float-r-then-twice
float_to_float-r-then-twice c = let t = c in and_i (fits binary64 t.args.b) (not (is_nan t.args.b)) (fits_widens t.args.b (fits-b (goal.at.float_to_float-r-then-twice t).Start)) (factors (goal.at.float_to_float-r-then-twice t).Then-twice).1

pub float_to_float-r-then-twice-2 : goal.float_to_float-r-then-twice-2
float_to_float-r-then-twice-2 c = let t = c in and_i (fits binary64 t.args.c) (not (is_nan t.args.c)) (fits_widens t.args.c (fits-c (goal.at.float_to_float-r-then-twice-2 t).Start)) (addend (goal.at.float_to_float-r-then-twice-2 t).Then-twice)

-- the sum by way of f64
abbrev start : Then-r → Start
start c = (goal.at.Then-r c).Start

abbrev wide : Then-r → Float
wide t = add binary64 (mul binary64 (start t).args.a (start t).args.b) (start t).args.c

finite-wide : (t : Then-r) → T (finite (wide t))
unfolding of_bits
finite-wide t = finite_of_test binary64 (wide t) t.if-r.true

pub float_to_bits-r : goal.float_to_bits-r
unfolding of_bits
float_to_bits-r c = number_of_test binary64 (wide c) c.if-r.true

pub returns-then-harmless : goal.returns-then-harmless
returns-then-harmless c =
    let h = c in
    let t = h in
    let s = start (goal.at.returns-then-harmless t).Then-r in
    let all = finite-parts binary64 s.args.a s.args.b s.args.c (finite-wide (goal.at.returns-then-harmless t).Then-r) in
    let e = two_operations_f32 s.args.a s.args.b s.args.c (fits-a s) (fits-b s) all.0 all.1 all.2 in
    c.narrow_f64.ensures ∙ ap narrow e ∙ narrowed_multiply_add s.args.a s.args.b s.args.c all.0 all.1 all.2 (subst (λ (x : Float). Harmless (to_bits binary64 x)) e (h.harmless.ensures c.if-harmless.true))
