-- `order_search::f32_up_to` lowers the nearest f32 where that is above. Assumes nothing.
use Rattle.std.proofs.Common.{◌≡◌, ◌+◌, ◌-◌, ◌<◌, ◌≤◌, true, false, T, sym, ap, ◌∙◌, arith, le-leb}
use borrow.Author.Tests.{lt-leb}
use lib.Ieee.{Float, binary32, fits, lt, top, to_bits, of_bits}
use Rattle.ieee.specs.Narrowing.{narrow}
use Rattle.ieee.proofs.Narrow.{narrow-fits}
use Rattle.order_search.specs.F32UpTo.{next_below, f32_up_to}
use Rattle.order_search.proofs.PatternBelow.{Lowered, rounded-up, number_below_set, number_below_clear}
use Rattle.order_search.proofs.f32_up_to.Goals as goal

module _ (at near wide : Float) (n : near ≡ narrow at) (w : wide ≡ near) where
  above : lt at wide ≡ true → lt at (narrow at) ≡ true
  above l = ap (lt at) (sym (w ∙ n)) ∙ l

  can-lower : lt at wide ≡ true → Lowered near
  can-lower l = rw n (rounded-up at (above l))

  held : T (fits binary32 near)
  held = rw n (narrow-fits at)

  lowered-set : lt at wide ≡ true → top binary32 ≤ to_bits binary32 near → of_bits binary32 (to_bits binary32 near + 1) ≡ f32_up_to at
  unfolding f32_up_to next_below
  lowered-set l t = sym (rw (above l, sym n, le-leb (top binary32) (to_bits binary32 near) t))

  lowered-clear : lt at wide ≡ true → to_bits binary32 near < top binary32 → of_bits binary32 (to_bits binary32 near - 1) ≡ f32_up_to at
  unfolding f32_up_to next_below
  lowered-clear l t = sym (rw (above l, sym n, lt-leb (top binary32) (to_bits binary32 near) t))

  as-it-is : lt at wide ≡ false → near ≡ f32_up_to at
  unfolding f32_up_to
  as-it-is l = sym (rw (ap (lt at) (sym (w ∙ n)) ∙ l, sym n))

pub float_to_bits-bits : goal.float_to_bits-bits
float_to_bits-bits c =
    let cast = c in
    let near = cast in
    let at = near.args.at in
    (can-lower at near.narrow_f64-near.result cast.f32_to_f64_with_nan.result near.narrow_f64-near.ensures cast.f32_to_f64_with_nan.ensures c.if-at-f32_to_f64_with_nan.true).number

pub overflow_add-result : goal.overflow_add-result
overflow_add-result c =
    let cast = c in
    let near = cast in
    let at = near.args.at in
    record { fits = omega (arith, (can-lower at near.narrow_f64-near.result cast.f32_to_f64_with_nan.result near.narrow_f64-near.ensures cast.f32_to_f64_with_nan.ensures c.if-at-f32_to_f64_with_nan.true).set c.if-bits-ge2147483648.true) }

pub float_from_bits-result : goal.float_from_bits-result
float_from_bits-result c =
    let cast = c in
    let near = cast in
    let at = near.args.at in
    number_below_set near.narrow_f64-near.result (held at near.narrow_f64-near.result cast.f32_to_f64_with_nan.result near.narrow_f64-near.ensures cast.f32_to_f64_with_nan.ensures) (can-lower at near.narrow_f64-near.result cast.f32_to_f64_with_nan.result near.narrow_f64-near.ensures cast.f32_to_f64_with_nan.ensures c.if-at-f32_to_f64_with_nan.true) c.if-bits-ge2147483648.true

pub returns-then-bits-ge2147483648 : goal.returns-then-bits-ge2147483648
returns-then-bits-ge2147483648 c =
    let cast = c in
    let near = cast in
    let at = near.args.at in
    lowered-set at near.narrow_f64-near.result cast.f32_to_f64_with_nan.result near.narrow_f64-near.ensures cast.f32_to_f64_with_nan.ensures c.if-at-f32_to_f64_with_nan.true c.if-bits-ge2147483648.true

pub overflow_sub-result : goal.overflow_sub-result
overflow_sub-result c =
    let cast = c in
    let near = cast in
    let at = near.args.at in
    ((can-lower at near.narrow_f64-near.result cast.f32_to_f64_with_nan.result near.narrow_f64-near.ensures cast.f32_to_f64_with_nan.ensures c.if-at-f32_to_f64_with_nan.true).clear c.if-bits-ge2147483648.false).0

pub float_from_bits-result-then-at-f32_to_f64_with_nan : goal.float_from_bits-result-then-at-f32_to_f64_with_nan
float_from_bits-result-then-at-f32_to_f64_with_nan c =
    let cast = c in
    let near = cast in
    let at = near.args.at in
    number_below_clear near.narrow_f64-near.result (held at near.narrow_f64-near.result cast.f32_to_f64_with_nan.result near.narrow_f64-near.ensures cast.f32_to_f64_with_nan.ensures) (can-lower at near.narrow_f64-near.result cast.f32_to_f64_with_nan.result near.narrow_f64-near.ensures cast.f32_to_f64_with_nan.ensures c.if-at-f32_to_f64_with_nan.true) c.if-bits-ge2147483648.false

pub returns-then-at-f32_to_f64_with_nan : goal.returns-then-at-f32_to_f64_with_nan
returns-then-at-f32_to_f64_with_nan c =
    let cast = c in
    let near = cast in
    let at = near.args.at in
    lowered-clear at near.narrow_f64-near.result cast.f32_to_f64_with_nan.result near.narrow_f64-near.ensures cast.f32_to_f64_with_nan.ensures c.if-at-f32_to_f64_with_nan.true c.if-bits-ge2147483648.false

pub returns : goal.returns
returns c =
    let cast = c in
    let near = cast in
    let at = near.args.at in
    as-it-is at near.narrow_f64-near.result cast.f32_to_f64_with_nan.result near.narrow_f64-near.ensures cast.f32_to_f64_with_nan.ensures c.if-at-f32_to_f64_with_nan.false
