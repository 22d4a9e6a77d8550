-- A timing's own mark is always taken with it, and a mark that is taken is the timing's own. Assumes nothing.
use Prim.Native.Nat.{ℕ}
use mathlib.Core.Bool.{Bool, true, false, not, ◌&&◌}
use mathlib.Core.Path.{◌≡◌, refl, sym, ap, ◌∙◌}
use native.Mathlib.Omega.{arith}
use borrow.Author.Tests.{eq-eqb, eqb-true, ltb-false}
use lib.Dec.{T, eqb}
use lib.IntN.{ℤ, pos, negsuc}
use lib.Signed.{lt_z}
use lib.Ieee.{Float, binary64, fits, of_bits, to_bits}
use lib.Ieee.Bits.{of_bits-to_bits}
use lib.Ieee.Fits.{sub-fits}
use Rattle.limits.specs.Table.{not_rising}
use Rattle.picks.specs.Pick.{pick}
use Rattle.rows.proofs.RowOrder.{no, lt_not_self}
use Rattle.chart.specs.Timing.{Timing}
use Rattle.chart.specs.declared.State.{State}
use Rattle.clock_walk.specs.declared.Mark.{Mark}
use Rattle.clock_walk.proofs.NumbersFit.{NumbersFit, mark-fits}
use Rattle.clock_tests.specs.TimingNumbers.{timing_number}
use Rattle.clock.specs.Question.{filled, fresh_state}
use Rattle.clock.specs.Marked.{mark_of, same_bits, same_row, same_places, same_warp, same_mark, marked_timing_number}

-- ---- the timing's own
eqb_self : (n : ℕ) → eqb n n ≡ true
eqb_self n = eq-eqb n n refl

same_self : (m : Mark) → same_mark m m ≡ true
unfolding same_mark same_row same_places same_bits same_warp
same_self m =
    let s = m.state in
    rw (lt_not_self m.row, eqb_self s.tempos, eqb_self s.stops, eqb_self s.delays, eqb_self s.warps, lt_not_self s.row, eqb_self (to_bits binary64 s.time), eqb_self (to_bits binary64 s.end)) (go s.warping)
  where
    go : (b : Bool) → pick b b (not b) && true ≡ true
    go true = refl
    go false = refl

pub own-mark : (t : Timing) (offset global : Float) → marked_timing_number (mark_of t offset global) t offset global ≡ timing_number t offset global
unfolding marked_timing_number
own-mark t offset global = rw (same_self (mark_of t offset global)) (go (eqb (timing_number t offset global) 0) refl)
  where
    go : (b : Bool) → eqb (timing_number t offset global) 0 ≡ b → pick b 0 (timing_number t offset global) ≡ timing_number t offset global
    go true e = sym (eqb-true _ 0 e)
    go false e = refl

-- ---- no other one
both : (a b : Bool) → a && b ≡ true → (a ≡ true) × (b ≡ true)
both true true h = (refl, refl)
both true false h = no h
both false b h = no h

not_so : (a : Bool) → not a ≡ true → a ≡ false
not_so true h = no h
not_so false h = refl

rows-equal : (a b : ℤ) → lt_z a b ≡ false → lt_z b a ≡ false → a ≡ b
rows-equal (pos a) (pos b) h k = ap pos (omega (arith, ltb-false a b h, ltb-false b a k))
rows-equal (pos a) (negsuc b) h k = no (sym k)
rows-equal (negsuc a) (pos b) h k = no (sym h)
rows-equal (negsuc a) (negsuc b) h k = ap negsuc (omega (arith, ltb-false b a h, ltb-false a b k))

row_is : (a b : ℤ) → same_row a b ≡ true → a ≡ b
unfolding same_row
row_is a b h = let p = both (not (lt_z a b)) (not (lt_z b a)) h in rows-equal a b (not_so (lt_z a b) p.0) (not_so (lt_z b a) p.1)

number_is : (x y : Float) → T (fits binary64 x) → T (fits binary64 y) → same_bits x y ≡ true → x ≡ y
unfolding same_bits
number_is x y f g h = sym (of_bits-to_bits binary64 x f) ∙ ap (of_bits binary64) (eqb-true (to_bits binary64 x) (to_bits binary64 y) h) ∙ of_bits-to_bits binary64 y g

warping_is : (a b : Bool) → pick a b (not b) ≡ true → a ≡ b
warping_is true b h = sym h
warping_is false true h = no h
warping_is false false h = refl

places-are : (s z : State) → same_places s z ≡ true → (s.tempos ≡ z.tempos) × (s.stops ≡ z.stops) × (s.delays ≡ z.delays) × (s.warps ≡ z.warps)
unfolding same_places
places-are s z h =
    let tempos = eqb s.tempos z.tempos in
    let stops = eqb s.stops z.stops in
    let delays = eqb s.delays z.delays in
    let p = both (tempos && stops && delays) (eqb s.warps z.warps) h in
    let q = both (tempos && stops) delays p.0 in
    let r = both tempos stops q.0 in
    (eqb-true s.tempos z.tempos r.0, eqb-true s.stops z.stops r.1, eqb-true s.delays z.delays q.1, eqb-true s.warps z.warps p.1)

warp-is : (s z : State) → T (fits binary64 s.end) → T (fits binary64 z.end) → same_warp s z ≡ true → (s.warping ≡ z.warping) × (s.end ≡ z.end)
unfolding same_warp
warp-is s z f g h =
    let p = both (pick s.warping z.warping (not z.warping)) (same_bits s.end z.end) h in
    (warping_is s.warping z.warping p.0, number_is s.end z.end f g p.1)

-- a record is told by its fields
state_of : (s z : State) → s.tempos ≡ z.tempos → s.stops ≡ z.stops → s.delays ≡ z.delays → s.warps ≡ z.warps → s.row ≡ z.row → s.warping ≡ z.warping → s.time ≡ z.time → s.end ≡ z.end → s ≡ z
state_of s z a b c d e f g h =
    let same : ◌≡◌ {A = State}
    (record { tempos = s.tempos; stops = s.stops; delays = s.delays; warps = s.warps; row = s.row; warping = s.warping; time = s.time; end = s.end })
    (record { tempos = z.tempos; stops = z.stops; delays = z.delays; warps = z.warps; row = z.row; warping = z.warping; time = z.time; end = z.end }) = cc in
    same

mark_of_lem : (one other : Mark) → one.state ≡ other.state → one.row ≡ other.row → one ≡ other
mark_of_lem one other a b =
    let same : ◌≡◌ {A = Mark} (record { state = one.state; row = one.row }) (record { state = other.state; row = other.row }) = cc in
    same

same-is : (one other : Mark) → NumbersFit one.state → NumbersFit other.state → same_mark one other ≡ true → one ≡ other
unfolding same_mark
same-is one other f g h =
    let s = one.state in
    let z = other.state in
    let first = same_row one.row other.row in
    let places = same_places s z in
    let rows = same_row s.row z.row in
    let times = same_bits s.time z.time in
    let p = both (first && places && rows && times) (same_warp s z) h in
    let q = both (first && places && rows) times p.0 in
    let r = both (first && places) rows q.0 in
    let u = both first places r.0 in
    let at = places-are s z u.1 in
    let warp = warp-is s z f.1 g.1 p.1 in
    mark_of_lem one other
    (state_of s z at.0 at.1 at.2 at.3 (row_is s.row z.row r.1) warp.0 (number_is s.time z.time f.0 g.0 q.1) warp.1)
    (row_is one.row other.row u.0)

fresh-fits : (offset global : Float) → NumbersFit (fresh_state offset global)
unfolding fresh_state fits
fresh-fits offset global = (sub-fits binary64 _ global, tt)

-- of marks whose numbers are of binary64, as those of every mark that is handed over are
pub taken-mark : (m : Mark) (t : Timing) (offset global : Float) → NumbersFit m.state → marked_timing_number m t offset global ≡ 0 → m ≡ mark_of t offset global
unfolding marked_timing_number mark_of
taken-mark m t offset global f h =
    same-is m (mark_of t offset global) f (mark-fits (filled t) (fresh_state offset global) (fresh-fits offset global)) (go (eqb (timing_number t offset global) 0) (same_mark m (mark_of t offset global)) refl h)
  where
    go : (a b : Bool) → eqb (timing_number t offset global) 0 ≡ a → pick a (pick b 0 not_rising) (timing_number t offset global) ≡ 0 → b ≡ true
    go true true k n = refl
    go true false k n = absurd (omega (arith, n))
    go false b k n = no (sym k ∙ eq-eqb _ 0 n)
