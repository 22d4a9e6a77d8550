-- Running down the list, event by event: what holds where the loop begins, after each turn, and where it ends. Assumes nothing.
use Rattle.std.proofs.Common.{◌≡◌, ℕ, zero, suc, ◌+◌, ◌<◌, ◌≤◌, Bool, true, false, eqb, List, ◌∷◌, length, get_or, take, drop, ℤ, pos, sym, refl, ap, ◌∙◌, add-one, arith, drop-cons, w32, SFits, to_z, of_z}
use lib.Ieee.{Float, nan, binary64, add}
use Rattle.picks.specs.Pick.{pick}
use Rattle.rows.proofs.BackFromBits.{back}
use Rattle.clock_bench.specs.EventList.{warp_ends, tempo_begins, warp_begins}
use Rattle.clock_bench.specs.EventRoom.{listed_in}
use Rattle.clock_bench.specs.RunningDown.{runner_past, comes_before, run_down, time_on}
use Rattle.clock_bench.specs.declared.Listed.{Listed}
use Rattle.clock_bench.specs.declared.Runner.{Runner}

-- an event more is passed
pub one_more : (x : Runner) (at : ℤ) (kind : ℕ) (number : Float) → (runner_past x at kind number).passed ≡ x.passed + 1
unfolding runner_past
one_more x at kind number = go (eqb kind warp_ends) (eqb kind tempo_begins) (eqb kind warp_begins)
  where
    go : (a b c : Bool) →
        (pick {A = Runner} a (record { row = at; time = time_on x at; tempo = x.tempo; warping = false; passed = x.passed + 1 })
        (pick b (record { row = at; time = time_on x at; tempo = number; warping = x.warping; passed = x.passed + 1 })
        (pick c (record { row = at; time = time_on x at; tempo = x.tempo; warping = true; passed = x.passed + 1 })
        (record { row = at; time = add binary64 (time_on x at) number; tempo = x.tempo; warping = x.warping; passed = x.passed + 1 })))).passed ≡ x.passed + 1
    go true b c = refl
    go false true c = refl
    go false false true = refl
    go false false false = refl

-- what the test of a row found that was read from bits
pub found : (asked at : ℤ) (kind : ℕ) (b v : Bool) → SFits w32 at → b ≡ comes_before asked (to_z w32 (of_z w32 at)) kind → b ≡ v → comes_before asked at kind ≡ v
found asked at kind b v f e h = sym (rw (back at f) at e) ∙ h

module _ (asked : ℤ) (start : Runner) (laid : ℕ) (rows : List ℤ) (kinds : List ℕ) (numbers : List Float) where
  abbrev answer : Runner
  answer = run_down asked start (take laid (listed_in rows kinds numbers))

  abbrev rest : ℕ → ℕ → List Listed
  rest left i = take left (listed_in (drop i rows) (drop i kinds) (drop i numbers))

  -- i events are passed, and the runner that stands there runs down the others
  pub record RunTo (x : Runner) (i : ℕ) : Type 0 where
    pub left : ℕ
    pub sum : i + left ≡ laid
    pub passed : x.passed ≡ i
    pub same : run_down asked x (rest left i) ≡ answer

  pub setting_off : start.passed ≡ 0 → RunTo start 0
  setting_off e = record { left = laid; sum = omega arith; passed = e; same = refl }

  module _ (x : Runner) (i : ℕ) (r : RunTo x i) where
    next : (left : ℕ) → i < length rows → i < length kinds → i < length numbers
        → rest (suc left) i ≡ record { row = get_or rows i (pos 0); kind = get_or kinds i 0; number = get_or numbers i nan } ∷ rest left (i + 1)
    unfolding listed_in
    next left a b c = rw (drop-cons rows i (pos 0) a, drop-cons kinds i 0 b, drop-cons numbers i nan c, add-one i)

    pub stopped : comes_before asked (get_or rows i (pos 0)) (get_or kinds i 0) ≡ false → i < laid → laid ≤ length rows → laid ≤ length kinds → laid ≤ length numbers → x ≡ answer
    unfolding run_down
    stopped h under a b c = go r.left r.sum r.same
      where
        go : (left : ℕ) → i + left ≡ laid → run_down asked x (rest left i) ≡ answer → x ≡ answer
        go zero e s = absurd (omega arith)
        go (suc left) e s = rw (next left (omega arith) (omega arith) (omega arith), h) at s

    pub through : laid ≤ i → x ≡ answer
    unfolding run_down
    through h = go r.left r.sum r.same
      where
        go : (left : ℕ) → i + left ≡ laid → run_down asked x (rest left i) ≡ answer → x ≡ answer
        go zero e s = s
        go (suc left) e s = absurd (omega arith)

    pub turned : (y : Runner) → y ≡ runner_past x (get_or rows i (pos 0)) (get_or kinds i 0) (get_or numbers i nan) → comes_before asked (get_or rows i (pos 0)) (get_or kinds i 0) ≡ true
        → i < laid → laid ≤ length rows → laid ≤ length kinds → laid ≤ length numbers → RunTo y (i + 1)
    unfolding run_down
    turned y e h under a b c = go r.left r.sum r.same
      where
        go : (left : ℕ) → i + left ≡ laid → run_down asked x (rest left i) ≡ answer → RunTo y (i + 1)
        go zero k s = absurd (omega arith)
        go (suc left) k s = record {
          left = left;
          sum = omega arith;
          passed = ap (λ z. z.passed) e ∙ one_more x (get_or rows i (pos 0)) (get_or kinds i 0) (get_or numbers i nan) ∙ omega (arith, r.passed);
          same = rw e (rw (next left (omega arith) (omega arith) (omega arith), h) at s);
        }
