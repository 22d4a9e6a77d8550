-- The tempo in force is one that is taken, wherever a walk over taken tempos has come. Assumes nothing.
use Prim.Native.Nat.{ℕ, zero, suc, ◌-◌, ◌≤◌, ◌<◌}
use mathlib.Core.List.{List, [], ◌∷◌}
use mathlib.Core.Bool.{Bool, true, false}
use mathlib.Core.Path.{◌≡◌, refl}
use native.Mathlib.Omega.{arith}
use borrow.Author.Tests.{eqb-false}
use lib.Dec.{eqb}
use lib.ListN.{length, get_or}
use lib.Ieee.{Float, nan, binary64, le, lt, eq}
use Rattle.ieee.specs.Constants.{sixty}
use Rattle.picks.specs.Pick.{pick}
use Rattle.rows.specs.Rows.{beat_of}
use Rattle.limits.specs.Numbers.{range_of, in_range, all_in}
use Rattle.limits.specs.declared.Kind.TheVariants.{Tempo}
use Rattle.limits.proofs.Every.{every_rest, every-at}
use Rattle.clock_walk.specs.Passing.{first_or, last_up_to, tempo_at, early_tempo, in_force}
use Rattle.chart.specs.declared.State.{State}

abbrev pub IsTempo : Float → Type 0
IsTempo x = in_range (range_of Tempo) x ≡ true

pub sixty-taken : IsTempo sixty
unfolding in_range lt le eq
sixty-taken = refl

first_taken : (values : List Float) → all_in (range_of Tempo) values ≡ true → IsTempo (first_or sixty values)
first_taken [] h = sixty-taken
first_taken (v ∷ values) h = (every_rest (in_range (range_of Tempo)) v values h).0

picked : (b : Bool) (x y : Float) → IsTempo x → IsTempo y → IsTempo (pick b x y)
picked true x y h k = h
picked false x y h k = k

last_taken : (beat other : Float) (beats values : List Float) → IsTempo other → all_in (range_of Tempo) values ≡ true → IsTempo (last_up_to beat other beats values)
unfolding last_up_to
last_taken beat other [] values o h = o
last_taken beat other (b ∷ beats) [] o h = o
last_taken beat other (b ∷ beats) (v ∷ values) o h =
    let both = every_rest (in_range (range_of Tempo)) v values h in
    picked (le b beat) (last_up_to beat v beats values) other (last_taken beat v beats values both.0 both.1) o

-- what a walk begins with, where no tempo is passed
pub early-taken : (beats values : List Float) (s : State) → s.tempos ≡ 0 → all_in (range_of Tempo) values ≡ true → IsTempo (early_tempo beats values s)
unfolding early_tempo tempo_at
early-taken beats values s none h = rw none (last_taken (beat_of binary64 s.row) (first_or sixty values) beats values (first_taken values h) h)

pub force_taken : (early : Float) (values : List Float) (place : ℕ) → IsTempo early → all_in (range_of Tempo) values ≡ true → place ≤ length values → IsTempo (in_force early values place)
unfolding in_force
force_taken early values place e h l = go (eqb place 0) refl
  where
    go : (b : Bool) → eqb place 0 ≡ b → IsTempo (pick b early (get_or values (place - 1) nan))
    go true q = e
    go false q = every-at (in_range (range_of Tempo)) values (place - 1) nan h (within place (eqb-false place 0 q) l)
      where
        within : (p : ℕ) → (p ≡ 0 → ⊥) → p ≤ length values → p - 1 < length values
        within zero n l = absurd (n refl)
        within (suc p) n l = omega arith
