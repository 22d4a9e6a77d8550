-- A walk to a row beyond every row of the course ends where the course ends. Assumes nothing.
use Rattle.std.proofs.Common.{◌≡◌, ℕ, suc, Bool, true, false, List, [], ◌∷◌, length, ℤ, refl, ap, ◌∙◌}
use lib.Signed.{lt_z}
use Rattle.picks.specs.Pick.{pick}
use Rattle.rows.proofs.RowOrder.{le_lt, lt_not}
use Rattle.chart.specs.Timing.{Timing}
use Rattle.clock_walk.specs.Events.{goes_before}
use Rattle.clock_walk.specs.Passing.{early_tempo, time_at}
use Rattle.clock_walk.specs.Course.{state_after, course, leading_before}
use Rattle.clock_walk.specs.Walk.{walk}
use Rattle.clock_walk.specs.EndMark.{greater_row, greatest_row, end_mark}
use Rattle.chart.specs.declared.State.{State}
use Rattle.clock_walk.specs.declared.Next.{Next}
use Rattle.clock_walk.proofs.PrefixLaw.{prefix_law}

-- what is above the greater of two rows is above both
above_greater : (one other r : ℤ) → lt_z (greater_row one other) r ≡ true → (lt_z one r ≡ true) × (lt_z other r ≡ true)
unfolding greater_row
above_greater one other r h = go (lt_z one other) refl h
  where
    go : (b : Bool) → lt_z one other ≡ b → lt_z (pick b other one) r ≡ true → (lt_z one r ≡ true) × (lt_z other r ≡ true)
    go true e k = (le_lt one other r (lt_not one other e) k, k)
    go false e k = (k, le_lt other one r e k)

-- what is above the greatest is above the first row
above-first : (first r : ℤ) (list : List Next) → lt_z (greatest_row first list) r ≡ true → lt_z first r ≡ true
unfolding greatest_row
above-first first r [] h = h
above-first first r (n ∷ list) h = (above_greater first n.row r (above-first (greater_row first n.row) r list h)).0

below-before : (r : ℤ) (n : Next) → lt_z n.row r ≡ true → goes_before r n ≡ true
unfolding goes_before
below-before r n h = rw h

all-lead : (first r : ℤ) (list : List Next) → lt_z (greatest_row first list) r ≡ true → leading_before r list ≡ length list
unfolding greatest_row leading_before
all-lead first r [] h = refl
all-lead first r (n ∷ list) h =
    rw (below-before r n (above_greater first n.row r (above-first (greater_row first n.row) r list h)).1) (ap suc (all-lead (greater_row first n.row) r list h))

pub beyond_the_course : (t : Timing) (r : ℤ) (s : State) → lt_z (end_mark t s).row r ≡ true → let early = early_tempo t.tempo_beats t.tempo_values s in
    walk t r s ≡ record { state = (end_mark t s).state; passed = length (course early t s); time = time_at early t.tempo_values (end_mark t s).state r }
unfolding end_mark
beyond_the_course t r s beyond =
    let early = early_tempo t.tempo_beats t.tempo_values s in
    prefix_law t r s
    ∙ ap (λ (k : ℕ). record { state = state_after k early t s; passed = k; time = time_at early t.tempo_values (state_after k early t s) r }) (all-lead s.row r (course early t s) beyond)
