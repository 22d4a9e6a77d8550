-- Every number of a column from a place on, by a loop that holds whether all passed so far. Assumes nothing.
use Rattle.std.proofs.Common.{◌≡◌, ℕ, suc, ◌+◌, ◌<◌, ◌≤◌, Bool, true, false, List, length, get_or, drop, sym, refl, ◌∙◌, add-one, drop_of_length-le, drop-cons}
use lib.Ieee.{Float, nan}
use Rattle.picks.specs.Pick.{pick}
use Rattle.limits.specs.Numbers.{every}

-- those before i passed, or not, and with the rest that is the answer
abbrev pub SoFar : (Float → Bool) → List Float → ℕ → ℕ → Bool → Type 0
SoFar test list from i passed = pick passed (every test (drop i list)) false ≡ every test (drop from list)

one_more : (passed t rest : Bool) → pick passed (pick t rest false) false ≡ pick (pick passed t false) rest false
one_more true t rest = refl
one_more false t rest = refl

nothing-more : (passed : Bool) → passed ≡ pick passed true false
nothing-more true = refl
nothing-more false = refl

pub so_far_turn : (test : Float → Bool) (list : List Float) (from i : ℕ) (passed next : Bool) → i < length list → next ≡ pick passed (test (get_or list i nan)) false
    → SoFar test list from i passed → SoFar test list from (i + 1) next
unfolding every
so_far_turn test list from i passed next h e s =
    let step = rw (drop-cons list i nan h) at s in
    rw (e, add-one i) (sym (one_more passed (test (get_or list i nan)) (every test (drop (suc i) list))) ∙ step)

pub so_far_end : (test : Float → Bool) (list : List Float) (from i : ℕ) (passed : Bool) → length list ≤ i → SoFar test list from i passed → passed ≡ every test (drop from list)
unfolding every
so_far_end test list from i passed h s = nothing-more passed ∙ rw (drop_of_length-le list h) at s
