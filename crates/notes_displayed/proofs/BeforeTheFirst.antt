-- Where there are no scrolls, and before the first, a beat is drawn at itself; and so it is behind one scroll of ratio 1 at beat 0. Assumes nothing.
use Rattle.std.proofs.Common.{◌≡◌, Bool, true, false, T, List, [], ◌∷◌, sym, refl, subst}
use lib.Ieee.{Float, lt, le}
use lib.Ieee.Scale.{finite}
use Rattle.ieee.proofs.FloatOrder.{lt_not_le}
use Rattle.notes_displayed.specs.Scrolls.{reaches, up_to_beat, behind_scrolls, displayed_beat}

pub no-scrolls : (ratios : List Float) (at : Float) → displayed_beat [] ratios at ≡ at
unfolding displayed_beat up_to_beat behind_scrolls
no-scrolls ratios at = refl

not_up_to : (b at : Float) → T (finite b) → T (finite at) → lt at b ≡ true → le b at ≡ false
not_up_to b at hb ha l = go (le b at) refl
  where
    go : (t : Bool) → le b at ≡ t → t ≡ false
    go true e = absurd (lt_not_le at b ha hb (subst T (sym l) tt) (subst T (sym e) tt))
    go false e = refl

pub before-first : (b : Float) (beats ratios : List Float) (at : Float) → T (finite b) → T (finite at) → lt at b ≡ true → displayed_beat (b ∷ beats) ratios at ≡ at
unfolding displayed_beat up_to_beat reaches behind_scrolls
before-first b beats ratios at hb ha l = rw (not_up_to b at hb ha l)
