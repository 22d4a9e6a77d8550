-- The beats of the heads in hand say what the lists do: which is least, which is met, and whether the tempo stays. Assumes nothing.
use Rattle.std.proofs.Common.{◌≡◌, ℕ, ◌+◌, ◌^◌, ◌<◌, Bool, true, false, ltb, List, length, get_or, sym, refl, ap, ◌∙◌, arith, ltb-false, ltb-true}
use lib.Ieee.{Float, nan, inf, fin, lt, le, eq}
use Rattle.picks.specs.Pick.{pick}
use Rattle.stops_for_sm.specs.Merging.{Sources, Heads, lesser, least_beat, meets, forward, beat_here, is_over}
use Rattle.stops_for_sm.specs.inside.InHand.{head_at, seconds_at}
use Rattle.stops_for_sm.specs.Plain.{AllFinite, Plain}
use Rattle.stops_for_sm.proofs.TempoForward.{begun, over, later}

never : {A : Type 0} → false ≡ true → A
never h = let z : ◌≡◌ {A = ℕ} 0 1 = cc in absurd (omega arith)

-- ---- infinity
not_least : (least : Float) → lt (inf false) least ≡ false
unfolding lt
not_least nan = refl
not_least (inf true) = refl
not_least (inf false) = refl
not_least (fin s m e) = refl

not_met : (beat : Float) → lt beat (inf false) ≡ true → eq (inf false) beat ≡ false
unfolding lt eq
not_met nan h = refl
not_met (inf true) h = refl
not_met (inf false) h = never h
not_met (fin s m e) h = refl

-- ---- a list's head
module _ (beats : List Float) (place : ℕ) where
  head_met : (beat : Float) → lt beat (inf false) ≡ true → eq (head_at beats place) beat ≡ meets beats place beat
  unfolding head_at meets
  head_met beat h = go (ltb place (length beats))
    where
      go : (t : Bool) → eq (pick t (get_or beats place nan) (inf false)) beat ≡ pick t (eq (get_or beats place nan) beat) false
      go true = refl
      go false = not_met beat h

  pub met_as : {t : Bool} (head beat : Float) → head ≡ head_at beats place → lt beat (inf false) ≡ true → eq head beat ≡ t → meets beats place beat ≡ t
  met_as head beat e h test = sym (head_met beat h) ∙ ap (λ (x : Float). eq x beat) (sym e) ∙ test

  head_lesser : (least : Float) → pick (lt (head_at beats place) least) (head_at beats place) least ≡ lesser least beats place
  unfolding head_at lesser
  head_lesser least = go (ltb place (length beats))
    where
      go : (t : Bool) → pick (lt (pick t (get_or beats place nan) (inf false)) least) (pick t (get_or beats place nan) (inf false)) least ≡ pick t (pick (lt (get_or beats place nan) least) (get_or beats place nan) least) least
      go true = refl
      go false = rw (not_least least)

  -- a head is finite where there is one
  head_left : AllFinite beats → lt (head_at beats place) (inf false) ≡ ltb place (length beats)
  unfolding head_at lt
  head_left n = go (ltb place (length beats)) refl
    where
      go : (t : Bool) → ltb place (length beats) ≡ t → lt (pick t (get_or beats place nan) (inf false)) (inf false) ≡ t
      go true e = n.below place (ltb-true place (length beats) e)
      go false e = refl

  head_first : AllFinite beats → head_at beats place ≡ lesser (inf false) beats place
  unfolding head_at lesser
  head_first n = go (ltb place (length beats)) refl
    where
      go : (t : Bool) → ltb place (length beats) ≡ t → pick t (get_or beats place nan) (inf false) ≡ pick t (pick (lt (get_or beats place nan) (inf false)) (get_or beats place nan) (inf false)) (inf false)
      go true e = rw (n.below place (ltb-true place (length beats) e))
      go false e = refl

-- ---- all three, and the tempo in force
pub record InHand (s : Sources) (h : Heads) (tempo_beat lasts stop_beat delay_beat warp_beat : Float) : Type 0 where
  pub next : tempo_beat ≡ head_at s.tempo_beats (h.tempo + 1)
  pub seconds : lasts ≡ seconds_at s.tempo_values h.tempo
  pub stop : stop_beat ≡ head_at s.stops h.stop
  pub delay : delay_beat ≡ head_at s.delay_beats h.delay
  pub warp : warp_beat ≡ head_at s.warp_beats h.warp

pub least_in_hand : (s : Sources) (h : Heads) (tempo_beat lasts stop_beat delay_beat warp_beat : Float) → Plain s → InHand s h tempo_beat lasts stop_beat delay_beat warp_beat
    → (first least : Float) → first ≡ pick (lt delay_beat stop_beat) delay_beat stop_beat → least ≡ pick (lt warp_beat first) warp_beat first → least ≡ beat_here s h
unfolding least_beat
least_in_hand s h tempo_beat lasts stop_beat delay_beat warp_beat plain hand first least e f =
    let one : stop_beat ≡ lesser (inf false) s.stops h.stop = hand.stop ∙ head_first s.stops h.stop plain.stops in
    let two : pick (lt delay_beat stop_beat) delay_beat stop_beat ≡ lesser stop_beat s.delay_beats h.delay = rw hand.delay (head_lesser s.delay_beats h.delay stop_beat) in
    let three : pick (lt warp_beat first) warp_beat first ≡ lesser first s.warp_beats h.warp = rw hand.warp (head_lesser s.warp_beats h.warp first) in
    f ∙ three ∙ ap (λ (x : Float). lesser x s.warp_beats h.warp) (e ∙ two ∙ ap (λ (x : Float). lesser x s.delay_beats h.delay) one)

-- ---- delays and warps
abbrev pub none_left : Sources → Heads → Bool
none_left s h = pick (ltb h.delay (length s.delay_beats)) false (pick (ltb h.warp (length s.warp_beats)) false true)

pub over_in_hand : (s : Sources) (h : Heads) (tempo_beat lasts stop_beat delay_beat warp_beat : Float) → Plain s → InHand s h tempo_beat lasts stop_beat delay_beat warp_beat
    → pick (lt delay_beat (inf false)) false (pick (lt warp_beat (inf false)) false true) ≡ none_left s h
over_in_hand s h tempo_beat lasts stop_beat delay_beat warp_beat plain hand =
    rw (hand.delay, hand.warp, head_left s.delay_beats h.delay plain.delays, head_left s.warp_beats h.warp plain.warps)

pub both-over : (a b : Bool) → pick a false (pick b false true) ≡ true → (a ≡ false) × (b ≡ false)
both-over false false e = (refl, refl)
both-over true b e = never e
both-over false true e = never e

pub more_left : (s : Sources) (h : Heads) → none_left s h ≡ false → is_over s h ≡ false
unfolding is_over
more_left s h e = rw e (go (ltb h.stop (length s.stops)))
  where
    go : (t : Bool) → pick t false false ≡ false
    go true = refl
    go false = refl

-- ---- the next tempo
pub tempo-stays : (tempo_beats : List Float) (place : ℕ) (beat : Float) → place < 2 ^ 63 → le (head_at tempo_beats (place + 1)) beat ≡ false → place ≡ forward tempo_beats place beat
unfolding head_at
tempo-stays tempo_beats place beat small h = go (ltb (place + 1) (length tempo_beats)) refl
  where
    go : (t : Bool) → ltb (place + 1) (length tempo_beats) ≡ t → place ≡ forward tempo_beats place beat
    go true e = later tempo_beats place beat place (begun tempo_beats place beat small) (ltb-true (place + 1) (length tempo_beats) e) (rw e at h)
    go false e = over tempo_beats place beat place (begun tempo_beats place beat small) (ltb-false (place + 1) (length tempo_beats) e)
