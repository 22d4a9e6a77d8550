-- What is ahead, and so what is due, is found by the heads' rows alone, and an event moves only the heads that it passed. Assumes nothing.
use Rattle.std.proofs.Common.{◌≡◌, ℕ, Bool, true, false, ltb, ◌⊎◌, List, length, get_or, ℤ, pos, negsuc, refl, ap, ◌∙◌, inl, inr, arith, w32, SFits, le-ltb, Option, Some, None}
use lib.Signed.{lt_z}
use lib.Ieee.{Float, nan, binary64}
use Rattle.picks.specs.Pick.{pick}
use Rattle.rows.specs.Rows.{row}
use Rattle.chart.specs.Timing.{Timing}
use Rattle.clock_walk.specs.Events.{farthest, sooner, offered, end_offered, row_ahead, ahead, goes_before, due_of}
use Rattle.clock_walk.specs.Passing.{arrived, event_passed, passing, after_warp_end, after_tempo, after_delay, after_stop, after_warp}
use Rattle.clock_walk.specs.Quiet.{row_at, end_row}
use Rattle.clock_walk.specs.Heads.{heads_of, heads_after, no_head, sooner_head, least_head, found_at, ahead_of}
use Rattle.chart.specs.declared.State.{State}
use Rattle.clock_walk.specs.declared.Next.{Next}
use Rattle.clock_walk.specs.declared.Heads.{Heads}
use Rattle.clock_walk.specs.declared.Event.{Event}
use Rattle.clock_walk.specs.declared.Event.TheVariants.{WarpEnd, Tempo, Delay, Stop, Warp}
use Rattle.rows.proofs.RowOrder.{lt_le, le_trans, lt_not, lt_not_self}
use Rattle.clock_walk.proofs.ClockTest.{first_up_to}

-- ---- one head more, beside one candidate more
module _ (best : Next) (low : lt_z farthest best.row ≡ false) where
  stays-low : (at : ℤ) (k : Event) → lt_z farthest (sooner_head best at k).row ≡ false
  unfolding sooner_head sooner
  stays-low at k = go (lt_z at best.row) refl
    where
      go : (b : Bool) → lt_z at best.row ≡ b → lt_z farthest (pick b (record { row = at; kind = k }) best).row ≡ false
      go true e = le_trans at best.row farthest (lt_not at best.row e) low
      go false e = low

  one_more : (at : ℤ) (k : Event) → found_at (sooner_head best at k) ≡ sooner row_ahead (found_at best) (Some (record { row = at; kind = k }))
  unfolding sooner_head sooner
  one_more at k = go (lt_z at best.row) (lt_z best.row farthest) refl refl
    where
      new : Next
      new = record { row = at; kind = k }

      go : (b c : Bool) → lt_z at best.row ≡ b → lt_z best.row farthest ≡ c
          → pick (lt_z (pick b new best).row farthest) (Some (pick b new best)) None ≡ pick (lt_z at (row_ahead (pick c (Some best) None))) (Some new) (pick c (Some best) None)
      go true true e f = rw (e, lt_le at best.row farthest e low)
      go true false e f = rw (lt_le at best.row farthest e low)
      go false true e f = rw (e, f)
      go false false e f = rw (f, le_trans farthest best.row at f e)

  behind-all : (k : Event) → sooner_head best farthest k ≡ best
  unfolding sooner_head sooner
  behind-all k = rw low

  entry_more : (beats : List Float) (place : ℕ) (k : Event) → found_at (sooner_head best (row_at beats place) k) ≡ offered row_ahead Some (found_at best) beats place k
  unfolding offered row_at
  entry_more beats place k = go (ltb place (length beats))
    where
      at : ℤ
      at = row binary64 (get_or beats place nan)

      go : (b : Bool) → found_at (sooner_head best (pick b at farthest) k) ≡ pick b (sooner row_ahead (found_at best) (Some (record { row = at; kind = k }))) (found_at best)
      go true = one_more at k
      go false = ap found_at (behind-all k)

  end_more : (warping : Bool) (end : Float) → found_at (sooner_head best (end_row warping end) WarpEnd) ≡ end_offered row_ahead Some (found_at best) warping end
  unfolding end_offered end_row
  end_more true end = one_more (row binary64 end) WarpEnd
  end_more false end = ap found_at (behind-all WarpEnd)

pub ahead_by_heads : (t : Timing) (s : State) → ahead_of (heads_of t.tempo_beats t.stop_beats t.delay_beats t.warp_beats s) ≡ ahead t s
unfolding ahead_of least_head heads_of ahead
ahead_by_heads t s =
    let low0 = lt_not_self farthest in
    let end = sooner_head no_head (end_row s.warping s.end) WarpEnd in
    let low1 = stays-low no_head low0 (end_row s.warping s.end) WarpEnd in
    let tempo = sooner_head end (row_at t.tempo_beats s.tempos) Tempo in
    let low2 = stays-low end low1 (row_at t.tempo_beats s.tempos) Tempo in
    let delay = sooner_head tempo (row_at t.delay_beats s.delays) Delay in
    let low3 = stays-low tempo low2 (row_at t.delay_beats s.delays) Delay in
    let stop = sooner_head delay (row_at t.stop_beats s.stops) Stop in
    let low4 = stays-low delay low3 (row_at t.stop_beats s.stops) Stop in
    let with_warp : Option Next → Option Next = λ a. offered row_ahead Some a t.warp_beats s.warps Warp in
    let with_stop : Option Next → Option Next = λ a. with_warp (offered row_ahead Some a t.stop_beats s.stops Stop) in
    let with_delay : Option Next → Option Next = λ a. with_stop (offered row_ahead Some a t.delay_beats s.delays Delay) in
    let with_tempo : Option Next → Option Next = λ a. with_delay (offered row_ahead Some a t.tempo_beats s.tempos Tempo) in
    entry_more stop low4 t.warp_beats s.warps Warp
    ∙ ap with_warp (entry_more delay low3 t.stop_beats s.stops Stop)
    ∙ ap with_stop (entry_more tempo low2 t.delay_beats s.delays Delay)
    ∙ ap with_delay (entry_more end low1 t.tempo_beats s.tempos Tempo)
    ∙ ap with_tempo (end_more no_head low0 s.warping s.end)

-- ---- what is due is the least head where that goes before the asked beat
pub not_behind : (z : ℤ) → SFits w32 z → lt_z farthest z ≡ false
not_behind (pos n) f = let l = f.sfits in le-ltb 2147483647 n (omega arith)
not_behind (negsuc n) f = refl

-- a row below the greatest i32 is found, or none is
abbrev Found_or_none : Next → Type 0
Found_or_none n = (lt_z n.row farthest ≡ true) ⊎ (n ≡ no_head)

low_of : (n : Next) → Found_or_none n → lt_z farthest n.row ≡ false
low_of n (inl h) = lt_not n.row farthest h
low_of n (inr h) = rw h (lt_not_self farthest)

next-found : (best : Next) (at : ℤ) (k : Event) → Found_or_none best → Found_or_none (sooner_head best at k)
unfolding sooner_head sooner
next-found best at k f = go (lt_z at best.row) refl
  where
    go : (b : Bool) → lt_z at best.row ≡ b → Found_or_none (pick b (record { row = at; kind = k }) best)
    go true e = inl (lt_le at best.row farthest e (low_of best f))
    go false e = f

found_or_none : (h : Heads) → Found_or_none (least_head h)
unfolding least_head
found_or_none h =
    next-found _ h.warp Warp (next-found _ h.stop Stop (next-found _ h.delay Delay (next-found _ h.tempo Tempo (next-found no_head h.end WarpEnd (inr refl)))))

-- no head goes before no beat
none_before : (r : ℤ) → lt_z farthest r ≡ false → goes_before r no_head ≡ false
unfolding goes_before
none_before r e = rw e (either (lt_z r farthest))
  where
    either : (b : Bool) → pick b false false ≡ false
    either true = refl
    either false = refl

module _ (h : Heads) (r : ℤ) (fits : lt_z farthest r ≡ false) where
  by-least : (n : Next) → Found_or_none n → due_of r (found_at n) ≡ pick (goes_before r n) (Some n) None
  by-least n (inl near) = rw near
  by-least n (inr none) = rw (none, none_before r fits)

  pub due_by_least : (b : Bool) → goes_before r (least_head h) ≡ b → due_of r (ahead_of h) ≡ pick b (Some (least_head h)) None
  unfolding ahead_of
  due_by_least b e = by-least (least_head h) (found_or_none h) ∙ ap (λ (x : Bool). pick x (Some (least_head h)) None) e

-- ---- a tempo before all others
module _ (h : Heads) where
  abbrev tempo_of : Next
  tempo_of = record { row = h.tempo; kind = Tempo }

  found : (n : Next) → lt_z h.tempo n.row ≡ true → sooner_head n h.tempo Tempo ≡ tempo_of
  unfolding sooner_head sooner
  found n e = rw e

  stays : (at : ℤ) (k : Event) → lt_z h.tempo at ≡ true → sooner_head tempo_of at k ≡ tempo_of
  unfolding sooner_head sooner
  stays at k e = rw (lt_not h.tempo at e)

  behind-end : lt_z h.tempo farthest ≡ true → lt_z h.tempo h.end ≡ true → lt_z h.tempo (sooner_head no_head h.end WarpEnd).row ≡ true
  unfolding sooner_head sooner
  behind-end e f = go (lt_z h.end farthest)
    where
      go : (b : Bool) → lt_z h.tempo (pick b (record { row = h.end; kind = WarpEnd }) no_head).row ≡ true
      go true = f
      go false = e

  module _ (far : lt_z h.tempo farthest ≡ true) (stop : lt_z h.tempo h.stop ≡ true) (delay : lt_z h.tempo h.delay ≡ true) (warp : lt_z h.tempo h.warp ≡ true) (end : lt_z h.tempo h.end ≡ true) where
    tempo-least : least_head h ≡ tempo_of
    unfolding least_head
    tempo-least =
        ap (λ (n : Next). sooner_head (sooner_head (sooner_head n h.delay Delay) h.stop Stop) h.warp Warp) (found _ (behind-end far end))
        ∙ ap (λ (n : Next). sooner_head (sooner_head n h.stop Stop) h.warp Warp) (stays h.delay Delay delay)
        ∙ ap (λ (n : Next). sooner_head n h.warp Warp) (stays h.stop Stop stop)
        ∙ stays h.warp Warp warp

    pub tempo-found : ahead_of h ≡ Some tempo_of
    unfolding ahead_of
    tempo-found = rw (tempo-least, far)

  -- the asked beat may be on its row
  pub tempo-due : ahead_of h ≡ Some tempo_of → (r : ℤ) → lt_z r h.tempo ≡ false → due_of r (ahead_of h) ≡ Some tempo_of
  tempo-due e r up_to_lem = rw (e, first_up_to r tempo_of refl up_to_lem)

-- ---- the heads after an event
arrived-heads : (t : Timing) (s : State) (at : ℤ) (time number : Float) (k : Event) → let s' = arrived s at time number k in
    heads_after t.tempo_beats t.stop_beats t.delay_beats t.warp_beats (heads_of t.tempo_beats t.stop_beats t.delay_beats t.warp_beats s) s' k ≡ heads_of t.tempo_beats t.stop_beats t.delay_beats t.warp_beats s'
unfolding heads_of end_row after_warp_end after_tempo after_delay after_stop after_warp
arrived-heads t s at time number WarpEnd = refl
arrived-heads t s at time number Tempo = refl
arrived-heads t s at time number Delay = refl
arrived-heads t s at time number Stop = refl
arrived-heads t s at time number Warp = refl

pub passed-heads : (early : Float) (t : Timing) (s : State) (n : Next) → let s' = passing early t s n in
    heads_after t.tempo_beats t.stop_beats t.delay_beats t.warp_beats (heads_of t.tempo_beats t.stop_beats t.delay_beats t.warp_beats s) s' n.kind ≡ heads_of t.tempo_beats t.stop_beats t.delay_beats t.warp_beats s'
unfolding event_passed
passed-heads early t s n = arrived-heads t s n.row _ _ n.kind
