-- Each arrow keeps a state within its bounds and writes stops above 0 of at most 2 ^ 30 seconds: in a warp what is owed is never above 0, so a stop leaves no more of itself. Assumes nothing.
use Rattle.process_sm_machine.specs.declared.Entry.{Entry}
use Rattle.std.specs.Prelude.{Option, Some, None}
use Prim.Native.Nat.{ℕ, suc, ◌*◌, ◌^◌, ◌<◌}
use mathlib.Core.Logic.{inl, inr}
use mathlib.Core.Bool.{Bool, true, false, ◌&&◌}
use mathlib.Core.Path.{◌≡◌, refl}
use native.Mathlib.Nat.{zero-lt-suc}
use native.Mathlib.Omega.{arith}
use lib.Dec.{T, lit≤}
use lib.Ieee.{Float, binary32, add, sub, mul, div, lt, le, of_bits}
use lib.Ieee.Scale.{finite}
use Rattle.ieee.specs.Constants.{plus_zero32, sixty32}
use Rattle.picks.specs.Pick.{pick}
use Rattle.ieee.proofs.Magnitude.{AtMost, Sized}
use Rattle.ieee.proofs.SizesAddUp.{OfFormat, power_of_format, digits_of_format, at_most_finite, at_most_wider, add_at_most, sub_at_most, mul_at_most, div_at_most}
use Rattle.limits.proofs.TempoSizes.{tempo_at_most, tempo_at_least}
use Rattle.process_sm_machine.specs.declared.Change.{Change}
use Rattle.process_sm_machine.specs.declared.Change.TheVariants.{Tempo, Stop}
use Rattle.process_sm_machine.specs.declared.Opened.{Opened}
use Rattle.process_sm_machine.specs.declared.Warp.{Warp}
use Rattle.process_sm_machine.specs.declared.Warp.TheVariants.{Closed, Open}
use Rattle.process_sm_machine.specs.declared.State.{State}
use Rattle.process_sm_machine.specs.declared.Moved.{Moved}
use Rattle.process_sm_machine.proofs.Either.{either}
use Rattle.process_sm_machine.specs.Machine.{fastest, fits, entry_at, warp_over, still, open_chart, owed_at, settled_at, keep_warp, close_by_time, pass_in_warp, pass_by, pass, tempo_outside, tempo_by, meet_tempo, stop_outside, close_by_stop, begin_again, stop_in_warp, stop_by, meet_stop, meet, warp_end_of, finish_warp, finish_by, finish}
use Rattle.rows.proofs.Allowed.{allowed-sized}
use Rattle.process_sm_laws.specs.Beats.{Beat}
use Rattle.process_sm_laws.proofs.ChangesInOrder.{beat_naught}
use Rattle.process_sm_laws.proofs.Sides.{On, zero, add_side, mul_side, div_side, sub-forward, below_on, not_above_on, above_if_not_below, rest_at_most}
use Rattle.process_sm_laws.proofs.WarpLengths.{longest, quantized_at_most}
use Rattle.process_sm_laws.proofs.ChangesTaken.{IsTempo}

-- the tempo of a change, or the length of its stop
abbrev pub value_of : Change → Float
value_of (Tempo entry) = entry.value
value_of (Stop entry) = entry.value

-- ---- what is kept, and what is written

-- so many times 2 ^ 43 seconds, which is more than time or a stop adds to what is owed
abbrev pub spans : ℕ → ℕ
spans n = n * 2 ^ 43

-- a warp that is open: what is owed is not above 0, and at most n spans in size
pub record Owing (n : ℕ) (warp : Opened) : Type 0 where
  pub start : Beat warp.start
  pub former : IsTempo warp.former
  pub owed : AtMost (spans n) warp.owed
  pub not_above : On true warp.owed

abbrev pub WarpWithin : ℕ → Warp → Type 0
WarpWithin n Closed = Unit {0}
WarpWithin n (Open warp) = Owing n warp

pub record Within (n : ℕ) (state : State) : Type 0 where
  pub tempo : IsTempo state.tempo
  pub beat : Beat state.beat
  pub warp : WarpWithin n state.warp

-- a stop that is written
pub record IsStop (x : Float) : Type 0 where
  pub above : lt zero x ≡ true
  pub small : Sized 30 x

-- the length of a warp that is written
abbrev pub IsLength : Float → Type 0
IsLength x = AtMost longest x

abbrev pub Said : (Float → Type 0) → Option Entry → Type 0
Said P None = Unit {0}
Said P (Some entry) = P entry.value

pub record Kept (n : ℕ) (moved : Moved) : Type 0 where
  pub state : Within n moved.state
  pub stop : Said IsStop moved.stop
  pub warp : Said IsLength moved.warp

owing-more : {n : ℕ} {warp : Opened} → Owing n warp → Owing (suc n) warp
owing-more o = record { start = o.start; former = o.former; owed = at_most_wider (omega arith) o.owed; not_above = o.not_above }

warp-length : (start end : Float) → Said IsLength (warp_over start end)
unfolding warp_over
warp-length start end = either (Said IsLength) (lt start end) _ _ (quantized_at_most (sub binary32 end start)) tt

-- ---- numbers
nothing-owed : (n : ℕ) → AtMost (spans n) plus_zero32
unfolding of_bits
nothing-owed n = record { negative = false; num = 0; den = 1; den_pos = zero-lt-suc 0; value = (refl, refl); small = omega arith }

naught_not_above : (x : Float) → T (finite x) → lt plus_zero32 x ≡ false → On true x
unfolding of_bits
naught_not_above x F h = not_above_on x F h

sixty_at_most : AtMost 60 sixty32
unfolding of_bits
sixty_at_most = record { negative = false; num = 60; den = 1; den_pos = zero-lt-suc 0; value = (refl, refl); small = lit≤ tt }

spans-fine : (n : ℕ) → n < 2 ^ 24 → OfFormat binary32 (spans n)
spans-fine n h = digits_of_format binary32 n 43 h (lit≤ tt)

-- ---- time passes

-- the beats from one to another, 60 times as many, and the seconds that they take
abbrev pub between : Float → Float → Float
between last beat = sub binary32 beat last

abbrev pub sixtyfold : Float → Float → Float
sixtyfold last beat = mul binary32 (between last beat) sixty32

abbrev pub seconds : Float → Float → Float → Float
seconds tempo last beat = div binary32 (sixtyfold last beat) tempo

module _ (tempo last beat : Float) (t : IsTempo tempo) (l : Beat last) (b : Beat beat) where
  pub between_at_most : AtMost (2 ^ 17) (between last beat)
  between_at_most = sub_at_most binary32 (power_of_format binary32 17 (lit≤ tt)) beat last (allowed-sized beat b.allowed) (allowed-sized last l.allowed) (lit≤ tt)

  pub sixtyfold_at_most : AtMost (2 ^ 23) (sixtyfold last beat)
  sixtyfold_at_most = mul_at_most binary32 (power_of_format binary32 23 (lit≤ tt)) (between last beat) sixty32 between_at_most sixty_at_most (lit≤ tt)

  pub seconds_at_most : AtMost (2 ^ 43) (seconds tempo last beat)
  seconds_at_most = div_at_most binary32 (power_of_format binary32 43 (lit≤ tt)) (sixtyfold last beat) tempo sixtyfold_at_most (tempo_at_least tempo t) (lit≤ tt)

  -- under a negative tempo they aren't above 0
  seconds_not_above : T (le last beat) → lt plus_zero32 tempo ≡ false → On true (seconds tempo last beat)
  unfolding of_bits
  seconds_not_above forth h =
      let forward = sub-forward binary32 beat last (allowed-sized beat b.allowed) (allowed-sized last l.allowed) forth (at_most_finite between_at_most) in
      let upward = mul_side (between last beat) sixty32 between_at_most sixty_at_most binary32 false false forward (inl refl) (at_most_finite sixtyfold_at_most) in
      div_side binary32 (sixtyfold last beat) tempo sixtyfold_at_most (tempo_at_least tempo t) false true upward (not_above_on tempo (at_most_finite (tempo_at_most false tempo t)) h) (at_most_finite seconds_at_most)

  module _ (n : ℕ) (few : suc n < 2 ^ 24) (owed : Float) (o : AtMost (spans n) owed) where
    pub more_at_most : AtMost (spans (suc n)) (add binary32 owed (seconds tempo last beat))
    more_at_most = add_at_most binary32 (spans-fine (suc n) few) owed (seconds tempo last beat) o seconds_at_most (omega arith)

    pub owed_at_most : AtMost (spans (suc n)) (owed_at tempo last owed beat)
    unfolding owed_at
    owed_at_most = either (AtMost (spans (suc n))) (le tempo fastest) _ _ more_at_most (at_most_wider (omega arith) o)

    owed_not_above : T (le last beat) → On true owed → lt plus_zero32 tempo ≡ false → On true (owed_at tempo last owed beat)
    unfolding owed_at
    owed_not_above forth h k =
        either (On true) (le tempo fastest) _ _
        (add_side owed (seconds tempo last beat) o seconds_at_most binary32 true h (seconds_not_above forth k) (at_most_finite more_at_most))
        h

    owed_as_it_was : le tempo fastest ≡ false → owed_at tempo last owed beat ≡ owed
    unfolding owed_at
    owed_as_it_was h = rw h

module _ (n : ℕ) (few : suc n < 2 ^ 24) where
  module _ (tempo last beat : Float) (warp : Opened) (t : IsTempo tempo) (l : Beat last) (b : Beat beat) (forth : T (le last beat)) (o : Owing n warp) where
    abbrev then : Float
    then = owed_at tempo last warp.owed beat

    goes_on : On true then → Kept (suc n) (keep_warp tempo beat warp then)
    unfolding keep_warp
    goes_on h = record {
      state = record { tempo = t; beat = b; warp = record { start = o.start; former = o.former; owed = owed_at_most tempo last beat t l b n few warp.owed o.owed; not_above = h } };
      stop = tt;
      warp = tt;
    }

    is-over : Kept (suc n) (close_by_time tempo beat warp then)
    unfolding close_by_time
    is-over = record { state = record { tempo = t; beat = b; warp = tt }; stop = tt; warp = warp-length warp.start (settled_at tempo beat then) }

    in_warp_lem : Kept (suc n) (pass_in_warp tempo last warp beat)
    unfolding pass_in_warp fits
    in_warp_lem = go (lt plus_zero32 tempo) (le tempo fastest) (lt plus_zero32 then) refl refl refl
      where
        go : (a b c : Bool) → lt plus_zero32 tempo ≡ a → le tempo fastest ≡ b → lt plus_zero32 then ≡ c → Kept (suc n) (pick (a && b && c) (close_by_time tempo beat warp then) (keep_warp tempo beat warp then))
        go true true true p q r = is-over
        go true true false p q r = goes_on (naught_not_above then (at_most_finite (owed_at_most tempo last beat t l b n few warp.owed o.owed)) r)
        go true false c p q r = goes_on (rw (owed_as_it_was tempo last beat t l b n few warp.owed o.owed q) o.not_above)
        go false b' c p q r = goes_on (owed_not_above tempo last beat t l b n few warp.owed o.owed forth o.not_above p)

  pass_by_within : (warp : Warp) (tempo last beat : Float) → Within n (record { tempo = tempo; beat = last; warp = warp }) → Beat beat → T (le last beat) → Kept (suc n) (pass_by warp tempo last beat)
  pass_by_within Closed tempo last beat w b forth = record { state = record { tempo = w.tempo; beat = b; warp = tt }; stop = tt; warp = tt }
  pass_by_within (Open warp) tempo last beat w b forth = in_warp_lem tempo last beat warp w.tempo w.beat b forth w.warp

  pub pass-within : (state : State) (beat : Float) → Within n state → Beat beat → T (le state.beat beat) → Kept (suc n) (pass state beat)
  unfolding pass
  pass-within state beat w b forth = pass_by_within state.warp state.tempo state.beat beat w b forth

  -- ---- a tempo is met
  tempo_by_within : (warp : Warp) (former beat tempo : Float) → Within n (record { tempo = former; beat = beat; warp = warp }) → IsTempo tempo → Kept (suc n) (tempo_by warp former beat tempo)
  unfolding tempo_outside of_bits
  tempo_by_within Closed former beat tempo w t =
      either (Kept (suc n)) (fits tempo) _ _
      (record { state = record { tempo = t; beat = w.beat; warp = tt }; stop = tt; warp = tt })
      (record { state = record { tempo = t; beat = w.beat; warp = record { start = w.beat; former = w.tempo; owed = nothing-owed (suc n); not_above = inr refl } }; stop = tt; warp = tt })
  tempo_by_within (Open warp) former beat tempo w t = record { state = record { tempo = t; beat = w.beat; warp = owing-more w.warp }; stop = tt; warp = tt }

  -- ---- a stop is met
  module _ (tempo beat length : Float) (t : IsTempo tempo) (b : Beat beat) (s : IsTempo length) where
    stop-finite : T (finite length)
    stop-finite = at_most_finite (tempo_at_most false length s)

    outside : Kept (suc n) (stop_outside tempo beat length)
    unfolding stop_outside of_bits
    outside = go (lt length plus_zero32) refl
      where
        go : (a : Bool) → lt length plus_zero32 ≡ a
            → Kept (suc n) (pick a (still (record { tempo = tempo; beat = beat; warp = Open (record { start = beat; former = tempo; owed = length }) })) (record { state = record { tempo = tempo; beat = beat; warp = Closed }; tempo = None; stop = entry_at beat length; warp = None }))
        go true h = record { state = record { tempo = t; beat = b; warp = record { start = b; former = t; owed = at_most_wider (omega arith) (tempo_at_most false length s); not_above = below_on length stop-finite h } }; stop = tt; warp = tt }
        go false h = record { state = record { tempo = t; beat = b; warp = tt }; stop = record { above = above_if_not_below length (tempo_at_least length s) h; small = tempo_at_most false length s }; warp = tt }

    module _ (warp : Opened) (o : Owing n warp) where
      abbrev rest : Float
      rest = add binary32 warp.owed length

      pub rest-within : AtMost (spans (suc n)) rest
      rest-within = add_at_most binary32 (spans-fine (suc n) few) warp.owed length o.owed (tempo_at_most false length s) (omega arith)

      rest_is_stop : lt zero rest ≡ true → IsStop rest
      rest_is_stop h = record { above = h; small = rest_at_most binary32 (power_of_format binary32 30 (lit≤ tt)) warp.owed length o.owed (tempo_at_most false length s) o.not_above (at_most_finite rest-within) h }

      closed-by : lt zero rest ≡ true → Kept (suc n) (close_by_stop tempo beat warp rest)
      unfolding close_by_stop
      closed-by h = record { state = record { tempo = t; beat = b; warp = tt }; stop = rest_is_stop h; warp = warp-length warp.start beat }

      begun-again : lt zero rest ≡ true → Kept (suc n) (begin_again tempo beat warp rest)
      unfolding begin_again of_bits
      begun-again h = record { state = record { tempo = t; beat = b; warp = record { start = b; former = o.former; owed = nothing-owed (suc n); not_above = inr refl } }; stop = rest_is_stop h; warp = warp-length warp.start beat }

      kept_by : On true rest → Kept (suc n) (keep_warp tempo beat warp rest)
      unfolding keep_warp
      kept_by h = record { state = record { tempo = t; beat = b; warp = record { start = o.start; former = o.former; owed = rest-within; not_above = h } }; stop = tt; warp = tt }

      inside : Kept (suc n) (stop_in_warp tempo beat warp length)
      unfolding stop_in_warp of_bits
      inside = go (lt plus_zero32 length) (lt plus_zero32 rest) refl refl
        where
          go : (a c : Bool) → lt plus_zero32 length ≡ a → lt plus_zero32 rest ≡ c
              → Kept (suc n) (pick (a && c) (pick (fits tempo) (close_by_stop tempo beat warp rest) (begin_again tempo beat warp rest)) (keep_warp tempo beat warp rest))
          go true true p q = either (Kept (suc n)) (fits tempo) _ _ (closed-by q) (begun-again q)
          go true false p q = kept_by (not_above_on rest (at_most_finite rest-within) q)
          go false c p q = kept_by (add_side warp.owed length o.owed (tempo_at_most false length s) binary32 true o.not_above (not_above_on length stop-finite p) (at_most_finite rest-within))

  stop_by_within : (warp : Warp) (tempo beat length : Float) → Within n (record { tempo = tempo; beat = beat; warp = warp }) → IsTempo length → Kept (suc n) (stop_by warp tempo beat length)
  stop_by_within Closed tempo beat length w s = outside tempo beat length w.tempo w.beat s
  stop_by_within (Open warp) tempo beat length w s = inside tempo beat length w.tempo w.beat s warp w.warp

  -- a change that is met, of a tempo's size
  pub meet_within : (state : State) (change : Change) → Within n state → IsTempo (value_of change) → Kept (suc n) (meet state change)
  unfolding meet_tempo meet_stop
  meet_within state (Tempo entry) w t = tempo_by_within state.warp state.tempo state.beat entry.value w t
  meet_within state (Stop entry) w t = stop_by_within state.warp state.tempo state.beat entry.value w t

-- ---- the opening and the end
pub opening-within : (tempo : Float) → IsTempo tempo → Kept 0 (open_chart tempo)
unfolding open_chart
opening-within tempo t = record { state = record { tempo = t; beat = beat_naught; warp = tt }; stop = tt; warp = tt }

finish_by_within : (n : ℕ) (warp : Warp) (tempo beat : Float) → Within n (record { tempo = tempo; beat = beat; warp = warp }) → Kept n (finish_by warp tempo beat)
unfolding finish_warp
finish_by_within n Closed tempo beat w = record { state = w; stop = tt; warp = tt }
finish_by_within n (Open warp) tempo beat w = record { state = record { tempo = w.tempo; beat = w.beat; warp = tt }; stop = tt; warp = warp-length warp.start (warp_end_of tempo beat warp.owed) }

pub finish-within : (n : ℕ) (state : State) → Within n state → Kept n (finish state)
unfolding finish
finish-within n state w = finish_by_within n state.warp state.tempo state.beat w
