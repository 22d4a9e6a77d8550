-- Each arrow writes nothing before what is written already, and tempos only that are in force. Assumes nothing.
use Rattle.process_sm_machine.specs.declared.Entry.{Entry}
use Rattle.std.specs.Prelude.{Option, None}
use Prim.Native.Nat.{ℕ, ◌≤◌}
use mathlib.Core.Bool.{Bool, ◌&&◌}
use mathlib.Core.List.{List}
use native.Mathlib.Omega.{arith}
use lib.Dec.{T}
use lib.Ieee.{Float, Format, binary32, add, sub, lt, eq}
use Rattle.ieee.specs.Constants.{plus_zero32}
use Rattle.picks.specs.Pick.{pick}
use Rattle.rows.specs.Rows.{quantized32, allowed_beat}
use Rattle.rows.proofs.Quantizing.{quantized32-allowed}
use Rattle.order.proofs.OrderedList.{Each}
use Rattle.process_sm_machine.specs.declared.Change.{Change}
use Rattle.process_sm_machine.specs.declared.Change.TheVariants.{Tempo, Stop}
use Rattle.process_sm_machine.specs.declared.Opened.{Opened}
use Rattle.process_sm_machine.specs.declared.Warp.{Warp}
use Rattle.process_sm_machine.specs.declared.Warp.TheVariants.{Closed, Open}
use Rattle.process_sm_machine.specs.declared.State.{State}
use Rattle.process_sm_machine.specs.declared.Moved.{Moved}
use Rattle.process_sm_machine.proofs.Either.{either}
use Rattle.process_sm_machine.specs.Machine.{fits, entry_at, warp_over, tempo_after, still, open_chart, owed_at, settled_at, keep_warp, close_by_time, pass_in_warp, pass_by, pass, tempo_outside, tempo_by, meet_tempo, stop_outside, close_by_stop, begin_again, stop_in_warp, stop_by, meet_stop, meet, warp_end_of, finish_warp, finish_by, finish}
use Rattle.process_sm_walk.specs.Chart.{written_list}
use Rattle.process_sm_laws.specs.Beats.{Beat, beat_key}
use Rattle.process_sm_laws.specs.inside.Keys.{at, spot}
use Rattle.process_sm_laws.proofs.BeatsOnRows.{spot_mono}
use Rattle.process_sm_laws.proofs.Segments.{Segment, none_between, one-between}

-- where the next entry of a warp or a tempo may stand: at the start of the warp that is open
abbrev pub low_in : Warp → Float → Float
low_in Closed beat = beat
low_in (Open warp) beat = warp.start

abbrev pub low_of : State → Float
low_of state = low_in state.warp state.beat

module _ (f : Format) (P : Float → Type 0) where
  -- a state whose beats are beats, and whose tempo is one of those that P has
  pub record Good (state : State) : Type 0 where
    pub beat : Beat state.beat
    pub low : Beat (low_of state)
    pub forth : at (low_of state) ≤ at state.beat
    pub tempo : P state.tempo

  abbrev pub OnRow : Float × Float → Type 0
  OnRow e = T (allowed_beat e.0)

  abbrev pub OneOf : Float × Float → Type 0
  OneOf e = T (allowed_beat e.0) × P e.1

  -- what an arrow from one state to another writes
  pub record Behind (before after : State) (tempos stops warps : List (Float × Float)) : Type 0 where
    pub tempo_order : Segment (beat_key f) (spot f (low_of before)) (spot f (low_of after)) tempos
    pub stop_order : Segment (beat_key f) (spot f before.beat) (spot f after.beat) stops
    pub warp_order : Segment (beat_key f) (spot f (low_of before)) (spot f (low_of after)) warps
    pub tempos_are : Each (beat_key f) OneOf tempos
    pub stops_are : Each (beat_key f) OnRow stops
    pub warps_are : Each (beat_key f) OnRow warps

  pub record Fair (before : State) (moved : Moved) : Type 0 where
    pub good : Good moved.state
    pub behind : Behind before moved.state (written_list moved.tempo) (written_list moved.stop) (written_list moved.warp)

  -- ---- one entry, or none

  module _ (beat value : Float) (b : Beat beat) (low high : ℕ) (h : low ≤ spot f beat) (k : spot f beat ≤ high) where
    entry-between : Segment (beat_key f) low high (written_list (entry_at beat value))
    entry-between = one-between (beat_key f) low high (quantized32 beat, value) h k

    entry_on_row : Each (beat_key f) OnRow (written_list (entry_at beat value))
    entry_on_row = (quantized32-allowed beat b.allowed, tt)

    entry_one_of : P value → Each (beat_key f) OneOf (written_list (entry_at beat value))
    entry_one_of p = ((quantized32-allowed beat b.allowed, p), tt)

    or_none : (t : Bool) → Segment (beat_key f) low high (written_list (pick t (entry_at beat value) None))
    or_none t = either (λ (w : Option Entry). Segment (beat_key f) low high (written_list w)) t _ _ entry-between (none_between (beat_key f) low high (omega arith))

  module _ (warp : Opened) (b : Beat warp.start) (low high : ℕ) (h : low ≤ spot f warp.start) (k : spot f warp.start ≤ high) where
    warp-between : (end : Float) → Segment (beat_key f) low high (written_list (warp_over warp.start end))
    unfolding warp_over
    warp-between end = or_none warp.start (quantized32 (sub binary32 end warp.start)) b low high h k (lt warp.start end)

    warp_on_row : (end : Float) → Each (beat_key f) OnRow (written_list (warp_over warp.start end))
    unfolding warp_over
    warp_on_row end =
        either (λ (w : Option Entry). Each (beat_key f) OnRow (written_list w)) (lt warp.start end) _ _
        (entry_on_row warp.start (quantized32 (sub binary32 end warp.start)) b low high h k) tt

    tempo-between : (tempo : Float) → Segment (beat_key f) low high (written_list (tempo_after warp tempo))
    unfolding tempo_after
    tempo-between tempo =
        either (λ (w : Option Entry). Segment (beat_key f) low high (written_list w)) (eq tempo warp.former) _ _
        (none_between (beat_key f) low high (omega arith)) (entry-between warp.start tempo b low high h k)

    tempo_one_of : (tempo : Float) → P tempo → Each (beat_key f) OneOf (written_list (tempo_after warp tempo))
    unfolding tempo_after
    tempo_one_of tempo p =
        either (λ (w : Option Entry). Each (beat_key f) OneOf (written_list w)) (eq tempo warp.former) _ _ tt
        (entry_one_of warp.start tempo b low high h k p)

  -- ---- nothing is written

  quiet : (before after : State) → Good after → spot f (low_of before) ≤ spot f (low_of after) → spot f before.beat ≤ spot f after.beat → Fair before (still after)
  quiet before after g h k = record {
    good = g;
    behind = record {
      tempo_order = none_between (beat_key f) (spot f (low_of before)) (spot f (low_of after)) h;
      stop_order = none_between (beat_key f) (spot f before.beat) (spot f after.beat) k;
      warp_order = none_between (beat_key f) (spot f (low_of before)) (spot f (low_of after)) h;
      tempos_are = tt;
      stops_are = tt;
      warps_are = tt;
    };
  }

  -- ---- the opening

  pub fair_opening : (tempo : Float) → Beat plus_zero32 → P tempo → Fair (open_chart tempo).state (open_chart tempo)
  unfolding open_chart
  fair_opening tempo b p = record {
    good = record { beat = b; low = b; forth = omega arith; tempo = p };
    behind = record {
      tempo_order = or_none plus_zero32 tempo b (spot f plus_zero32) (spot f plus_zero32) (omega arith) (omega arith) (fits tempo);
      stop_order = none_between (beat_key f) (spot f plus_zero32) (spot f plus_zero32) (omega arith);
      warp_order = none_between (beat_key f) (spot f plus_zero32) (spot f plus_zero32) (omega arith);
      tempos_are = either (λ (w : Option Entry). Each (beat_key f) OneOf (written_list w)) (fits tempo) _ _ (entry_one_of plus_zero32 tempo b (spot f plus_zero32) (spot f plus_zero32) (omega arith) (omega arith) p) tt;
      stops_are = tt;
      warps_are = tt;
    };
  }

  -- ---- time passes

  module _ (tempo last beat : Float) (warp : Opened) (g : Good (record { tempo = tempo; beat = last; warp = Open warp })) (b : Beat beat) (h : at last ≤ at beat) where
    ahead : spot f last ≤ spot f beat
    ahead = spot_mono last beat g.beat b f h

    start-ahead : spot f warp.start ≤ spot f beat
    start-ahead = spot_mono warp.start beat g.low b f (omega (arith, g.forth))

    fair_keep : (owed : Float) → Fair (record { tempo = tempo; beat = last; warp = Open warp }) (keep_warp tempo beat warp owed)
    unfolding keep_warp
    fair_keep owed = quiet _ _ (record { beat = b; low = g.low; forth = omega (arith, g.forth); tempo = g.tempo }) (omega arith) ahead

    fair_close_by_time : (owed : Float) → Fair (record { tempo = tempo; beat = last; warp = Open warp }) (close_by_time tempo beat warp owed)
    unfolding close_by_time
    fair_close_by_time owed = record {
      good = record { beat = b; low = b; forth = omega arith; tempo = g.tempo };
      behind = record {
        tempo_order = tempo-between warp g.low (spot f warp.start) (spot f beat) (omega arith) start-ahead tempo;
        stop_order = none_between (beat_key f) (spot f last) (spot f beat) ahead;
        warp_order = warp-between warp g.low (spot f warp.start) (spot f beat) (omega arith) start-ahead (settled_at tempo beat owed);
        tempos_are = tempo_one_of warp g.low (spot f warp.start) (spot f beat) (omega arith) start-ahead tempo g.tempo;
        stops_are = tt;
        warps_are = warp_on_row warp g.low (spot f warp.start) (spot f beat) (omega arith) start-ahead (settled_at tempo beat owed);
      };
    }

  fair_pass_by : (warp : Warp) (tempo last beat : Float) → Good (record { tempo = tempo; beat = last; warp = warp }) → Beat beat → at last ≤ at beat
      → Fair (record { tempo = tempo; beat = last; warp = warp }) (pass_by warp tempo last beat)
  unfolding pass_in_warp
  fair_pass_by Closed tempo last beat g b h =
      quiet _ _ (record { beat = b; low = b; forth = omega arith; tempo = g.tempo }) (spot_mono last beat g.beat b f h) (spot_mono last beat g.beat b f h)
  fair_pass_by (Open warp) tempo last beat g b h =
      either (Fair (record { tempo = tempo; beat = last; warp = Open warp })) (fits tempo && lt plus_zero32 (owed_at tempo last warp.owed beat)) _ _
      (fair_close_by_time tempo last beat warp g b h (owed_at tempo last warp.owed beat))
      (fair_keep tempo last beat warp g b h (owed_at tempo last warp.owed beat))

  pub fair_pass : (state : State) (beat : Float) → Good state → Beat beat → at state.beat ≤ at beat → Fair state (pass state beat)
  unfolding pass
  fair_pass state beat g b h = fair_pass_by state.warp state.tempo state.beat beat g b h

  -- ---- a tempo is met

  fair_tempo_by : (warp : Warp) (former beat tempo : Float) → Good (record { tempo = former; beat = beat; warp = warp }) → P tempo
      → Fair (record { tempo = former; beat = beat; warp = warp }) (tempo_by warp former beat tempo)
  unfolding tempo_outside
  fair_tempo_by Closed former beat tempo g p =
      either (Fair (record { tempo = former; beat = beat; warp = Closed })) (fits tempo) _ _
      (record {
        good = record { beat = g.beat; low = g.beat; forth = omega arith; tempo = p };
        behind = record {
          tempo_order = entry-between beat tempo g.beat (spot f beat) (spot f beat) (omega arith) (omega arith);
          stop_order = none_between (beat_key f) (spot f beat) (spot f beat) (omega arith);
          warp_order = none_between (beat_key f) (spot f beat) (spot f beat) (omega arith);
          tempos_are = entry_one_of beat tempo g.beat (spot f beat) (spot f beat) (omega arith) (omega arith) p;
          stops_are = tt;
          warps_are = tt;
        };
      })
      (quiet _ _ (record { beat = g.beat; low = g.beat; forth = omega arith; tempo = p }) (omega arith) (omega arith))
  fair_tempo_by (Open warp) former beat tempo g p =
      quiet _ _ (record { beat = g.beat; low = g.low; forth = g.forth; tempo = p }) (omega arith) (omega arith)

  -- ---- a stop is met

  module _ (tempo beat : Float) (warp : Opened) (g : Good (record { tempo = tempo; beat = beat; warp = Open warp })) where
    start_first : spot f warp.start ≤ spot f beat
    start_first = spot_mono warp.start beat g.low g.beat f g.forth

    fair_close_by_stop : (owed : Float) → Fair (record { tempo = tempo; beat = beat; warp = Open warp }) (close_by_stop tempo beat warp owed)
    unfolding close_by_stop
    fair_close_by_stop owed = record {
      good = record { beat = g.beat; low = g.beat; forth = omega arith; tempo = g.tempo };
      behind = record {
        tempo_order = tempo-between warp g.low (spot f warp.start) (spot f beat) (omega arith) start_first tempo;
        stop_order = entry-between beat owed g.beat (spot f beat) (spot f beat) (omega arith) (omega arith);
        warp_order = warp-between warp g.low (spot f warp.start) (spot f beat) (omega arith) start_first beat;
        tempos_are = tempo_one_of warp g.low (spot f warp.start) (spot f beat) (omega arith) start_first tempo g.tempo;
        stops_are = entry_on_row beat owed g.beat (spot f beat) (spot f beat) (omega arith) (omega arith);
        warps_are = warp_on_row warp g.low (spot f warp.start) (spot f beat) (omega arith) start_first beat;
      };
    }

    fair_begin_again : (owed : Float) → Fair (record { tempo = tempo; beat = beat; warp = Open warp }) (begin_again tempo beat warp owed)
    unfolding begin_again
    fair_begin_again owed = record {
      good = record { beat = g.beat; low = g.beat; forth = omega arith; tempo = g.tempo };
      behind = record {
        tempo_order = none_between (beat_key f) (spot f warp.start) (spot f beat) start_first;
        stop_order = entry-between beat owed g.beat (spot f beat) (spot f beat) (omega arith) (omega arith);
        warp_order = warp-between warp g.low (spot f warp.start) (spot f beat) (omega arith) start_first beat;
        tempos_are = tt;
        stops_are = entry_on_row beat owed g.beat (spot f beat) (spot f beat) (omega arith) (omega arith);
        warps_are = warp_on_row warp g.low (spot f warp.start) (spot f beat) (omega arith) start_first beat;
      };
    }

  fair_stop_by : (warp : Warp) (tempo beat length : Float) → Good (record { tempo = tempo; beat = beat; warp = warp })
      → Fair (record { tempo = tempo; beat = beat; warp = warp }) (stop_by warp tempo beat length)
  unfolding stop_outside stop_in_warp
  fair_stop_by Closed tempo beat length g =
      either (Fair (record { tempo = tempo; beat = beat; warp = Closed })) (lt length plus_zero32) _ _
      (quiet _ _ (record { beat = g.beat; low = g.beat; forth = omega arith; tempo = g.tempo }) (omega arith) (omega arith))
      (record {
        good = record { beat = g.beat; low = g.beat; forth = omega arith; tempo = g.tempo };
        behind = record {
          tempo_order = none_between (beat_key f) (spot f beat) (spot f beat) (omega arith);
          stop_order = entry-between beat length g.beat (spot f beat) (spot f beat) (omega arith) (omega arith);
          warp_order = none_between (beat_key f) (spot f beat) (spot f beat) (omega arith);
          tempos_are = tt;
          stops_are = entry_on_row beat length g.beat (spot f beat) (spot f beat) (omega arith) (omega arith);
          warps_are = tt;
        };
      })
  fair_stop_by (Open warp) tempo beat length g =
      either (Fair (record { tempo = tempo; beat = beat; warp = Open warp })) (lt plus_zero32 length && lt plus_zero32 (add binary32 warp.owed length)) _ _
      (either (Fair (record { tempo = tempo; beat = beat; warp = Open warp })) (fits tempo) _ _
      (fair_close_by_stop tempo beat warp g (add binary32 warp.owed length)) (fair_begin_again tempo beat warp g (add binary32 warp.owed length)))
      (fair_keep tempo beat beat warp g g.beat (omega arith) (add binary32 warp.owed length))

  -- a tempo that is met is one of those that P has
  abbrev pub ChangeIn : Change → Type 0
  ChangeIn (Tempo entry) = P entry.value
  ChangeIn (Stop entry) = Unit {0}

  pub fair_meet : (state : State) (change : Change) → Good state → ChangeIn change → Fair state (meet state change)
  unfolding meet_tempo meet_stop
  fair_meet state (Tempo entry) g p = fair_tempo_by state.warp state.tempo state.beat entry.value g p
  fair_meet state (Stop entry) g p = fair_stop_by state.warp state.tempo state.beat entry.value g

  -- ---- the end

  fair_finish_by : (warp : Warp) (tempo beat : Float) → Good (record { tempo = tempo; beat = beat; warp = warp })
      → Fair (record { tempo = tempo; beat = beat; warp = warp }) (finish_by warp tempo beat)
  unfolding finish_warp
  fair_finish_by Closed tempo beat g = quiet _ _ g (omega arith) (omega arith)
  fair_finish_by (Open warp) tempo beat g =
      let first = start_first tempo beat warp g in
      record {
        good = record { beat = g.beat; low = g.beat; forth = omega arith; tempo = g.tempo };
        behind = record {
          tempo_order = tempo-between warp g.low (spot f warp.start) (spot f beat) (omega arith) first tempo;
          stop_order = none_between (beat_key f) (spot f beat) (spot f beat) (omega arith);
          warp_order = warp-between warp g.low (spot f warp.start) (spot f beat) (omega arith) first (warp_end_of tempo beat warp.owed);
          tempos_are = tempo_one_of warp g.low (spot f warp.start) (spot f beat) (omega arith) first tempo g.tempo;
          stops_are = tt;
          warps_are = warp_on_row warp g.low (spot f warp.start) (spot f beat) (omega arith) first (warp_end_of tempo beat warp.owed);
        };
      }

  pub fair_finish : (state : State) → Good state → Fair state (finish state)
  unfolding finish
  fair_finish state g = fair_finish_by state.warp state.tempo state.beat g
