-- The changes of raw lists that are taken: f32 beats that are allowed, in order, and values of a tempo's size; so the walk takes them. Assumes nothing.
use Prim.Native.Nat.{◌≤◌}
use mathlib.Core.Path.{◌≡◌, refl}
use mathlib.Core.Bool.{Bool, true, false}
use mathlib.Core.List.{List, [], ◌∷◌, map}
use native.Mathlib.Omega.{arith}
use lib.IntN.{pos, negsuc}
use lib.ListN.{length, length-map}
use lib.Ieee.{Float, inf, eq, le, lt}
use Rattle.ieee.specs.Constants.{plus_zero}
use Rattle.picks.specs.Pick.{pick}
use Rattle.ieee.proofs.Narrow.{narrow-fits}
use Rattle.limits.specs.declared.Kind.TheVariants.{RawBeat, RawTempo, TidyTempo, Tempo}
use Rattle.limits.specs.Numbers.{range_of, in_range, all_in, every, size_of, power}
use Rattle.limits.proofs.Every.{every_rest}
use Rattle.limits.proofs.ListTaken.{list-taken}
use Rattle.order.specs.Order.{NeverFalls}
use Rattle.order.specs.Entries.{entries, first, second}
use Rattle.order.proofs.Columns.{length-entries, entries-columns}
use Rattle.order.proofs.OrderedList.{Each, each-ordered, ordered-length, ordered_never_falls}
use Rattle.order.proofs.EachEntry.{each_so}
use Rattle.columns.specs.Kept.{kept}
use Rattle.columns.proofs.KeptLaid.{few-kept}
use Rattle.process_raw.specs.RawLists.{raw_number}
use Rattle.process_sm_changes.specs.SmChanges.{stays_sm, narrowed, stayed_sm, beat_key32, sm_changes}
use Rattle.process_sm_changes.proofs.Narrowed.{stays_says, beat-allowed, value_taken}
use Rattle.process_sm_walk.specs.Chart.{processed, TemposNumbers, Chart}
use Rattle.process_sm_walk.specs.Columns.{Columns, most_written}
use Rattle.process_sm_walk.specs.Walking.{is_number, walk_number}
use Rattle.process_sm_walk.specs.inside.Rooms.{Room}
use Rattle.process_sm_walk.proofs.Lengths.{Bounded, bounded}
use Rattle.process_sm_laws.specs.Beats.{Beat}
use Rattle.process_sm_laws.proofs.ChangesInOrder.{Beats}
use Rattle.process_sm_laws.proofs.WalkTaken.{walk-taken, tempos-numbers}

abbrev pub IsTempo : Float → Type 0
IsTempo x = in_range (range_of Tempo) x ≡ true

-- what is taken where 0 is not is taken where 0 is
pub tempo_or_zero : (x : Float) → IsTempo x → in_range (range_of TidyTempo) x ≡ true
unfolding in_range
tempo_or_zero x h = go (le (size_of x) (power (pos 30))) (le (power (negsuc 19)) (size_of x)) (eq (size_of x) plus_zero) (lt (size_of x) (inf false)) h
  where
    go : (most_written least level beyond : Bool) → pick most_written (pick least true (pick level false false)) (pick beyond false false) ≡ true → pick most_written (pick least true (pick level true false)) (pick beyond false false) ≡ true
    go true true level beyond k = refl
    go true false true beyond k = refl
    go true false false beyond k = k
    go false least level beyond k = k

-- a change of a list that is taken
pub record Good (e : Float × Float) : Type 0 where
  pub beat : Beat e.0
  pub value : IsTempo e.1

stayed-good : (beats values : List Float) → all_in (range_of RawBeat) beats ≡ true → all_in (range_of RawTempo) values ≡ true → Each beat_key32 Good (stayed_sm beats values)
unfolding entries kept
stayed-good [] values b v = tt
stayed-good (beat ∷ beats) [] b v = tt
stayed-good (beat ∷ beats) (value ∷ values) b v =
    let bs = every_rest (in_range (range_of RawBeat)) beat beats b in
    let vs = every_rest (in_range (range_of RawTempo)) value values v in
    go (stays_sm (beat, value)) refl (stayed-good beats values bs.1 vs.1) bs.0 vs.0
  where
    go : (t : Bool) → stays_sm (beat, value) ≡ t → Each beat_key32 Good (stayed_sm beats values) → in_range (range_of RawBeat) beat ≡ true → in_range (range_of RawTempo) value ≡ true
        → Each beat_key32 Good (pick t (narrowed (beat, value) ∷ stayed_sm beats values) (stayed_sm beats values))
    go true h rest p q =
        let says = stays_says beat value h in
        (record { beat = record { held = narrow-fits beat; allowed = beat-allowed beat says.beat_finite p }; value = value_taken false value says.value_finite says.other q }, rest)
    go false h rest p q = rest

pub same-columns : (list : List (Float × Float)) → length (map first list) ≡ length (map second list)
same-columns list = simp length-map

all-tempos : (list : List (Float × Float)) → Each beat_key32 Good list → all_in (range_of TidyTempo) (map second list) ≡ true
unfolding every
all-tempos [] p = refl
all-tempos (e ∷ list) p = rw (tempo_or_zero e.1 p.0.value) (all-tempos list p.1)

numbers : (list : List (Float × Float)) → Each beat_key32 Good list → every is_number (map second list) ≡ true
numbers list p = tempos-numbers (map second list) (all-tempos list p)

each_number : (list : List (Float × Float)) → every is_number (map second list) ≡ true → TemposNumbers list
each_number [] h = tt
each_number (e ∷ list) h = let k = every_rest is_number e.1 (map second list) h in (k.0, each_number list k.1)

module _ (beats values : List Float) (taken : raw_number beats values ≡ 0) where
  pub changes-good : Each beat_key32 Good (sm_changes beats values)
  changes-good = let raw = list-taken taken in each-ordered beat_key32 Good (stayed_sm beats values) (stayed-good beats values raw.beats_in raw.values_in)

  pub changes-numbers : every is_number (map second (sm_changes beats values)) ≡ true
  changes-numbers = numbers (sm_changes beats values) changes-good

  pub few-changes : length (sm_changes beats values) ≤ length beats
  few-changes = omega (arith, ordered-length beat_key32 (stayed_sm beats values), few-kept stays_sm narrowed (entries beats values), length-entries beats values (list-taken taken).even)

  pub changes-most : length (sm_changes beats values) ≤ 1024
  changes-most = omega (arith, few-changes, (list-taken taken).few)

  pub in_order : NeverFalls beat_key32 (sm_changes beats values)
  in_order = ordered_never_falls beat_key32 (stayed_sm beats values)

  pub on-beats : Beats (sm_changes beats values)
  on-beats = each_so beat_key32 (λ e g. g.beat) (sm_changes beats values) changes-good

  pub tempos_in : Each beat_key32 (λ (e : Float × Float). IsTempo e.1) (sm_changes beats values)
  tempos_in = each_so beat_key32 (λ e g. g.value) (sm_changes beats values) changes-good

module _ (tempo_beats tempo_values stop_beats stop_values : List Float) (t : raw_number tempo_beats tempo_values ≡ 0) (s : raw_number stop_beats stop_values ≡ 0) where
  pub chart : Chart (map first (sm_changes tempo_beats tempo_values)) (map second (sm_changes tempo_beats tempo_values)) (map first (sm_changes stop_beats stop_values)) (map second (sm_changes stop_beats stop_values))
  chart =
      let T = sm_changes tempo_beats tempo_values in
      record {
        tempos = same-columns T;
        stops = same-columns (sm_changes stop_beats stop_values);
        numbers = rw (entries-columns T) (each_number T (changes-numbers tempo_beats tempo_values t));
      }

  -- how much is written
  pub few-written : Bounded (length (sm_changes tempo_beats tempo_values)) (length (sm_changes stop_beats stop_values)) (processed (sm_changes tempo_beats tempo_values) (sm_changes stop_beats stop_values))
  few-written =
      let T = sm_changes tempo_beats tempo_values in
      let S = sm_changes stop_beats stop_values in
      rw (entries-columns T, entries-columns S, length-map T first, length-map S first) at (bounded (map first T) (map second T) (map first S) (map second S) chart)

  pub walk_takes : (into : Columns) → Room (most_written (length (sm_changes tempo_beats tempo_values)) (length (sm_changes stop_beats stop_values))) into
      → walk_number (map first (sm_changes tempo_beats tempo_values)) (map second (sm_changes tempo_beats tempo_values)) (map first (sm_changes stop_beats stop_values)) (map second (sm_changes stop_beats stop_values)) into ≡ 0
  walk_takes into room =
      let T = sm_changes tempo_beats tempo_values in
      let S = sm_changes stop_beats stop_values in
      walk-taken (map first T) (map second T) (map first S) (map second S) into (same-columns T) (same-columns S) (changes-numbers tempo_beats tempo_values t)
      (rw (length-map T first, length-map S first) room)
