-- The change that comes next, and what is left after it. Assumes nothing.
use Rattle.std.proofs.Common.{◌≡◌, ℕ, zero, suc, ◌<◌, ◌≤◌, Bool, true, false, List, [], ◌∷◌, length, get_or, drop, sym, refl, ap, ◌∙◌, add-one, arith, drop-cons, Some, None}
use lib.Ieee.{Float, le, nan}
use Rattle.order.proofs.Columns.{length-entries, entries-get_or}
use Rattle.process_sm_machine.specs.declared.Entry.{Entry}
use Rattle.process_sm_machine.specs.declared.Change.{Change}
use Rattle.process_sm_machine.specs.declared.Change.TheVariants.{Tempo, Stop}
use Rattle.order.specs.Entries.{entries}
use Rattle.process_sm_walk.specs.Changes.{entry_of, pair_of, tempo_of, stop_of, merged_changes, changes_left}
use Rattle.process_sm_walk.specs.inside.NextChange.{head_of, advanced}
use Rattle.process_sm_walk.specs.declared.Places.{Places}

abbrev pub at : List Float → List Float → ℕ → Float × Float
at beats values i = (get_or beats i nan, get_or values i nan)

-- the entries from a place on
pub entries_from : (beats values : List Float) (i : ℕ) → length beats ≡ length values → i < length beats
    → drop i (entries beats values) ≡ at beats values i ∷ drop (suc i) (entries beats values)
entries_from beats values i e h =
    drop-cons (entries beats values) i (nan, nan) (rw (length-entries beats values e) h)
    ∙ ap (λ (x : Float × Float). x ∷ drop (suc i) (entries beats values)) (entries-get_or beats values i nan nan e)

pub entries-end : (beats values : List Float) (i : ℕ) → length beats ≤ i → drop i (entries beats values) ≡ []
unfolding entries
entries-end [] values zero h = refl
entries-end [] values (suc i) h = refl
entries-end (b ∷ bs) values zero h = absurd (omega arith)
entries-end (b ∷ bs) [] (suc i) h = refl
entries-end (b ∷ bs) (v ∷ vs) (suc i) h = entries-end bs vs i (omega arith)

-- ---- the next change, by what is left of each list

abbrev pub rest_of_tempos : List (Float × Float) → Change → List (Float × Float)
rest_of_tempos [] change = []
rest_of_tempos (tempo ∷ tempos) (Tempo entry) = tempos
rest_of_tempos (tempo ∷ tempos) (Stop entry) = tempo ∷ tempos

abbrev pub rest_of_stops : List (Float × Float) → Change → List (Float × Float)
rest_of_stops [] change = []
rest_of_stops (stop ∷ stops) (Tempo entry) = stop ∷ stops
rest_of_stops (stop ∷ stops) (Stop entry) = stops

-- which list a change is from
abbrev pub From : List (Float × Float) → List (Float × Float) → Change → Type 0
From tempos stops (Tempo entry) = tempos ≡ pair_of entry ∷ rest_of_tempos tempos (Tempo entry)
From tempos stops (Stop entry) = stops ≡ pair_of entry ∷ rest_of_stops stops (Stop entry)

pub record Taken (tempos stops : List (Float × Float)) (change : Change) : Type 0 where
  pub same : merged_changes tempos stops ≡ change ∷ merged_changes (rest_of_tempos tempos change) (rest_of_stops stops change)
  pub from : From tempos stops change

taken-by : (tempo stop : Float × Float) (tempos stops : List (Float × Float)) (b : Bool) → le tempo.0 stop.0 ≡ b → (change : Change)
    → head_of (merged_changes (tempo ∷ tempos) (stop ∷ stops)) ≡ Some change → Taken (tempo ∷ tempos) (stop ∷ stops) change
taken-by tempo stop tempos stops true h change e =
    let c : change ≡ tempo_of tempo = let k = rw h at e in cc in
    rw c (record { same = rw h; from = refl })
taken-by tempo stop tempos stops false h change e =
    let c : change ≡ stop_of stop = let k = rw h at e in cc in
    rw c (record { same = rw h; from = refl })

pub taken : (tempos stops : List (Float × Float)) (change : Change) → head_of (merged_changes tempos stops) ≡ Some change → Taken tempos stops change
taken [] [] change e = absurd (let z : ◌≡◌ {A = ℕ} 0 1 = cc in omega arith)
taken [] (stop ∷ stops) change e = let c : change ≡ stop_of stop = cc in rw c (record { same = refl; from = refl })
taken (tempo ∷ tempos) [] change e = let c : change ≡ tempo_of tempo = cc in rw c (record { same = refl; from = refl })
taken (tempo ∷ tempos) (stop ∷ stops) change e = taken-by tempo stop tempos stops (le tempo.0 stop.0) refl change e

drop-next : (l : List (Float × Float)) (i : ℕ) (x : Float × Float) (xs : List (Float × Float)) → drop i l ≡ x ∷ xs → drop (suc i) l ≡ xs
drop-next [] zero x xs e = absurd (let z : ◌≡◌ {A = ℕ} 0 1 = cc in omega arith)
drop-next [] (suc i) x xs e = absurd (let z : ◌≡◌ {A = ℕ} 0 1 = cc in omega arith)
drop-next (y ∷ ys) zero x xs e = cc
drop-next (y ∷ ys) (suc i) x xs e = drop-next ys i x xs e

pub drop-within : (l : List (Float × Float)) (i : ℕ) (x : Float × Float) (xs : List (Float × Float)) → drop i l ≡ x ∷ xs → i < length l
drop-within [] zero x xs e = absurd (let z : ◌≡◌ {A = ℕ} 0 1 = cc in omega arith)
drop-within [] (suc i) x xs e = absurd (let z : ◌≡◌ {A = ℕ} 0 1 = cc in omega arith)
drop-within (y ∷ ys) zero x xs e = omega arith
drop-within (y ∷ ys) (suc i) x xs e = let h = drop-within ys i x xs e in omega arith

-- ---- one change further

tempos-left : (tempos : List (Float × Float)) (i : ℕ) (stops : List (Float × Float)) (change : Change) (places : Places) → places.tempo ≡ i → From (drop i tempos) stops change
    → rest_of_tempos (drop i tempos) change ≡ drop (advanced places change).tempo tempos
tempos-left tempos i stops (Tempo entry) places e f = rw (e, add-one i) (sym (drop-next tempos i (pair_of entry) (rest_of_tempos (drop i tempos) (Tempo entry)) f))
tempos-left tempos i stops (Stop entry) places e f = rw e (kept (drop i tempos))
  where
    kept : (l : List (Float × Float)) → rest_of_tempos l (Stop entry) ≡ l
    kept [] = refl
    kept (x ∷ l) = refl

stops-left : (stops : List (Float × Float)) (i : ℕ) (tempos : List (Float × Float)) (change : Change) (places : Places) → places.stop ≡ i → From tempos (drop i stops) change
    → rest_of_stops (drop i stops) change ≡ drop (advanced places change).stop stops
stops-left stops i tempos (Stop entry) places e f = rw (e, add-one i) (sym (drop-next stops i (pair_of entry) (rest_of_stops (drop i stops) (Stop entry)) f))
stops-left stops i tempos (Tempo entry) places e f = rw e (kept (drop i stops))
  where
    kept : (l : List (Float × Float)) → rest_of_stops l (Tempo entry) ≡ l
    kept [] = refl
    kept (x ∷ l) = refl

-- what is left, where the next change is this one
pub left-on : (tempos stops : List (Float × Float)) (places : Places) (change : Change) → head_of (changes_left tempos stops places) ≡ Some change
    → changes_left tempos stops places ≡ change ∷ changes_left tempos stops (advanced places change)
left-on tempos stops places change e =
    let t = taken (drop places.tempo tempos) (drop places.stop stops) change e in
    t.same ∙ rw (tempos-left tempos places.tempo (drop places.stop stops) change places refl t.from, stops-left stops places.stop (drop places.tempo tempos) change places refl t.from)

pub left_end : (changes : List Change) → head_of changes ≡ None → changes ≡ []
left_end [] e = refl
left_end (c ∷ cs) e = let z : ◌≡◌ {A = ℕ} 0 1 = cc in absurd (omega arith)

-- the place of the next change lies in its list
abbrev pub InList : List (Float × Float) → List (Float × Float) → Places → Change → Type 0
InList tempos stops places (Tempo entry) = places.tempo < length tempos
InList tempos stops places (Stop entry) = places.stop < length stops

in_list : (tempos stops : List (Float × Float)) (places : Places) (change : Change) → From (drop places.tempo tempos) (drop places.stop stops) change
    → InList tempos stops places change
in_list tempos stops places (Tempo entry) f = drop-within tempos places.tempo (pair_of entry) (rest_of_tempos (drop places.tempo tempos) (Tempo entry)) f
in_list tempos stops places (Stop entry) f = drop-within stops places.stop (pair_of entry) (rest_of_stops (drop places.stop stops) (Stop entry)) f

pub next_in_list : (tempos stops : List (Float × Float)) (places : Places) (change : Change) → head_of (changes_left tempos stops places) ≡ Some change → InList tempos stops places change
next_in_list tempos stops places change e = in_list tempos stops places change (taken (drop places.tempo tempos) (drop places.stop stops) change e).from

-- ---- the code's three tests

module _ (tb tv sb sv : List Float) (places : Places) (tl : length tb ≡ length tv) (sl : length sb ≡ length sv) where
  pub next-tempo : (tempo stop : Entry) → tempo ≡ entry_of (at tb tv places.tempo) → stop ≡ entry_of (at sb sv places.stop) → places.tempo < length tb → places.stop < length sb
      → le tempo.beat stop.beat ≡ true → Some (Tempo tempo) ≡ head_of (changes_left (entries tb tv) (entries sb sv) places)
  next-tempo tempo stop t s h k b = let b' = rw (t, s) at b in rw (t, entries_from tb tv places.tempo tl h, entries_from sb sv places.stop sl k, b')

  pub next-stop : (tempo stop : Entry) → tempo ≡ entry_of (at tb tv places.tempo) → stop ≡ entry_of (at sb sv places.stop) → places.tempo < length tb → places.stop < length sb
      → le tempo.beat stop.beat ≡ false → Some (Stop stop) ≡ head_of (changes_left (entries tb tv) (entries sb sv) places)
  next-stop tempo stop t s h k b = let b' = rw (t, s) at b in rw (s, entries_from tb tv places.tempo tl h, entries_from sb sv places.stop sl k, b')

  pub next_last_tempo : (tempo : Entry) → tempo ≡ entry_of (at tb tv places.tempo) → places.tempo < length tb → length sb ≤ places.stop
      → Some (Tempo tempo) ≡ head_of (changes_left (entries tb tv) (entries sb sv) places)
  next_last_tempo tempo t h k = rw (entries_from tb tv places.tempo tl h, entries-end sb sv places.stop k, ← t)

  pub next_last_stop : (stop : Entry) → stop ≡ entry_of (at sb sv places.stop) → length tb ≤ places.tempo → places.stop < length sb
      → Some (Stop stop) ≡ head_of (changes_left (entries tb tv) (entries sb sv) places)
  next_last_stop stop s h k = rw (entries-end tb tv places.tempo h, entries_from sb sv places.stop sl k, ← s)

  pub next-none : length tb ≤ places.tempo → length sb ≤ places.stop → None ≡ head_of (changes_left (entries tb tv) (entries sb sv) places)
  next-none h k = rw (entries-end tb tv places.tempo h, entries-end sb sv places.stop k)
