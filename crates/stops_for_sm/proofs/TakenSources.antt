-- Lists that are taken are short, and their beats are finite. Assumes nothing.
use Rattle.std.proofs.Common.{◌≡◌, ℕ, zero, suc, ◌*◌, ◌%◌, ◌<◌, ◌≤◌, Bool, true, false, ltb, List, [], ◌∷◌, length, get_or, refl, le_of_suc-le-suc, arith, ltb-false, eq-eqb, eqb-true}
use lib.Ieee.{Float, nan, inf, fin, neg, level, lt, le, eq, up, down}
use Rattle.picks.specs.Pick.{pick}
use Rattle.limits.specs.declared.Kind.TheVariants.{Beat, Tempo, Pause, Value}
use Rattle.limits.specs.Numbers.{range_of, up_to, in_range, every, all_in}
use Rattle.limits.specs.Refusals.{lower, list_number}
use Rattle.limits.proofs.NoRefusal.{lower-none}
use Rattle.limits.proofs.ListTaken.{Taken, list-taken}
use Rattle.stops_for_sm.specs.Merging.{Sources}
use Rattle.stops_for_sm.specs.Plain.{AllFinite, Plain}
use Rattle.stops_for_sm.specs.Filling.{is_even, beats_in, values_in, flat_number, sources_number}

no {ℓ} : {A : Type ℓ} → false ≡ true → A
no h = let z : ◌≡◌ {A = ℕ} 0 1 = cc in absurd (omega arith)

first_two : (b c : Bool) → pick b c false ≡ true → (b ≡ true) × (c ≡ true)
first_two true c h = (refl, h)
first_two false c h = no h

-- ---- a number in a range is finite
record Finite (x : Float) : Type 0 where
  same : eq x x ≡ true
  below : lt x (inf false) ≡ true

finite_in : (k : ℕ) (x : Float) → in_range (up_to k) x ≡ true → Finite x
unfolding in_range le lt eq neg
finite_in k nan h = no h
finite_in k (inf true) h = no h
finite_in k (inf false) h = no h
finite_in k (fin s m e) h = record { same = self s (m * up e * down e); below = refl }
  where
    self : (s : Bool) (n : ℕ) → level s n s n ≡ true
    self true n = rw (eq-eqb n n refl)
    self false n = rw (eq-eqb n n refl)

-- ---- every number of a list
at : (k : ℕ) (list : List Float) → all_in (up_to k) list ≡ true → (i : ℕ) → i < length list → Finite (get_or list i nan)
unfolding every
at k [] h i p = absurd (omega arith)
at k (x ∷ list) h zero p = finite_in k x (first_two (in_range (up_to k) x) (all_in (up_to k) list) h).0
at k (x ∷ list) h (suc i) p = at k list (first_two (in_range (up_to k) x) (all_in (up_to k) list) h).1 i (le_of_suc-le-suc p)

numbers : (k : ℕ) (list : List Float) → all_in (up_to k) list ≡ true → AllFinite list
numbers k list h = record { same = λ i p. (at k list h i p).same; below = λ i p. (at k list h i p).below }

flat-at : (k j : ℕ) (list : List Float) → beats_in (up_to k) list ≡ true → values_in (up_to j) list ≡ true → (i : ℕ) → i < length list → Finite (get_or list i nan)
unfolding beats_in values_in
flat-at k j [] h g i p = absurd (omega arith)
flat-at k j (x ∷ []) h g zero p = finite_in k x h
flat-at k j (x ∷ []) h g (suc i) p = absurd (omega arith)
flat-at k j (x ∷ v ∷ list) h g zero p = finite_in k x (first_two (in_range (up_to k) x) (beats_in (up_to k) list) h).0
flat-at k j (x ∷ v ∷ list) h g (suc zero) p = finite_in j v (first_two (in_range (up_to j) v) (values_in (up_to j) list) g).0
flat-at k j (x ∷ v ∷ list) h g (suc (suc i)) p =
    flat-at k j list (first_two (in_range (up_to k) x) (beats_in (up_to k) list) h).1 (first_two (in_range (up_to j) v) (values_in (up_to j) list) g).1 i (le_of_suc-le-suc (le_of_suc-le-suc p))

record FlatTaken (list : List Float) : Type 0 where
  few : length list ≤ 2048
  pairs : length list % 2 ≡ 0
  plain : AllFinite list

by_tests : (long even beats values : Bool) → ◌≡◌ {A = ℕ} (pick long 1 (pick even (pick beats (pick values 0 4) 3) 2)) 0 → (long ≡ false) × (even ≡ true) × (beats ≡ true) × (values ≡ true)
by_tests false true true true h = (refl, refl, refl, refl)
by_tests true even beats values h = absurd (omega arith)
by_tests false false beats values h = absurd (omega arith)
by_tests false true false values h = absurd (omega arith)
by_tests false true true false h = absurd (omega arith)

flat-taken : (list : List Float) → flat_number (range_of Beat) (range_of Pause) list ≡ 0 → FlatTaken list
unfolding flat_number
flat-taken list h =
    let t = by_tests (ltb 2048 (length list)) (is_even (length list)) (beats_in (range_of Beat) list) (values_in (range_of Pause) list) h in
    record {
      few = ltb-false 2048 (length list) t.0;
      pairs = eqb-true (length list % 2) 0 t.1;
      plain = record { same = λ i p. (flat-at 16 50 list t.2 t.3 i p).same; below = λ i p. (flat-at 16 50 list t.2 t.3 i p).below };
    }

pub record SourcesTaken (s : Sources) : Type 0 where
  pub plain : Plain s
  pub stops : length s.stops ≤ 2048
  pub delays : length s.delay_beats ≤ 1024
  pub warps : length s.warp_beats ≤ 1024

pub sources-taken : (s : Sources) (size : ℕ) → sources_number s size ≡ 0 → SourcesTaken s
unfolding sources_number
sources-taken s size h =
    let tempos = list_number (range_of Beat) (range_of Tempo) s.tempo_beats s.tempo_values in
    let flat = flat_number (range_of Beat) (range_of Pause) s.stops in
    let delays = list_number (range_of Beat) (range_of Pause) s.delay_beats s.delay_values in
    let warps = list_number (range_of Beat) (range_of Value) s.warp_beats s.warp_lengths in
    let even : ℕ = pick (is_even size) 0 2 in
    let all = lower-none (lower tempos flat) (lower (lower delays warps) even) h in
    let own = flat-taken s.stops (lower-none tempos flat all.0).1 in
    let others = lower-none delays warps (lower-none (lower delays warps) even all.1).0 in
    let d : Taken (range_of Beat) (range_of Pause) s.delay_beats s.delay_values = list-taken others.0 in
    let w : Taken (range_of Beat) (range_of Value) s.warp_beats s.warp_lengths = list-taken others.1 in
    record {
      plain = record {
        stops = own.plain;
        delays = numbers 16 s.delay_beats d.beats_in;
        warps = numbers 16 s.warp_beats w.beats_in;
        stop_pairs = own.pairs;
        delay_columns = d.even;
        warp_columns = w.even;
      };
      stops = own.few;
      delays = d.few;
      warps = w.few;
    }
