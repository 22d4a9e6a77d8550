-- The tempos that stay pass the tests of tempo tidying: a finite beat within its limit has a row within it, and a finite tempo is one that tidying takes. Assumes nothing.
use Prim.Native.Nat.{ℕ, ◌≤◌}
use mathlib.Core.Path.{◌≡◌, refl, sym, ◌∙◌}
use mathlib.Core.Bool.{Bool, true, false}
use mathlib.Core.List.{List, [], ◌∷◌, map}
use native.Mathlib.Omega.{arith}
use lib.Dec.{T}
use lib.ListN.{length, length-map}
use lib.Ieee.{Float, nan, inf, fin}
use lib.Ieee.Scale.{finite}
use Rattle.picks.specs.Pick.{pick}
use Rattle.rows.specs.Rows.{quantized}
use Rattle.rows.proofs.Quantizing.{quantized-allowed}
use Rattle.limits.specs.declared.Kind.TheVariants.{Beat, RawBeat, RawTempo, TidyTempo}
use Rattle.limits.specs.Numbers.{range_of, in_range, all_in, every, up_to, tempo}
use Rattle.limits.specs.Refusals.{list_number}
use Rattle.limits.proofs.Every.{every_rest}
use Rattle.limits.proofs.ListTaken.{list-taken, list-passes}
use Rattle.limits.proofs.TakenWithin.{finite-taken}
use Rattle.order.specs.Entries.{entries, first, second}
use Rattle.order.proofs.Columns.{length-entries}
use Rattle.columns.specs.Kept.{kept}
use Rattle.columns.proofs.KeptLaid.{few-kept}
use Rattle.process_raw.specs.RawLists.{raw_number}
use Rattle.rows.proofs.Allowed.{taken-allowed, allowed-taken}
use Rattle.process_ssc.specs.Ssc.{stays_ssc, quantized_entry, stayed_ssc}

-- what stays is finite
stays-finite : (beat value : Float) → stays_ssc (beat, value) ≡ true → T (finite beat) × T (finite value)
unfolding stays_ssc
stays-finite nan value h = let z : ◌≡◌ {A = ℕ} 0 1 = cc in absurd (omega arith)
stays-finite (inf s) value h = let z : ◌≡◌ {A = ℕ} 0 1 = cc in absurd (omega arith)
stays-finite (fin s m e) nan h = let z : ◌≡◌ {A = ℕ} 0 1 = cc in absurd (omega arith)
stays-finite (fin s m e) (inf t) h = let z : ◌≡◌ {A = ℕ} 0 1 = cc in absurd (omega arith)
stays-finite (fin s m e) (fin t n d) h = (tt, tt)

one-taken : (beat value : Float) → stays_ssc (beat, value) ≡ true → in_range (range_of RawBeat) beat ≡ true → in_range (range_of RawTempo) value ≡ true
    → (in_range (range_of Beat) (quantized beat) ≡ true) × (in_range (range_of TidyTempo) value ≡ true)
one-taken beat value t b v =
    let both = stays-finite beat value t in
    (allowed-taken (quantized beat) (quantized-allowed beat (taken-allowed beat (sym (finite-taken (up_to 16) beat both.0) ∙ b))), sym (finite-taken (tempo true) value both.1) ∙ v)

all-taken : (beats values : List Float) → all_in (range_of RawBeat) beats ≡ true → all_in (range_of RawTempo) values ≡ true
    → (all_in (range_of Beat) (map first (stayed_ssc beats values)) ≡ true) × (all_in (range_of TidyTempo) (map second (stayed_ssc beats values)) ≡ true)
unfolding entries kept every
all-taken [] values b v = (refl, refl)
all-taken (beat ∷ beats) [] b v = (refl, refl)
all-taken (beat ∷ beats) (value ∷ values) b v =
    let bs = every_rest (in_range (range_of RawBeat)) beat beats b in
    let vs = every_rest (in_range (range_of RawTempo)) value values v in
    go (stays_ssc (beat, value)) refl (all-taken beats values bs.1 vs.1) (λ t. one-taken beat value t bs.0 vs.0)
  where
    go : (t : Bool) → stays_ssc (beat, value) ≡ t
        → (all_in (range_of Beat) (map first (stayed_ssc beats values)) ≡ true) × (all_in (range_of TidyTempo) (map second (stayed_ssc beats values)) ≡ true)
        → (stays_ssc (beat, value) ≡ true → (in_range (range_of Beat) (quantized beat) ≡ true) × (in_range (range_of TidyTempo) value ≡ true))
        → (all_in (range_of Beat) (map first (pick t (quantized_entry (beat, value) ∷ stayed_ssc beats values) (stayed_ssc beats values))) ≡ true) × (all_in (range_of TidyTempo) (map second (pick t (quantized_entry (beat, value) ∷ stayed_ssc beats values) (stayed_ssc beats values))) ≡ true)
    go true e rest one = let here = one e in (rw here.0 rest.0, rw here.1 rest.1)
    go false e rest one = rest

pub tempos-taken : (beats values : List Float) → raw_number beats values ≡ 0 → list_number (range_of Beat) (range_of TidyTempo) (map first (stayed_ssc beats values)) (map second (stayed_ssc beats values)) ≡ 0
tempos-taken beats values h =
    let raw = list-taken h in
    let all = all-taken beats values raw.beats_in raw.values_in in
    let list = stayed_ssc beats values in
    let few : length list ≤ 1024 = omega (arith, few-kept stays_ssc quantized_entry (entries beats values), length-entries beats values raw.even, raw.few) in
    list-passes (range_of Beat) (range_of TidyTempo) (map first list) (map second list) (simp length-map few) (simp length-map) all.0 all.1
