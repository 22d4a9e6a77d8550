-- How many bytes an entry has at most: any, and one of a list that is taken, so that 33 bytes for each entry always hold the text. Assumes nothing.
use Prim.Native.Nat.{ℕ, zero, suc, ◌*◌, ◌^◌, ◌≤◌}
use mathlib.Core.Path.{◌≡◌, refl, sym, subst, ◌∙◌}
use mathlib.Core.Bool.{true, false}
use mathlib.Core.List.{List, [], ◌∷◌, ◌++◌, map, map-id}
use native.Mathlib.Omega.{arith}
use lib.Dec.{T}
use lib.ListN.{length, length-append}
use lib.Ieee.{Float, nan, inf, fin, of_bits, binary32, unlike, div, up, down}
use lib.Ieee.Fits.{down_pos}
use lib.Ieee.Scale.{finite}
use Rattle.ieee.specs.Constants.{sixty32}
use Rattle.ieee.specs.Narrowing.{narrow, convert}
use Rattle.ieee.proofs.ByValue.{div_value}
use Rattle.ieee.proofs.Magnitude.{AtMost, Sized}
use Rattle.ieee.proofs.SizesAddUp.{power_of_format, round_at_most, mul_at_most}
use Rattle.limits.specs.declared.Kind.TheVariants.{Beat, RawTempo}
use Rattle.limits.specs.Numbers.{range_of, in_range, all_in, tempo}
use Rattle.limits.proofs.Every.{every_rest}
use Rattle.limits.proofs.ListTaken.{list-taken}
use Rattle.limits.proofs.TakenWithin.{finite-taken}
use Rattle.limits.proofs.TempoSizes.{tempo_at_most}
use Rattle.order.specs.Entries.{entries}
use Rattle.rows.specs.Rows.{quantized32, allowed_beat}
use Rattle.rows.proofs.Allowed.{taken-allowed, allowed-sized}
use Rattle.rows.proofs.Quantizing.{narrow-allowed, quantized32-allowed}
use Rattle.text_decimal.proofs.TextSizes.{dec6-size, dec6-within, own-most}
use Rattle.text_tempos.specs.TempoText.{roundtrip, entry_text, behind_commas, commas_between, tempo_text}
use Rattle.text_tempos.specs.Answers.{tempo_text_tests, most_entry_bytes}
use Rattle.text_tempos.specs.inside.TextsLeft.{comma_before}

-- ---- any entry
comma-most : (i : ℕ) → length (comma_before i) ≤ 1
comma-most zero = omega arith
comma-most (suc i) = omega arith

pub entry-most : (i : ℕ) (beat bpm : Float) → length (comma_before i ++ entry_text (beat, bpm)) ≤ 96
unfolding entry_text
entry-most i beat bpm = simp length-append (omega (arith, comma-most i, dec6-size (quantized32 beat), dec6-size (roundtrip bpm)))

-- ---- a tempo of at most 2 ^ 30, there and back: beats a second are below 2 ^ 25, and 60 times as many below 2 ^ 31, which has ten digits
sixty-most : AtMost 60 sixty32
unfolding of_bits
sixty-most = record { negative = false; num = 60; den = 1; den_pos = omega arith; value = (refl, refl); small = omega arith }

a_second_most : (x : Float) → Sized 30 x → AtMost (2 ^ 25) (div binary32 x sixty32)
unfolding sixty-most
a_second_most x v =
    subst (AtMost (2 ^ 25)) (sym (div_value binary32 x sixty32 v.negative false v.num v.den 60 1 v.den_pos (omega arith) (omega arith) v.value sixty-most.value))
    (round_at_most binary32 (power_of_format binary32 25 (omega arith)) (unlike v.negative false) (v.num * 1) (60 * v.den) (omega arith) (omega arith))

zero-most : AtMost (2 ^ 31) (roundtrip nan)
unfolding roundtrip of_bits
zero-most = record { negative = false; num = 0; den = 1; den_pos = omega arith; value = (refl, refl); small = omega arith }

roundtrip-most : (t : Float) → (T (finite t) → Sized 30 t) → AtMost (2 ^ 31) (roundtrip t)
unfolding roundtrip
roundtrip-most nan v = zero-most
roundtrip-most (inf s) v = zero-most
roundtrip-most (fin s m e) v =
    mul_at_most binary32 (power_of_format binary32 31 (omega arith)) (div binary32 (fin s m e) sixty32) sixty32 (a_second_most (fin s m e) (v tt)) sixty-most (omega arith)

entry-taken : (beat bpm : Float) → T (allowed_beat beat) → (T (finite bpm) → Sized 30 bpm) → length (entry_text (beat, bpm)) ≤ 32
unfolding entry_text
entry-taken beat bpm b t =
    simp length-append
    (omega (
      arith,
      dec6-within 5 (quantized32 beat) (omega arith) (omega arith) (omega arith) (allowed-sized (quantized32 beat) (quantized32-allowed beat b)),
      dec6-within 10 (roundtrip bpm) (omega arith) (omega arith) (omega arith) (roundtrip-most bpm t),
    ))

-- ---- what a number is as an f32: itself, or narrowed
record AsF32 (as32 : Float → Float) : Type 0 where
  beats : (x : Float) → in_range (range_of Beat) x ≡ true → T (allowed_beat (as32 x))
  tempos : (x : Float) → in_range (range_of RawTempo) x ≡ true → T (finite (as32 x)) → Sized 30 (as32 x)

raw-sized : (x : Float) → in_range (range_of RawTempo) x ≡ true → T (finite x) → Sized 30 x
raw-sized x h f = tempo_at_most true x (sym (finite-taken (tempo true) x f) ∙ h)

narrow-sized : (x : Float) → in_range (range_of RawTempo) x ≡ true → T (finite (narrow x)) → Sized 30 (narrow x)
unfolding narrow convert
narrow-sized nan h f = absurd f
narrow-sized (inf s) h f = absurd f
narrow-sized (fin s m e) h f =
    round_at_most binary32 (power_of_format binary32 30 (omega arith)) s (m * up e) (down e) (down_pos e) (own-most s m e (raw-sized (fin s m e) h tt))

narrowed : AsF32 narrow
narrowed = record { beats = λ x h. narrow-allowed x (taken-allowed x h); tempos = narrow-sized }

itself : AsF32 (λ (x : Float). x)
itself = record { beats = taken-allowed; tempos = raw-sized }

-- ---- the whole text
module _ (as32 : Float → Float) (held : AsF32 as32) where
  behind-most : (beats tempos : List Float) → all_in (range_of Beat) beats ≡ true → all_in (range_of RawTempo) tempos ≡ true
      → length (behind_commas (map entry_text (entries (map as32 beats) (map as32 tempos)))) ≤ 33 * length beats
  unfolding behind_commas entries
  behind-most [] tempos b t = omega arith
  behind-most (beat ∷ beats) [] b t = omega arith
  behind-most (beat ∷ beats) (bpm ∷ tempos) b t =
      let bs = every_rest (in_range (range_of Beat)) beat beats b in
      let ts = every_rest (in_range (range_of RawTempo)) bpm tempos t in
      simp length-append
      (omega (
        arith,
        entry-taken (as32 beat) (as32 bpm) (held.beats beat bs.0) (held.tempos bpm ts.0),
        behind-most beats tempos bs.1 ts.1,
      ))

between-most : (texts : List (List ℕ)) → length (commas_between texts) ≤ length (behind_commas texts)
unfolding commas_between behind_commas
between-most [] = omega arith
between-most (text ∷ texts) = omega arith

module _ (beats tempos : List Float) (taken : tempo_text_tests beats tempos ≡ 0) where
  -- SO MANY BYTES ARE ALWAYS ENOUGH
  pub text_most_f32 : length (tempo_text beats tempos) ≤ most_entry_bytes * length beats
  unfolding tempo_text
  text_most_f32 =
      let list = list-taken taken in
      let most = behind-most (λ (x : Float). x) itself beats tempos list.beats_in list.values_in in
      let own : length (behind_commas (map entry_text (entries beats tempos))) ≤ 33 * length beats = rw (map-id beats, map-id tempos) at most in
      omega (arith, between-most (map entry_text (entries beats tempos)))

  pub text-most : length (tempo_text (map narrow beats) (map narrow tempos)) ≤ most_entry_bytes * length beats
  unfolding tempo_text
  text-most =
      let list = list-taken taken in
      omega (
        arith,
        behind-most narrow narrowed beats tempos list.beats_in list.values_in,
        between-most (map entry_text (entries (map narrow beats) (map narrow tempos))),
      )
