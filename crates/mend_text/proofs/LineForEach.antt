-- There is one line for each raw entry, in raw order: behind the lines of those before it, and before those of the others, it has its position and its fate. Assumes nothing.
use Prim.Native.Nat.{ℕ, suc, ◌+◌, ◌<◌}
use mathlib.Core.Path.{◌≡◌, sym, ap, ◌∙◌}
use mathlib.Core.Bool.{Bool}
use mathlib.Core.List.{List, [], ◌∷◌, ◌++◌, append_assoc}
use native.Mathlib.Omega.{arith}
use native.Mathlib.Numerals.{add-one}
use lib.ListN.{length, take, drop, get_or, take-append-drop}
use lib.Seq.{drop-cons, length-take-le}
use lib.Ieee.{Float}
use Rattle.mend_fates.specs.MendedLists.{fate_bytes}
use Rattle.mend_text.specs.MendedText.{fate_line, fate_lines}
use Rattle.mend_text.proofs.ListSizes.{as_many_fates}

lines_split : (at : ℕ) (a b : List ℕ) → fate_lines at (a ++ b) ≡ fate_lines at a ++ fate_lines (at + length a) b
unfolding fate_lines
lines_split at [] b =
    let here : at + 0 ≡ at = omega arith in
    rw here
lines_split at (fate ∷ a) b =
    let next : at + suc (length a) ≡ suc at + length a = omega arith in
    rw next (ap (λ (l : List ℕ). fate_line at fate ++ l) (lines_split (suc at) a b) ∙ sym (append_assoc (fate_line at fate) (fate_lines (suc at) a) (fate_lines (suc at + length a) b)))

lines_at : (fates : List ℕ) (i : ℕ) → i < length fates → fate_lines i (drop i fates) ≡ fate_line i (get_or fates i 0) ++ fate_lines (i + 1) (drop (i + 1) fates)
unfolding fate_lines
lines_at fates i h = rw (add-one i, drop-cons fates i 0 h)

module _ {W : Type 0} (near : W → W → Bool) (raw : List (Float × W)) (i : ℕ) (h : i < length raw) where
  abbrev fates : List ℕ
  fates = fate_bytes near raw

  pub line_for_each : fate_lines 0 (fate_bytes near raw)
      ≡ fate_lines 0 (take i (fate_bytes near raw)) ++ (fate_line i (get_or (fate_bytes near raw) i 0) ++ fate_lines (i + 1) (drop (i + 1) (fate_bytes near raw)))
  line_for_each =
      let within : i < length fates = omega (arith, as_many_fates near raw) in
      let front : 0 + length (take i fates) ≡ i = omega (arith, length-take-le i fates (omega arith)) in
      ap (fate_lines 0) (sym (take-append-drop i fates)) ∙ lines_split 0 (take i fates) (drop i fates)
      ∙ ap (λ (n : ℕ). fate_lines 0 (take i fates) ++ fate_lines n (drop i fates)) front ∙ ap (λ (l : List ℕ). fate_lines 0 (take i fates) ++ l) (lines_at fates i within)
