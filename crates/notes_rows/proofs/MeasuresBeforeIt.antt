-- The beats of a measure go by how many measures stand before it, those without rows too. Assumes nothing.
use Prim.Native.Nat.{ℕ, suc, ◌+◌}
use mathlib.Core.List.{List, [], ◌∷◌, ◌++◌, append_assoc}
use mathlib.Core.Path.{◌≡◌, sym, ap, ◌∙◌}
use native.Mathlib.Nat.{zero-add}
use native.Mathlib.Omega.{arith}
use lib.ListN.{length}
use lib.Ieee.{Float}
use Rattle.notes_rows.specs.Measures.{measures, rows_of}
use Rattle.notes_rows.specs.RowBeats.{measure_beats, beats_from, rows_to_beats}

behind : (measure : ℕ) (before after : List (List ℕ)) → beats_from measure (before ++ after) ≡ beats_from measure before ++ beats_from (measure + length before) after
unfolding beats_from
behind measure [] after = ap (λ (n : ℕ). beats_from n after) (omega arith)
behind measure (bytes ∷ before) after =
    ap (λ (l : List Float). measure_beats measure (rows_of bytes) ++ l) (behind (suc measure) before after ∙ ap (λ (n : ℕ). beats_from (suc measure) before ++ beats_from n after) (omega arith))
    ∙ sym (append_assoc (measure_beats measure (rows_of bytes)) (beats_from (suc measure) before) (beats_from (measure + suc (length before)) after))

pub by_measures_before : (note_data : List ℕ) (before after : List (List ℕ)) (measure : List ℕ) → measures note_data ≡ before ++ measure ∷ after
    → rows_to_beats note_data ≡ beats_from 0 before ++ (measure_beats (length before) (rows_of measure) ++ beats_from (suc (length before)) after)
unfolding rows_to_beats beats_from
by_measures_before note_data before after measure split =
    ap (beats_from 0) split ∙ behind 0 before (measure ∷ after) ∙ ap (λ (n : ℕ). beats_from 0 before ++ beats_from n (measure ∷ after)) (zero-add (length before))
