-- Lists written into columns, one behind the other; from place 0 on they are laid over the front. Assumes nothing.
use Rattle.std.proofs.Common.{◌≡◌, ℕ, ◌+◌, ◌≤◌, List, [], ◌∷◌, ◌++◌, map, length, set, refl, ap, ◌∙◌, append_assoc, arith, length-append, length-set}
use mathlib.Core.List.{map-append}
use lib.ListN.{length-map}
use lib.Ieee.{Float}
use Rattle.order.specs.Order.{laid}
use Rattle.order.specs.Entries.{first, second}
use Rattle.process_sm_walk.specs.Chart.{Output, joined}
use Rattle.process_sm_walk.specs.Columns.{Columns}
use Rattle.process_sm_walk.specs.inside.Written.{laid_from, written_into, counted}
use Rattle.process_sm_walk.specs.declared.Counts.{Counts}

placed-more : (xs ys : List Float) (at : ℕ) (column : List Float) → laid_from at (xs ++ ys) column ≡ laid_from (at + length xs) ys (laid_from at xs column)
unfolding laid_from
placed-more [] ys at column = ap (λ (n : ℕ). laid_from n ys column) (omega arith)
placed-more (x ∷ xs) ys at column =
    placed-more xs ys (at + 1) (set column at x) ∙ ap (λ (n : ℕ). laid_from n ys (laid_from (at + 1) xs (set column at x))) (omega arith)

field-placed : (field : Float × Float → Float) (a b : List (Float × Float)) (at : ℕ) (column : List Float)
    → laid_from at (map field (a ++ b)) column ≡ laid_from (at + length a) (map field b) (laid_from at (map field a) column)
field-placed field a b at column = ap (λ (l : List Float). laid_from at l column) (map-append field a b) ∙ placed-more (map field a) (map field b) at column ∙ rw (length-map a field)

pub written-more : (counts : Counts) (a b : Output) (into : Columns) → written_into counts (joined a b) into ≡ written_into (counted counts a) b (written_into counts a into)
written-more counts a b into =
    rw (field-placed first a.tempos b.tempos counts.tempos into.tempo_beats, field-placed second a.tempos b.tempos counts.tempos into.tempo_values, field-placed first a.stops b.stops counts.stops into.stop_beats, field-placed second a.stops b.stops counts.stops into.stop_values, field-placed first a.warps b.warps counts.warps into.warp_beats, field-placed second a.warps b.warps counts.warps into.warp_lengths)

sum_more : (n : ℕ) (a b : List (Float × Float)) → n + length (a ++ b) ≡ n + length a + length b
sum_more n a b = simp length-append (omega arith)

pub counted-more : (counts : Counts) (a b : Output) → counted counts (joined a b) ≡ counted (counted counts a) b
counted-more counts a b = rw (sum_more counts.tempos a.tempos b.tempos, sum_more counts.stops a.stops b.stops, sum_more counts.warps a.warps b.warps)

pub placed-length : (xs : List Float) (at : ℕ) (column : List Float) → length (laid_from at xs column) ≡ length column
unfolding laid_from
placed-length [] at column = refl
placed-length (x ∷ xs) at column = placed-length xs (at + 1) (set column at x) ∙ length-set column at x

-- ---- from place 0 on: the list over the front of its column, what follows unchanged

set-behind : (front rest : List Float) (y x : Float) → set (front ++ (y ∷ rest)) (length front) x ≡ (front ++ (x ∷ [])) ++ rest
set-behind [] rest y x = refl
set-behind (z ∷ front) rest y x = ap (λ (l : List Float). z ∷ l) (set-behind front rest y x)

placed-behind : (xs front rest : List Float) (at : ℕ) → at ≡ length front → length xs ≤ length rest → laid_from at xs (front ++ rest) ≡ front ++ laid xs rest
unfolding laid_from laid
placed-behind [] front rest at e h = refl
placed-behind (x ∷ xs) front [] at e h = absurd (omega arith)
placed-behind (x ∷ xs) front (y ∷ rest) at e h =
    ap (λ (l : List Float). laid_from (at + 1) xs l) (ap (λ (n : ℕ). set (front ++ (y ∷ rest)) n x) e ∙ set-behind front rest y x)
    ∙ placed-behind xs (front ++ (x ∷ [])) rest (at + 1) (simp length-append (omega arith)) (omega arith)
    ∙ append_assoc front (x ∷ []) (laid xs rest)

pub placed-laid : (xs column : List Float) → length xs ≤ length column → laid_from 0 xs column ≡ laid xs column
placed-laid xs column h = placed-behind xs [] column 0 refl h
