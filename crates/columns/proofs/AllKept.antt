-- Where as many are kept as there are, each is: the columns are those given, each number changed. Assumes nothing.
use mathlib.Core.Path.{◌≡◌, refl, ap, ◌∙◌}
use mathlib.Core.Bool.{Bool, true, false}
use mathlib.Core.List.{List, [], ◌∷◌, map}
use native.Mathlib.Omega.{arith}
use lib.ListN.{length}
use Rattle.picks.specs.Pick.{pick}
use Rattle.order.specs.Entries.{entries, first, second}
use Rattle.order.proofs.Columns.{length-entries}
use Rattle.columns.specs.Kept.{kept}
use Rattle.columns.proofs.KeptLaid.{few-kept}

all-kept : {X Y : Type 0} (test : X → Bool) (change : X → Y) (xs : List X) → length (kept test change xs) ≡ length xs → kept test change xs ≡ map change xs
unfolding kept
all-kept test change [] h = refl
all-kept test change (x ∷ xs) h = go (test x) (λ e. all-kept test change xs e) h
  where
    go : (t : Bool) → (length (kept test change xs) ≡ length xs → kept test change xs ≡ map change xs) → length (pick t (change x ∷ kept test change xs) (kept test change xs)) ≡ length (x ∷ xs) → pick t (change x ∷ kept test change xs) (kept test change xs) ≡ change x ∷ map change xs
    go true rest e = ap (◌∷◌ (change x)) (rest (omega arith))
    go false rest e = absurd (omega (arith, few-kept test change xs))

module _ {A B C D : Type 0} (f : A → C) (g : B → D) where
  abbrev both : A × B → C × D
  both e = (f e.0, g e.1)

  changed : (firsts : List A) (seconds : List B) → length firsts ≡ length seconds
      → (map first (map both (entries firsts seconds)) ≡ map f firsts) × (map second (map both (entries firsts seconds)) ≡ map g seconds)
  unfolding entries
  changed [] [] h = (refl, refl)
  changed [] (b ∷ seconds) h = absurd (omega arith)
  changed (a ∷ firsts) [] h = absurd (omega arith)
  changed (a ∷ firsts) (b ∷ seconds) h = let rest = changed firsts seconds (omega arith) in (ap (◌∷◌ (f a)) rest.0, ap (◌∷◌ (g b)) rest.1)

  pub all_changed : (test : A × B → Bool) (firsts : List A) (seconds : List B) → length firsts ≡ length seconds → length (kept test both (entries firsts seconds)) ≡ length firsts
      → (map first (kept test both (entries firsts seconds)) ≡ map f firsts) × (map second (kept test both (entries firsts seconds)) ≡ map g seconds)
  all_changed test firsts seconds even many =
      let all = all-kept test both (entries firsts seconds) (omega (arith, many, length-entries firsts seconds even)) in
      let columns = changed firsts seconds even in
      (ap (map first) all ∙ columns.0, ap (map second) all ∙ columns.1)
