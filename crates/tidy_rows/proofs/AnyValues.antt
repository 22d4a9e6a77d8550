-- Row tidying is parametric in its values: it never looks at one, so what changes every value changes the tidied list's values, and nothing else. Assumes nothing.
use mathlib.Core.Path.{◌≡◌, refl, sym, ap, ◌∙◌}
use mathlib.Core.List.{List, [], ◌∷◌, map, map-map}
use lib.ListN.{length}
use lib.Ieee.{Float}
use Rattle.rows.specs.RowKey.{row_key_of, on_its_row}
use Rattle.order.specs.Order.{tidied}
use Rattle.order.specs.Entries.{entries, first, second}
use Rattle.order.proofs.TidiedList.{tidied-map}
use Rattle.order.proofs.Columns.{first-entries, second-entries}
use Rattle.tidy_rows.specs.RowTidying.{tidy_rows}

-- an entry with its value changed
abbrev pub changed : {X Y : Type 0} → (X → Y) → Float × X → Float × Y
changed g e = (e.0, g e.1)

module _ {X Y : Type 0} (g : X → Y) where
  entries-changed : (beats : List Float) (values : List X) → entries beats (map g values) ≡ map (changed g) (entries beats values)
  unfolding entries
  entries-changed [] values = refl
  entries-changed (b ∷ beats) [] = refl
  entries-changed (b ∷ beats) (v ∷ values) = ap (◌∷◌ (b, g v)) (entries-changed beats values)

  -- the law
  pub tidy-changed : (beats : List Float) (values : List X) → tidy_rows beats (map g values) ≡ map (changed g) (tidy_rows beats values)
  unfolding tidy_rows
  tidy-changed beats values =
      ap (λ (l : List (Float × Y)). map on_its_row (tidied row_key_of l)) (entries-changed beats values)
      ∙ ap (map on_its_row) (tidied-map (changed g) row_key_of (entries beats values))
      ∙ map-map on_its_row (changed g) (tidied row_key_of (entries beats values))
      ∙ sym (map-map (changed g) on_its_row (tidied row_key_of (entries beats values)))

  -- so the values are tidied as they are, and changed
  pub tidy-seconds : (beats : List Float) (values : List X) → map second (tidy_rows beats (map g values)) ≡ map g (map second (tidy_rows beats values))
  tidy-seconds beats values =
      ap (map second) (tidy-changed beats values) ∙ map-map second (changed g) (tidy_rows beats values) ∙ sym (map-map g second (tidy_rows beats values))

-- ---- values that are pairs: tidied together and taken apart, or each tidied over the same beats
module _ {A B : Type 0} (beats : List Float) (firsts : List A) (seconds : List B) (even : length firsts ≡ length seconds) where
  pub tidied-firsts : map (changed first) (tidy_rows beats (entries firsts seconds)) ≡ tidy_rows beats firsts
  tidied-firsts = sym (tidy-changed first beats (entries firsts seconds)) ∙ ap (tidy_rows beats) (first-entries firsts seconds even)

  pub tidied-seconds : map (changed second) (tidy_rows beats (entries firsts seconds)) ≡ tidy_rows beats seconds
  tidied-seconds = sym (tidy-changed second beats (entries firsts seconds)) ∙ ap (tidy_rows beats) (second-entries firsts seconds even)
