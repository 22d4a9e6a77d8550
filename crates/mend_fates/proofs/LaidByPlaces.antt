-- What the walk leaves in working memory, laid over lent rooms: a column read at the places that are kept, and the fates. Assumes nothing.
use mathlib.Core.Path.{◌≡◌, refl, ap, sym, ◌∙◌}
use mathlib.Core.Bool.{Bool}
use mathlib.Core.List.{List, [], ◌∷◌, map, map-map}
use Prim.Native.Nat.{ℕ, ◌≤◌}
use native.Mathlib.Omega.{arith}
use lib.ListN.{length, take, get_or, length-map}
use lib.Seq.{length-take-le}
use lib.Ieee.{Float, nan}
use Rattle.order.specs.Order.{laid}
use Rattle.order.specs.Entries.{entries, second}
use Rattle.order.proofs.Columns.{length-entries, entries-get_or}
use Rattle.rows.specs.RowKey.{row_key_at}
use Rattle.columns.specs.Each.{laid_each}
use Rattle.columns.specs.Laying.{given}
use Rattle.columns.proofs.Rooms.{nothing-given}
use Rattle.columns.proofs.EachOverFront.{each_over_front, copied_over_front}
use Rattle.tidy_kept.specs.Keeping.{row_of, nearby}
use Rattle.mend_fates.specs.Mending.{fates, fate_byte}
use Rattle.mend_fates.specs.MendedLists.{mended_list, fate_bytes}
use Rattle.mend_fates.specs.inside.Walking.{WalkedBeats}
use Rattle.mend_fates.proofs.KeptAreWritten.{one_each}

-- a refusal leaves the fates' room as it was
pub fates-left : (number : ℕ) (result old : List ℕ) → (number ≡ 0 → ⊥) → old ≡ laid (given number result) old
unfolding laid
fates-left number result old h = rw (nothing-given result number h)

module _ {W : Type 0} (none : W) (near : W → W → Bool) (beats : List Float) (values : List W) (same : length beats ≡ length values)
    {count : ℕ} {found kept : List ℕ} (w : WalkedBeats none near beats values count found kept) where
  pub many-written : count ≡ length (mended_list near (entries beats values))
  unfolding mended_list
  many-written = w.many

  pub found-long : length found ≡ length beats
  found-long =
      let raw = entries beats values in
      ap length w.fates_are ∙ length-map (fates (row_of row_key_at near) (nearby row_key_at near) raw) fate_byte ∙ one_each (row_of row_key_at near) (nearby row_key_at near) raw
      ∙ length-entries beats values same

  pub fates-laid : (old : List ℕ) {new : List ℕ} → length found ≤ length old → new ≡ laid_each (λ (x : ℕ). x) found old → new ≡ laid (given 0 (fate_bytes near (entries beats values))) old
  unfolding given fate_bytes
  fates-laid old room e = e ∙ copied_over_front found old room ∙ ap (λ (l : List ℕ). laid l old) w.fates_are

  -- a column, where it has at every place a part of the entry there
  pub column-laid : {B : Type 0} (part : Float × W → B) (column : List B) (other : B) (old : List B) {new : List B} → ((p : ℕ) → part (get_or (entries beats values) p (nan, none)) ≡ get_or column p other)
      → count ≤ length old → new ≡ laid_each (λ (p : ℕ). get_or column p other) (take count kept) old → new ≡ laid (map part (mended_list near (entries beats values))) old
  unfolding mended_list
  column-laid {B} part column other old reads room e =
      let short : length (take count kept) ≤ length old = omega (arith, length-take-le count kept w.fits) in
      e ∙ each_over_front (λ (p : ℕ). get_or column p other) (take count kept) old short
      ∙ ap (λ (l : List B). laid l old) (sym (by (take count kept)) ∙ sym (map-map part (λ (p : ℕ). get_or (entries beats values) p (nan, none)) (take count kept)) ∙ ap (map part) w.written)
    where
      by : (l : List ℕ) → map (λ (p : ℕ). part (get_or (entries beats values) p (nan, none))) l ≡ map (λ (p : ℕ). get_or column p other) l
      by [] = refl
      by (p ∷ l) = rw (reads p, by l)

  -- the beats among them
  pub beats-laid : (old : List Float) {new : List Float} → count ≤ length old → new ≡ laid_each (λ (p : ℕ). get_or beats p nan) (take count kept) old
      → new ≡ laid (map (λ (e : Float × W). e.0) (mended_list near (entries beats values))) old
  beats-laid old room e = column-laid (λ (x : Float × W). x.0) beats nan old (λ p. ap (λ (x : Float × W). x.0) (entries-get_or beats values p nan none same)) room e

  -- and what is read of the values
  pub values-laid : {B : Type 0} (part : W → B) (column : List B) (other : B) (old : List B) {new : List B} → ((p : ℕ) → part (get_or values p none) ≡ get_or column p other)
      → count ≤ length old → new ≡ laid_each (λ (p : ℕ). get_or column p other) (take count kept) old
      → new ≡ laid (map (λ (e : Float × W). part e.1) (mended_list near (entries beats values))) old
  values-laid part column other old reads room e =
      column-laid (λ (x : Float × W). part x.1) column other old (λ p. ap (λ (x : Float × W). part x.1) (entries-get_or beats values p nan none same) ∙ reads p) room e
