-- One turn of the loop over the bytes: what holds of the state, and of each column; and what a store of nothing leaves alone. Assumes nothing.
use Prim.Native.Nat.{ℕ, ◌+◌, ◌≤◌, ◌<◌}
use mathlib.Core.Path.{◌≡◌, sym, ◌∙◌}
use mathlib.Core.Bool.{false}
use mathlib.Core.List.{List}
use native.Mathlib.Numerals.{add-one}
use lib.Dec.{eqb}
use lib.ListN.{length, set, drop, get_or, drop_of_length-le}
use lib.Seq.{drop-cons, set_out}
use borrow.Author.Tests.{eq-eqb}
use Rattle.report_form.specs.declared.Reading.{Reading}
use Rattle.report_form.specs.declared.Store.{Store}
use Rattle.report_form.specs.Form.{step_of, read_on}
use Rattle.report_form.specs.Stores.{store_of, column_after, stored_in, count_in}

-- the state after i bytes leads where the first one leads
abbrev pub Read : List ℕ → Reading → Reading → ℕ → Type 0
Read chunk begun reading i = read_on reading (drop i chunk) ≡ read_on begun chunk

-- so does a column, which keeps its length
pub record Column {A : Type 0} (change : Store → List A → List A) (chunk : List ℕ) (begun : Reading) (old : List A) (reading : Reading) (now : List A) (i : ℕ) : Type 0 where
  pub size : length now ≡ length old
  pub same : column_after change reading (drop i chunk) now ≡ column_after change begun chunk old

pub read-turn : (chunk : List ℕ) (begun reading next : Reading) (i : ℕ) → i < length chunk → next ≡ step_of reading (get_or chunk i 0) → Read chunk begun reading i → Read chunk begun next (i + 1)
unfolding read_on
read-turn chunk begun reading next i h e r = rw (add-one i, e) (rw (drop-cons chunk i 0 h) at r)

pub read-end : (chunk : List ℕ) (begun reading : Reading) (i : ℕ) → length chunk ≤ i → Read chunk begun reading i → reading ≡ read_on begun chunk
unfolding read_on
read-end chunk begun reading i h r = rw (drop_of_length-le chunk h) at r

module _ {A : Type 0} (change : Store → List A → List A) (chunk : List ℕ) (begun : Reading) (old : List A) where
  pub column-turn : (reading next : Reading) (store : Store) (l m : List A) (i : ℕ) → i < length chunk → next ≡ step_of reading (get_or chunk i 0) → store ≡ store_of reading (get_or chunk i 0) next
      → m ≡ change store l → length m ≡ length l → Column change chunk begun old reading l i → Column change chunk begun old next m (i + 1)
  unfolding column_after
  column-turn reading next store l m i h e g w k r =
      record { size = k ∙ r.size; same = rw (add-one i, w, g, e) (rw (drop-cons chunk i 0 h) at r.same) }

  pub column-end : (reading : Reading) (l : List A) (i : ℕ) → length chunk ≤ i → Column change chunk begun old reading l i → l ≡ column_after change begun chunk old
  unfolding column_after
  column-end reading l i h r = rw (drop_of_length-le chunk h) at r.same

pub placed-none : {A : Type 0} (value : ℕ → A) (list part : ℕ) (store : Store) (column : List A) → store.list ≡ 0 → eqb 0 list ≡ false → column ≡ stored_in value list part store column
unfolding stored_in
placed-none value list part store column e n = rw (e, n)

pub count_none : (store : Store) (counts : List ℕ) → store.list ≡ 0 → counts ≡ count_in store counts
unfolding count_in
count_none store counts e = rw (eq-eqb store.list 0 e)

-- a store past a column's end changes nothing
pub past : {A : Type 0} (l : List A) (i : ℕ) (a : A) → length l ≤ i → l ≡ set l i a
past l i a h = sym (set_out l i a h)
