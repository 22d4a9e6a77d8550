-- Bytes that lead from one state to another and make these stores, whatever comes after them; such pieces join. Assumes nothing.
use mathlib.Core.Path.{◌≡◌, refl, ap, sym, ◌∙◌}
use Prim.Native.Nat.{ℕ}
use mathlib.Core.Bool.{Bool, true, false}
use mathlib.Core.List.{List, [], ◌∷◌, ◌++◌, append_assoc, append-nil}
use lib.Dec.{eqb}
use Rattle.picks.specs.Pick.{pick}
use Rattle.report_form.specs.declared.Reading.{Reading}
use Rattle.report_form.specs.declared.Store.{Store}
use Rattle.report_form.specs.Form.{step_of, read_on}
use Rattle.report_form.specs.Stores.{nothing, store_of, stores_with, stores_of, applied, column_after}

pub record Reads (from : Reading) (bytes : List ℕ) (to : Reading) (stores : List Store) : Type 0 where
  pub state : (rest : List ℕ) → read_on from (bytes ++ rest) ≡ read_on to rest
  pub made : (rest : List ℕ) → stores_of from (bytes ++ rest) ≡ stores ++ stores_of to rest

pub reads_none : (at : Reading) → Reads at [] at []
reads_none at = record { state = λ rest. refl; made = λ rest. refl }

pub reads-join : {a b c : Reading} {xs ys : List ℕ} {ds es : List Store} → Reads a xs b ds → Reads b ys c es → Reads a (xs ++ ys) c (ds ++ es)
reads-join {xs = xs} {ys = ys} {ds = ds} {es = es} r q =
    record {
      state = λ rest. rw append_assoc (r.state (ys ++ rest) ∙ q.state rest);
      made = λ rest. rw (append_assoc xs ys rest, append_assoc ds es) (r.made (ys ++ rest) ∙ ap (λ (l : List Store). ds ++ l) (q.made rest));
    }

-- one byte, which completes nothing, or a number
pub reads_byte : (from to : Reading) (byte : ℕ) → step_of from byte ≡ to → store_of from byte to ≡ nothing → Reads from (byte ∷ []) to []
unfolding read_on stores_of stores_with
reads_byte from to byte e g =
    record {
      state = λ rest. ap (λ (s : Reading). read_on s rest) e;
      made = λ rest. ap (λ (s : Reading). stores_with (store_of from byte s) (stores_of s rest)) e ∙ ap (λ (d : Store). stores_with d (stores_of to rest)) g;
    }

pub reads-store : (from to : Reading) (byte : ℕ) (store : Store) → step_of from byte ≡ to → store_of from byte to ≡ store → eqb store.list 0 ≡ false → Reads from (byte ∷ []) to (store ∷ [])
unfolding read_on stores_of stores_with
reads-store from to byte store e g h =
    record {
      state = λ rest. ap (λ (s : Reading). read_on s rest) e;
      made = λ rest. ap (λ (s : Reading). stores_with (store_of from byte s) (stores_of s rest)) e ∙ ap (λ (d : Store). stores_with d (stores_of to rest)) g
          ∙ ap (λ (t : Bool). pick t (stores_of to rest) (store ∷ stores_of to rest)) h;
    }

-- with nothing after them
pub state_of : {a b : Reading} {xs : List ℕ} {ds : List Store} → Reads a xs b ds → read_on a xs ≡ b
unfolding read_on
state_of {xs = xs} r = ap (read_on _) (sym (append-nil xs)) ∙ r.state []

pub stores_of_lem : {a b : Reading} {xs : List ℕ} {ds : List Store} → Reads a xs b ds → stores_of a xs ≡ ds
unfolding stores_of
stores_of_lem {xs = xs} {ds = ds} r = ap (stores_of _) (sym (append-nil xs)) ∙ r.made [] ∙ append-nil ds

-- stores made one behind another
pub applied-join : {A : Type 0} (change : Store → A → A) (ds es : List Store) (column : A) → applied change (ds ++ es) column ≡ applied change es (applied change ds column)
unfolding applied
applied-join change [] es column = refl
applied-join change (d ∷ ds) es column = applied-join change ds es (change d column)

-- A COLUMN after bytes is the column after the stores that they make, if a store of nothing leaves it alone
pub by-stores : {A : Type 0} (change : Store → A → A) → ((store : Store) (column : A) → eqb store.list 0 ≡ true → change store column ≡ column)
    → (reading : Reading) (bytes : List ℕ) (column : A) → column_after change reading bytes column ≡ applied change (stores_of reading bytes) column
unfolding column_after applied stores_of stores_with
by-stores change idle reading [] column = refl
by-stores change idle reading (byte ∷ bytes) column =
    by-stores change idle (step_of reading byte) bytes (change store column) ∙ by_case (eqb store.list 0) refl
  where
    store : Store
    store = store_of reading byte (step_of reading byte)

    by_case : (t : Bool) → eqb store.list 0 ≡ t → applied change (stores_of (step_of reading byte) bytes) (change store column) ≡ applied change (stores_with store (stores_of (step_of reading byte) bytes)) column
    by_case true e = rw (e, idle store column e)
    by_case false e = rw e
