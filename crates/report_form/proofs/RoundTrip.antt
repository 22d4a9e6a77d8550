-- THE ROUND TRIP: the text of any entries, their lists in order, is an input of the form and is read as those entries: the format, and in each
-- column the entries' numbers from the front, in order. Assumes nothing.
use Prim.Native.Nat.{ℕ, zero, suc, ◌+◌, ◌≤◌, ◌<◌}
use mathlib.Core.Path.{◌≡◌, refl, sym, ap, ◌∙◌}
use mathlib.Core.Bool.{Bool, true, false}
use mathlib.Core.List.{List, [], ◌∷◌, ◌++◌, append_assoc, append-nil}
use native.Mathlib.Omega.{arith}
use borrow.Author.Tests.{le-ltb, eq-eqb, ne_eqb, eqb-true, eqb-false, leb-true}
use lib.Dec.{ltb, leb, eqb}
use lib.ListN.{length, set, length-append}
use lib.Seq.{set_out, set-append_seam}
use Rattle.picks.specs.Pick.{pick}
use Rattle.columns.specs.Each.{laid_each}
use Rattle.report_form.specs.declared.Reading.{Reading}
use Rattle.report_form.specs.declared.Store.{Store}
use Rattle.report_form.specs.Form.{letter_of, character_of, list_named, follows, opened, named_of, width_of, more, format_ended, ended_of, step_of, read_on, start, whole}
use Rattle.report_form.specs.Stores.{store_of, stores_with, stores_of, applied, stored_in, column_after}
use Rattle.report_form.specs.Text.{bpm, stop, delay, warp, scroll, fake, Entry, pair, speed, pair_list, entry_list, entry_lines, format_line, text}
use Rattle.report_form.specs.Orderly.{Orderly, none, one, part_of, numbers_of}
use Rattle.report_form.proofs.Pieces.{Reads, reads_none, reads-join, state_of, stores_of_lem, applied-join, by-stores}
use Rattle.report_form.proofs.LineRead.{Between, Stored, before, entry_stores, line_read, pair-named, pair_width}

-- where entries lead, and what they store: each at its place in its list
unfoldable pub ended : Bool → ℕ → ℕ → List Entry → Reading
ended ssc last count [] = Between ssc last count
ended ssc last count (entry ∷ entries) = ended ssc (entry_list entry) (more (before (entry_list entry) last count)) entries

unfoldable pub entries_stores : ℕ → ℕ → List Entry → List Store
entries_stores last count [] = []
entries_stores last count (entry ∷ entries) =
    entry_stores entry (before (entry_list entry) last count) ++ entries_stores (entry_list entry) (more (before (entry_list entry) last count)) entries

lines-read : (ssc : Bool) (last count : ℕ) (entries : List Entry) → Orderly last entries → Reads (Between ssc last count) (entry_lines entries) (ended ssc last count entries) (entries_stores last count entries)
unfolding entry_lines ended entries_stores
lines-read ssc last count [] none = reads_none _
lines-read ssc last count (entry ∷ entries) (one h f r) =
    reads-join (line_read entry f ssc last count h) (lines-read ssc (entry_list entry) (more (before (entry_list entry) last count)) entries r)

-- the format's name, as a number
abbrev format_name : Bool → ℕ
format_name ssc = pick ssc 0x73_7363 0x736D

format_read : (ssc : Bool) → Reads start (format_line ssc) (Between ssc 1 0) (Stored 1 1 0 (format_name ssc) 0 ∷ [])
unfolding read_on step_of character_of letter_of named_of list_named follows opened ended_of format_ended stores_of store_of stores_with
format_read true = record { state = λ rest. refl; made = λ rest. refl }
format_read false = record { state = λ rest. refl; made = λ rest. refl }

pub text-read : (ssc : Bool) (entries : List Entry) → Orderly 1 entries → Reads start (text ssc entries) (ended ssc 1 0 entries) (Stored 1 1 0 (format_name ssc) 0 ∷ entries_stores 1 0 entries)
text-read ssc entries o = reads-join (format_read ssc) (lines-read ssc 1 0 entries o)

-- ---- the text is of the form, and its format is read
pub list-named : (entry : Entry) → eqb (entry_list entry) 0 ≡ false
list-named (pair of beat value) = pair-named of
list-named (speed beat ratio wait unit) = refl

pub no_format : (entry : Entry) → eqb (entry_list entry) 1 ≡ false
no_format (pair bpm beat value) = refl
no_format (pair stop beat value) = refl
no_format (pair delay beat value) = refl
no_format (pair warp beat value) = refl
no_format (pair scroll beat value) = refl
no_format (pair fake beat value) = refl
no_format (speed beat ratio wait unit) = refl

ended-whole : (ssc : Bool) (last count : ℕ) (entries : List Entry) → eqb last 0 ≡ false → whole (ended ssc last count entries) ≡ true
unfolding ended whole
ended-whole ssc last count [] h = rw h
ended-whole ssc last count (entry ∷ entries) h = ended-whole ssc (entry_list entry) _ entries (list-named entry)

ended_format : (ssc : Bool) (last count : ℕ) (entries : List Entry) → (ended ssc last count entries).ssc ≡ ssc
unfolding ended
ended_format ssc last count [] = refl
ended_format ssc last count (entry ∷ entries) = ended_format ssc (entry_list entry) _ entries

pub text-whole : (ssc : Bool) (entries : List Entry) → Orderly 1 entries → whole (read_on start (text ssc entries)) ≡ true
text-whole ssc entries o = ap whole (state_of (text-read ssc entries o)) ∙ ended-whole ssc 1 0 entries refl

pub text_format : (ssc : Bool) (entries : List Entry) → Orderly 1 entries → (read_on start (text ssc entries)).ssc ≡ ssc
text_format ssc entries o = ap (λ (r : Reading). r.ssc) (state_of (text-read ssc entries o)) ∙ ended_format ssc 1 0 entries

-- ---- a column
-- numbers set one after the other
unfoldable filled : {A : Type 0} → (ℕ → A) → ℕ → List ℕ → List A → List A
filled value at [] column = column
filled value at (number ∷ numbers) column = filled value (more at) numbers (set column at (value number))

pub no_less : (last next : ℕ) → eqb last 0 ≡ false → follows last next ≡ true → last ≤ next
unfolding follows
no_less last next h f = by_case (ltb 1 next) (rw h at f)
  where
    by_case : (t : Bool) → pick t (leb last next) false ≡ true → last ≤ next
    by_case true e = leb-true last next e
    by_case false e = let z : ◌≡◌ {A = ℕ} 0 1 = cc in absurd (omega arith)

-- once a later list has begun, none of this one comes
pub gone : (last list part : ℕ) (entries : List Entry) → Orderly last entries → eqb last 0 ≡ false → list < last → numbers_of list part entries ≡ []
unfolding numbers_of
gone last list part [] none h l = refl
gone last list part (entry ∷ entries) (one f b r) h l =
    let up = no_less last (entry_list entry) h f in
    rw (ne_eqb (entry_list entry) list (λ (e : entry_list entry ≡ list). omega arith)) (gone (entry_list entry) list part entries r (list-named entry) (omega arith))

module _ {A : Type 0} (value : ℕ → A) where
  -- an entry of another list leaves the column alone
  other : (entry : Entry) (list part at : ℕ) (column : List A) → eqb (entry_list entry) list ≡ false → applied (stored_in value list part) (entry_stores entry at) column ≡ column
  unfolding applied stored_in
  other (pair of beat number) list part at column e = rw e
  other (speed beat ratio wait unit) list part at column e = rw e

  -- an entry of this list sets the number of this part
  pair-own : (k at beat number part : ℕ) (column : List A) → 1 ≤ part → part ≤ 2
      → applied (stored_in value k part) (Stored k 1 at beat at ∷ Stored k 2 at number (more at) ∷ []) column ≡ set column at (value (pick (eqb part 1) beat number))
  unfolding applied stored_in
  pair-own k at beat number part column low high = by_case (eqb part 1) refl
    where
      by_case : (t : Bool) → eqb part 1 ≡ t → applied (stored_in value k part) (Stored k 1 at beat at ∷ Stored k 2 at number (more at) ∷ []) column ≡ set column at (value (pick (eqb part 1) beat number))
      by_case true e = rw (eqb-true part 1 e, eq-eqb k k refl)
      by_case false e =
          let no = eqb-false part 1 e in
          let second : part ≡ 2 = omega arith in
          rw (second, eq-eqb k k refl)

  speed-own : (at beat ratio wait unit part : ℕ) (column : List A) → 1 ≤ part → part ≤ 4
      → applied (stored_in value 6 part) (entry_stores (speed beat ratio wait unit) at) column ≡ set column at (value (part_of (speed beat ratio wait unit) part))
  unfolding applied stored_in
  speed-own at beat ratio wait unit zero column low high = absurd (omega arith)
  speed-own at beat ratio wait unit (suc zero) column low high = refl
  speed-own at beat ratio wait unit (suc (suc zero)) column low high = refl
  speed-own at beat ratio wait unit (suc (suc (suc zero))) column low high = refl
  speed-own at beat ratio wait unit (suc (suc (suc (suc zero)))) column low high = refl
  speed-own at beat ratio wait unit (suc (suc (suc (suc (suc part))))) column low high = absurd (omega arith)

  own : (entry : Entry) (part at : ℕ) (column : List A) → 1 ≤ part → part ≤ width_of (entry_list entry)
      → applied (stored_in value (entry_list entry) part) (entry_stores entry at) column ≡ set column at (value (part_of entry part))
  unfolding width_of
  own (pair of beat number) part at column low high = pair-own (pair_list of) at beat number part column low (rw (pair_width of) at high)
  own (speed beat ratio wait unit) part at column low high = speed-own at beat ratio wait unit part column low high

  -- what entries leave in the column of a part, after `count` entries of list `last`
  stored-filled : (last count list part : ℕ) (entries : List Entry) (column : List A) → Orderly last entries → eqb list 0 ≡ false → eqb last 0 ≡ false → 1 ≤ part → part ≤ width_of list
      → applied (stored_in value list part) (entries_stores last count entries) column ≡ filled value (before list last count) (numbers_of list part entries) column
  unfolding entries_stores numbers_of filled applied
  stored-filled last count list part [] column none named begun low high = refl
  stored-filled last count list part (entry ∷ entries) column (one f b r) named begun low high =
      applied-join (stored_in value list part) (entry_stores entry at) rest column
      ∙ by_case (λ (l : List A). stored-filled (entry_list entry) (more at) list part entries l r named (list-named entry) low high) (eqb (entry_list entry) list) refl
    where
      at : ℕ
      at = before (entry_list entry) last count

      rest : List Store
      rest = entries_stores (entry_list entry) (more at) entries

      numbers : List ℕ
      numbers = numbers_of list part entries

      after-others : (t : Bool) → eqb list last ≡ t → eqb (entry_list entry) list ≡ false → filled value 0 numbers column ≡ filled value (before list last count) numbers column
      after-others false e n = rw e
      after-others true e n =
          let same : list ≡ last = eqb-true list last e in
          let up = no_less last (entry_list entry) begun f in
          let no = eqb-false (entry_list entry) list n in
          rw (gone (entry_list entry) list part entries r (list-named entry) (omega arith))

      by_case : ((l : List A) → applied (stored_in value list part) rest l ≡ filled value (before list (entry_list entry) (more at)) numbers l)
          → (t : Bool) → eqb (entry_list entry) list ≡ t
          → applied (stored_in value list part) rest (applied (stored_in value list part) (entry_stores entry at) column)
          ≡ filled value (before list last count) (pick (eqb (entry_list entry) list) (part_of entry part ∷ numbers) numbers) column
      by_case go false e =
          let no = eqb-false (entry_list entry) list e in
          let turned : eqb list (entry_list entry) ≡ false = ne_eqb list (entry_list entry) (λ (q : list ≡ entry_list entry). no (sym q)) in
          let none : before list (entry_list entry) (more at) ≡ 0 = rw turned in
          rw (e, other entry list part at column e) (go column ∙ ap (λ (i : ℕ). filled value i numbers column) none ∙ after-others (eqb list last) refl e)
      by_case go true e =
          let same : list ≡ entry_list entry = sym (eqb-true (entry_list entry) list e) in
          let here : applied (stored_in value list part) (entry_stores entry at) column ≡ set column at (value (part_of entry part)) = rw same (own entry part at column low (rw same at high)) in
          let place : before list last count ≡ at = ap (λ (k : ℕ). before k last count) same in
          let fresh : before list (entry_list entry) (more at) ≡ more at = rw (same, eq-eqb (entry_list entry) (entry_list entry) refl) in
          let set_here = set column at (value (part_of entry part)) in
          rw (e, here, place) (go set_here ∙ ap (λ (i : ℕ). filled value i numbers set_here) fresh)

  -- ---- numbers set one after the other, as far as the column goes
  more-up : (at : ℕ) → at ≤ more at
  unfolding more
  more-up at = by_case (ltb 256 at)
    where
      by_case : (t : Bool) → at ≤ pick t at (at + 1)
      by_case true = omega arith
      by_case false = omega arith

  filled-past : (at : ℕ) (numbers : List ℕ) (column : List A) → length column ≤ at → filled value at numbers column ≡ column
  unfolding filled
  filled-past at [] column h = refl
  filled-past at (number ∷ numbers) column h =
      let up = more-up at in
      rw (set_out column at (value number) h) (filled-past (more at) numbers column (omega arith))

  filled-laid : (front column : List A) (numbers : List ℕ) → length front + length column ≤ 257 → filled value (length front) numbers (front ++ column) ≡ front ++ laid_each value numbers column
  unfolding filled laid_each more
  filled-laid front column [] h = refl
  filled-laid front [] (number ∷ numbers) h = rw append-nil (filled-past (length front) (number ∷ numbers) front (omega arith))
  filled-laid front (old ∷ column) (number ∷ numbers) h =
      let new = value number in
      let up : more (length front) ≡ length (front ++ (new ∷ [])) = simp length-append (rw (le-ltb 256 (length front) (omega arith))) in
      let split : front ++ (new ∷ column) ≡ (front ++ (new ∷ [])) ++ column = sym (append_assoc front (new ∷ []) column) in
      ap (λ (l : List A). filled value (more (length front)) numbers l) (set-append_seam front old column new ∙ split)
      ∙ ap (λ (i : ℕ). filled value i numbers ((front ++ (new ∷ [])) ++ column)) up
      ∙ filled-laid (front ++ (new ∷ [])) column numbers (simp length-append (omega arith)) ∙ append_assoc front (new ∷ []) _

  -- THE COLUMNS: of a list's part, what the entries have there, from the front, as far as the column goes
  pub text-column : (list part : ℕ) (ssc : Bool) (entries : List Entry) (column : List A) → Orderly 1 entries → 2 ≤ list → 1 ≤ part → part ≤ width_of list → length column ≤ 257
      → column_after (stored_in value list part) start (text ssc entries) column ≡ laid_each value (numbers_of list part entries) column
  unfolding stored_in applied
  text-column list part ssc entries column o named low high short =
      by-stores (stored_in value list part) idle start (text ssc entries) column
      ∙ ap (λ (l : List Store). applied (stored_in value list part) l column) (stores_of_lem (text-read ssc entries o))
      ∙ format_idle ∙ stored-filled 1 0 list part entries column o (ne_eqb list 0 (λ (e : list ≡ 0). omega arith)) refl low high
      ∙ ap (λ (i : ℕ). filled value i (numbers_of list part entries) column) first ∙ filled-laid [] column (numbers_of list part entries) (omega arith)
    where
      idle : (store : Store) (l : List A) → eqb store.list 0 ≡ true → stored_in value list part store l ≡ l
      idle store l e =
          let none = eqb-true store.list 0 e in
          rw (ne_eqb store.list list (λ (q : store.list ≡ list). omega arith))

      not_its : stored_in value list part (Stored 1 1 0 (format_name ssc) 0) column ≡ column
      not_its = rw (ne_eqb 1 list (λ (q : 1 ≡ list). omega arith))

      format_idle : applied (stored_in value list part) (Stored 1 1 0 (format_name ssc) 0 ∷ entries_stores 1 0 entries) column ≡ applied (stored_in value list part) (entries_stores 1 0 entries) column
      format_idle = ap (λ (l : List A). applied (stored_in value list part) (entries_stores 1 0 entries) l) not_its

      first : before list 1 0 ≡ 0
      first = rw (ne_eqb list 1 (λ (q : list ≡ 1). omega arith))
