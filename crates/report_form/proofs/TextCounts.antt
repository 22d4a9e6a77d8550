-- TEXT COUNTS: of the text of entries in order, the counts have at a list's number how many entries of the list there are, held at 257; where a list has
-- none, what stood there. The format line, which is list 1, leaves 0 at its own number. Assumes nothing.
use Prim.Native.Nat.{ℕ, zero, suc, ◌+◌, ◌≤◌, ◌<◌}
use mathlib.Core.Path.{◌≡◌, refl, sym, ap, ◌∙◌}
use mathlib.Core.Bool.{Bool, true, false}
use mathlib.Core.List.{List, [], ◌∷◌}
use native.Mathlib.Omega.{arith}
use native.Mathlib.Nat.{add-zero}
use borrow.Author.Tests.{lt-ltb, le-ltb, ne_eqb, eq-eqb, eqb-true, eqb-false, ltb-true, ltb-false}
use lib.Dec.{ltb, eqb}
use lib.ListN.{length, get_or, set, length-set}
use lib.Seq.{set-set, get_or-set_same, get_or-set_other}
use Rattle.picks.specs.Pick.{pick}
use Rattle.report_form.specs.declared.Reading.{Reading}
use Rattle.report_form.specs.declared.Store.{Store}
use Rattle.report_form.specs.Form.{start, follows, more, step_of}
use Rattle.report_form.specs.Stores.{store_of, count_in, column_after, applied}
use Rattle.report_form.specs.Text.{Entry, pair, speed, pair_list, entry_list, text}
use Rattle.report_form.specs.Orderly.{Orderly, none, one, numbers_of, entries_of, held}
use Rattle.report_form.proofs.Pieces.{stores_of_lem, applied-join, by-stores}
use Rattle.report_form.proofs.LineRead.{before, entry_stores, pair-named}
use Rattle.report_form.proofs.RoundTrip.{entries_stores, text-read, list-named, no_format, no_less, gone}

-- so many entries more
raised : ℕ → ℕ → ℕ
raised zero count = count
raised (suc n) count = raised n (more count)

-- a count that is held already
over-held : (n count : ℕ) → 256 < count → count ≤ 257 → held (n + count) ≡ held (suc n + count)
over-held n count l h = rw (lt-ltb 256 (n + count) (omega arith), lt-ltb 256 (suc n + count) (omega arith))

none_more : (count : ℕ) → count ≤ 257 → count ≡ held (0 + count)
none_more count h = by_case (ltb 256 count) refl
  where
    by_case : (t : Bool) → ltb 256 count ≡ t → count ≡ held (0 + count)
    by_case true e = let above = ltb-true 256 count e in rw (lt-ltb 256 (0 + count) (omega arith)) (omega arith)
    by_case false e = let below = ltb-false 256 count e in rw (le-ltb 256 (0 + count) (omega arith)) (omega arith)

raised-held : (n count : ℕ) → count ≤ 257 → raised n count ≡ held (n + count)
unfolding raised more
raised-held zero count h = none_more count h
raised-held (suc n) count h = by_case (λ (k : ℕ) (l : k ≤ 257). raised-held n k l) (ltb 256 count) refl
  where
    by_case : ((k : ℕ) → k ≤ 257 → raised n k ≡ held (n + k)) → (t : Bool) → ltb 256 count ≡ t → raised n (pick (ltb 256 count) count (count + 1)) ≡ held (suc n + count)
    by_case on true e = rw e (on count h ∙ over-held n count (ltb-true 256 count e) h)
    by_case on false e =
        let below = ltb-false 256 count e in
        let same : n + (count + 1) ≡ suc n + count = omega arith in
        rw e (on (count + 1) (omega arith) ∙ ap held same)

-- an entry sets its list's count to one more
entry-counted : (entry : Entry) (at : ℕ) (counts : List ℕ) → applied count_in (entry_stores entry at) counts ≡ set counts (entry_list entry) (more at)
unfolding applied count_in
entry-counted (pair of beat value) at counts = rw (pair-named of) (set-set counts (pair_list of) at (more at))
entry-counted (speed beat ratio wait unit) at counts = rw (set-set counts 6 at at, set-set counts 6 at at) (set-set counts 6 at (more at))

-- what stands at a list's number after `n` entries of it, of which the first is number `from`
abbrev count_at : ℕ → ℕ → ℕ → ℕ
count_at old n from = pick (eqb n 0) old (raised n from)

-- where the first has set it
counted-on : (n from : ℕ) → count_at from n from ≡ raised n from
unfolding raised
counted-on zero from = refl
counted-on (suc n) from = rw (ne_eqb (suc n) 0 (λ (e : suc n ≡ 0). omega arith))

module _ (list last count : ℕ) (entry : Entry) (entries : List Entry) (counts : List ℕ) (begun : eqb last 0 ≡ false) (inside : list < length counts)
    (f : follows last (entry_list entry) ≡ true) (r : Orderly (entry_list entry) entries) where
  at : ℕ
  at = before (entry_list entry) last count

  one-counted : (t : Bool) → eqb (entry_list entry) list ≡ t
      → count_at (get_or (set counts (entry_list entry) (more at)) list 0) (entries_of list entries) (before list (entry_list entry) (more at)) ≡ count_at (get_or counts list 0) (entries_of list (entry ∷ entries)) (before list last count)
  unfolding numbers_of raised at
  one-counted true e =
      let same : entry_list entry ≡ list = eqb-true (entry_list entry) list e in
      let n = entries_of list entries in
      let set_now : get_or (set counts (entry_list entry) (more at)) list 0 ≡ more at = ap (λ (i : ℕ). get_or (set counts (entry_list entry) (more at)) i 0) (sym same) ∙ get_or-set_same counts (entry_list entry) (more at) 0 (rw same inside) in
      let goes_on : before list (entry_list entry) (more at) ≡ more at = rw (eq-eqb list (entry_list entry) (sym same)) in
      let first : before list last count ≡ at = ap (λ (k : ℕ). before k last count) (sym same) in
      ap (λ (k : ℕ). count_at k n (before list (entry_list entry) (more at))) set_now ∙ ap (count_at (more at) n) goes_on ∙ counted-on n (more at)
      ∙ rw (e, ne_eqb (suc n) 0 (λ (z : suc n ≡ 0). omega arith)) (ap (λ (k : ℕ). raised n (more k)) (sym first))
  one-counted false e =
      let n = entries_of list entries in
      let other : get_or (set counts (entry_list entry) (more at)) list 0 ≡ get_or counts list 0 = get_or-set_other counts (entry_list entry) list (more at) 0 (λ (q : list ≡ entry_list entry). eqb-false (entry_list entry) list e (sym q)) in
      let anew : before list (entry_list entry) (more at) ≡ 0 = rw (ne_eqb list (entry_list entry) (λ (q : list ≡ entry_list entry). eqb-false (entry_list entry) list e (sym q))) in
      ap (λ (k : ℕ). count_at k n (before list (entry_list entry) (more at))) other ∙ ap (count_at (get_or counts list 0) n) anew ∙ rw e (by_last (eqb list last) refl)
    where
      by_last : (t : Bool) → eqb list last ≡ t → count_at (get_or counts list 0) (entries_of list entries) 0 ≡ count_at (get_or counts list 0) (entries_of list entries) (before list last count)
      by_last false q = rw q
      by_last true q =
          let same : list ≡ last = eqb-true list last q in
          let up = no_less last (entry_list entry) begun f in
          let apart = eqb-false (entry_list entry) list e in
          let over : list < entry_list entry = omega arith in
          rw (gone (entry_list entry) list 1 entries r (list-named entry) over)

module _ (list : ℕ) where
  -- after `count` entries of list `last`
  entries-counted : (last count : ℕ) (entries : List Entry) (counts : List ℕ) → Orderly last entries → eqb last 0 ≡ false → list < length counts
      → get_or (applied count_in (entries_stores last count entries) counts) list 0 ≡ count_at (get_or counts list 0) (entries_of list entries) (before list last count)
  unfolding entries_stores numbers_of applied at
  entries-counted last count [] counts none begun inside = refl
  entries-counted last count (entry ∷ entries) counts (one f b r) begun inside =
      let own = entry_list entry in
      let place = before own last count in
      let rest = entries_stores own (more place) entries in
      ap (λ (l : List ℕ). get_or l list 0) (applied-join count_in (entry_stores entry place) rest counts ∙ ap (applied count_in rest) (entry-counted entry place counts))
      ∙ entries-counted own (more place) entries (set counts own (more place)) r (list-named entry) (rw length-set inside)
      ∙ one-counted list last count entry entries counts begun inside f r (eqb own list) refl

  -- what stands at a number of the counts
  text-set : (ssc : Bool) (entries : List Entry) (counts : List ℕ) → Orderly 1 entries → list < length counts
      → get_or (column_after count_in start (text ssc entries) counts) list 0 ≡ count_at (get_or (set counts 1 0) list 0) (entries_of list entries) (before list 1 0)
  unfolding count_in applied
  text-set ssc entries counts o inside =
      ap (λ (l : List ℕ). get_or l list 0) (by-stores count_in idle start (text ssc entries) counts ∙ ap (λ (l : List Store). applied count_in l counts) (stores_of_lem (text-read ssc entries o)))
      ∙ entries-counted 1 0 entries (set counts 1 0) o refl (rw length-set inside)
    where
      idle : (store : Store) (l : List ℕ) → eqb store.list 0 ≡ true → count_in store l ≡ l
      idle store l e = rw e

  from-none : before list 1 0 ≡ 0
  from-none = by_case (eqb list 1)
    where
      by_case : (t : Bool) → ◌≡◌ {A = ℕ} (pick t 0 0) 0
      by_case true = refl
      by_case false = refl

  pub text-counts : (ssc : Bool) (entries : List Entry) (counts : List ℕ) → Orderly 1 entries → (list ≡ 1 → ⊥) → list < length counts
      → get_or (column_after count_in start (text ssc entries) counts) list 0 ≡ pick (eqb (entries_of list entries) 0) (get_or counts list 0) (held (entries_of list entries))
  text-counts ssc entries counts o apart inside =
      let n = entries_of list entries in
      text-set ssc entries counts o inside
      ∙ ap (λ (k : ℕ). count_at k n (before list 1 0)) (get_or-set_other counts 1 list 0 0 apart)
      ∙ ap (λ (k : ℕ). pick (eqb n 0) (get_or counts list 0) k) (ap (raised n) from-none ∙ raised-held n 0 (omega arith) ∙ ap held (add-zero n))

-- the format line counts no entry
no-entry : {last : ℕ} {entries : List Entry} → Orderly last entries → numbers_of 1 1 entries ≡ []
unfolding numbers_of
no-entry none = refl
no-entry (one {entry = entry} f b r) = rw (no_format entry) (no-entry r)

pub format_counts : (ssc : Bool) (entries : List Entry) (counts : List ℕ) → Orderly 1 entries → 1 < length counts → get_or (column_after count_in start (text ssc entries) counts) 1 0 ≡ 0
format_counts ssc entries counts o inside = text-set 1 ssc entries counts o inside ∙ rw (no-entry o) (get_or-set_same counts 1 0 0 inside)

-- there are as many counts as before
pub counts-length : (reading : Reading) (bytes counts : List ℕ) → length (column_after count_in reading bytes counts) ≡ length counts
unfolding column_after count_in
counts-length reading [] counts = refl
counts-length reading (byte ∷ bytes) counts =
    let store = store_of reading byte (step_of reading byte) in
    counts-length (step_of reading byte) bytes (count_in store counts) ∙ by_case (eqb store.list 0) store.list _
  where
    by_case : (t : Bool) (place count : ℕ) → length (pick t counts (set counts place count)) ≡ length counts
    by_case true place count = refl
    by_case false place count = length-set counts place count
