-- The outcome of a sheet: refused by its own tests, refused by the lookup's, or laid. Assumes nothing.
use Prim.Native.Nat.{ℕ, ◌≤◌}
use mathlib.Core.Path.{◌≡◌, refl, sym, ◌∙◌}
use mathlib.Core.Bool.{Bool, true, false}
use mathlib.Core.List.{List}
use native.Mathlib.Omega.{arith}
use borrow.Author.Tests.{eqb-true, leb-true, le-leb}
use lib.Dec.{leb, eqb}
use lib.IntN.{ℤ}
use lib.ListN.{length}
use lib.Ieee.{Float}
use Rattle.picks.specs.Pick.{pick}
use Rattle.limits.specs.Numbers.{every, row_in}
use Rattle.limits.specs.Refusals.{lower}
use Rattle.limits.proofs.NoRefusal.{lower-none, none-lower}
use Rattle.order.specs.Order.{laid}
use Rattle.columns.specs.declared.Outcome.{Outcome}
use Rattle.columns.specs.Each.{laid_each}
use Rattle.columns.specs.Laying.{room_number, given}
use Rattle.columns.proofs.Rooms.{nothing-given}
use Rattle.columns.proofs.EachOverFront.{each_over_front}
use Rattle.clock_tests.specs.TimingNumbers.{timing_number}
use Rattle.lookup_tests.specs.Refused.{judgable_number}
use Rattle.lookup.specs.Lookups.{is_judgable, Judged}
use Rattle.clock.specs.Question.{fresh_cursor}
use Rattle.order.specs.Entries.{total}
use Rattle.note_sheet.specs.Sheet.{Song, notes_of, SheetColumns, sheet_columns, sheet_room, sheet_answers, colour_of, rows_order_number, sheet_room_number, sheet_number, refused_sheet, SheetLaid}
use Rattle.note_sheet.specs.inside.Pieces.{PieceTimed, AllFit}
use Rattle.note_sheet.specs.declared.Piece.{Piece}
use Rattle.note_sheet.proofs.SheetKept.{Taken, sheet_taken_lem}

-- where there is room, the number is that of the tests
tests-alone : (tests count room : ℕ) → count ≤ room → room_number tests count room ≡ tests
unfolding room_number
tests-alone tests count room h = rw (le-leb count room h) (go (eqb tests 0) (eqb-true tests 0))
  where
    go : (b : Bool) → (b ≡ true → tests ≡ 0) → pick b 0 tests ≡ tests
    go true e = sym (e refl)
    go false e = refl

has-places : (rows room : ℕ) → sheet_room_number rows room ≡ 0 → rows ≤ room
unfolding sheet_room_number
has-places rows room h = go (leb rows room) refl h
  where
    go : (b : Bool) → leb rows room ≡ b → ◌≡◌ {A = ℕ} (pick b 0 7) 0 → rows ≤ room
    go true e k = leb-true rows room e
    go false e k = absurd (omega arith)

module _ (s : Song) (rows : List ℤ) (old : SheetColumns) where
  -- the number without the lookup's
  abbrev pub own_number : ℕ
  own_number = lower (timing_number s.timing s.offset s.global) (lower (rows_order_number rows) (sheet_room_number (length rows) (sheet_room old)))

  refused_sheet_lem : (n : ℕ) → n ≡ sheet_number s rows (sheet_room old) → (n ≡ 0 → ⊥) → SheetLaid s rows (refused_sheet n) old old
  unfolding laid total
  refused_sheet_lem n e h = record {
    number = e;
    count = rw (nothing-given rows n h);
    steps = rw (nothing-given (sheet_answers s rows) n h);
    times_are = rw (nothing-given (sheet_answers s rows) n h);
    judged_are = rw (nothing-given rows n h);
    snaps_are = rw (nothing-given rows n h);
  }

  pub refused_by_own : (own found n : ℕ) → own ≡ own_number → (own ≡ 0 → ⊥) → found ≡ judgable_number (notes_of s) (every row_in rows) → n ≡ lower own found → SheetLaid s rows (refused_sheet n) old old
  unfolding sheet_number
  refused_by_own own found n e h f is = refused_sheet_lem n (rw (← e, ← f) is) (λ z. h (lower-none own found (sym is ∙ z)).0)

  -- ---- the lookup's turn
  module _ (own : own_number ≡ 0) (outcome : Outcome) (judged_new : List ℕ)
      (j : Judged (judgable_number (notes_of s) (every row_in rows)) (is_judgable (notes_of s)) rows outcome old.judged judged_new) where
    places : length rows ≤ sheet_room old
    places = has-places (length rows) (sheet_room old) (lower-none (rows_order_number rows) (sheet_room_number (length rows) (sheet_room old)) (lower-none (timing_number s.timing s.offset s.global) _ own).1).1

    lookup_number : outcome.number ≡ judgable_number (notes_of s) (every row_in rows)
    lookup_number = j.number ∙ tests-alone (judgable_number (notes_of s) (every row_in rows)) (length rows) (length old.judged) (let h = places in omega arith)

    sheet_number_lem : outcome.number ≡ sheet_number s rows (sheet_room old)
    unfolding sheet_number
    sheet_number_lem = rw own (lookup_number ∙ sym (none-lower (judgable_number (notes_of s) (every row_in rows))))

    pub refused_by_lookup : (outcome.number ≡ 0 → ⊥) → SheetLaid s rows (refused_sheet outcome.number) old (sheet_columns old.times judged_new old.snaps)
    unfolding laid
    refused_by_lookup h =
        let same : judged_new ≡ old.judged = rw (nothing-given rows outcome.number h) at j.answers in
        let left = refused_sheet_lem outcome.number sheet_number_lem h in
        record {
          number = left.number;
          count = left.count;
          steps = left.steps;
          times_are = left.times_are;
          judged_are = same ∙ left.judged_are;
          snaps_are = left.snaps_are;
        }

    module _ (taken : outcome.number ≡ 0) where
      sheet_taken : Taken s rows (sheet_room old)
      sheet_taken = sheet_taken_lem s rows (sheet_room old) (sym sheet_number_lem ∙ taken)

      pub all_fit : AllFit s.timing s.offset s.global rows (length old.times)
      all_fit = let t = sheet_taken in record { taken = t.timing_taken; near = t.near; up = t.up; places = omega (arith, t.places) }

      pub sheet_laid : (piece : Piece) (times_new : List Float) (snaps_new : List ℕ) → PieceTimed s.timing s.offset s.global (fresh_cursor s.offset s.global) rows piece old.times times_new
          → snaps_new ≡ laid_each colour_of rows old.snaps
          → SheetLaid s rows (record { number = 0; count = length rows; steps = piece.steps }) old (sheet_columns times_new judged_new snaps_new)
      unfolding given
      sheet_laid piece times_new snaps_new p snapped = record {
        number = sym taken ∙ sheet_number_lem;
        count = refl;
        steps = p.steps;
        times_are = p.times;
        judged_are = rw taken at j.answers;
        snaps_are = snapped ∙ each_over_front colour_of rows old.snaps (let h = places in omega arith);
      }
