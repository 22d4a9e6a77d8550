-- The ends of the call are its one outcome: refused by the raw tests, for too many warps, by what comes later, and taken. Assumes nothing.
use Prim.Native.Nat.{ℕ, ◌≤◌, ◌<◌, min}
use mathlib.Core.Path.{◌≡◌, sym, ◌∙◌}
use borrow.Author.Tests.{eq-eqb, ne_eqb, le-leb, lt-leb}
use mathlib.Core.List.{List, map}
use lib.ListN.{length}
use lib.Ieee.{Float}
use native.Mathlib.Omega.{arith}
use Rattle.ieee.specs.Narrowing.{narrow}
use Rattle.limits.specs.Refusals.{lower}
use Rattle.order.specs.Entries.{first}
use Rattle.order.specs.Order.{laid}
use Rattle.columns.specs.Laying.{given}
use Rattle.columns.proofs.Rooms.{nothing-given, list-refused}
use Rattle.columns_each.specs.OffGrid.{moved_in}
use Rattle.process.specs.ByFormat.{ThreeLists}
use Rattle.process_raw.specs.LentLists.{ThreeColumns}
use Rattle.assembly_marks.specs.AssembledMarks.{assembled_marks}
use Rattle.assembly_marks.specs.LentMarks.{mark_columns}
use Rattle.assembly_tempos.specs.AssembledTempos.{assembled_tempos, assembled_stops, assembled_warps, verdict, rooms_number, ListWritten, ThreeLaid}
use Rattle.assembly_tempos.specs.inside.Refusal.{nothing_assembled}

-- ---- the number, test after test
pub by-raw : (raw warps most later : ℕ) → (raw ≡ 0 → ⊥) → raw ≡ verdict raw warps most later
unfolding verdict
by-raw raw warps most later h = rw (ne_eqb raw 0 h)

pub by-warps : (raw warps most later : ℕ) → raw ≡ 0 → min most 1024 < warps → 1 ≡ verdict raw warps most later
unfolding verdict
by-warps raw warps most later h l = rw (eq-eqb raw 0 h, lt-leb warps (min most 1024) l)

pub by-later : (raw warps most later : ℕ) → raw ≡ 0 → warps ≤ min most 1024 → later ≡ verdict raw warps most later
unfolding verdict
by-later raw warps most later h l = rw (eq-eqb raw 0 h, le-leb warps (min most 1024) l)

module _ (raw later most : ℕ) (lists : ThreeLists) {marks mark_room : List ℕ} {old : ThreeColumns} where
  refused : {number : ℕ} → (number ≡ 0 → ⊥)
      → number ≡ verdict raw (length lists.warps) most (lower later (rooms_number lists old (length mark_room)))
      → ThreeLaid raw later most lists (mark_columns marks mark_room) (nothing_assembled number) old old mark_room
  unfolding laid
  refused {number} h e = record {
    number = e;
    tempos_laid = list-refused h;
    stops_laid = list-refused h;
    warps_laid = list-refused h;
    marks_laid = rw (nothing-given (assembled_marks (map first lists.warps) marks) number h);
    offset_is = rw (ne_eqb number 0 h);
    warps_moved = rw (ne_eqb number 0 h);
  }

  pub raw-refused : (raw ≡ 0 → ⊥)
      → ThreeLaid raw later most lists (mark_columns marks mark_room) (nothing_assembled raw) old old mark_room
  raw-refused h = refused h (by-raw raw _ most _ h)

  pub too_many : raw ≡ 0 → min most 1024 < length lists.warps
      → ThreeLaid raw later most lists (mark_columns marks mark_room) (nothing_assembled 1) old old mark_room
  too_many h l = refused (λ e. omega arith) (by-warps raw _ most _ h l)

  pub later-refused : {number : ℕ} → raw ≡ 0 → length lists.warps ≤ min most 1024
      → number ≡ lower later (rooms_number lists old (length mark_room)) → (number ≡ 0 → ⊥)
      → ThreeLaid raw later most lists (mark_columns marks mark_room) (nothing_assembled number) old old mark_room
  later-refused h l e some = refused some (e ∙ by-later raw _ most _ h l)

  module _ {mark_new : List ℕ} {new : ThreeColumns} where
    pub all_laid : {tempos stops warps moved : ℕ} {offset : Float} → raw ≡ 0 → length lists.warps ≤ min most 1024
        → lower later (rooms_number lists old (length mark_room)) ≡ 0
        → ListWritten 0 (assembled_tempos lists) tempos old.tempos new.tempos
        → ListWritten 0 (assembled_stops lists) stops old.stops new.stops
        → ListWritten 0 (assembled_warps lists) warps old.warps new.warps
        → mark_new ≡ laid (assembled_marks (map first lists.warps) marks) mark_room
        → offset ≡ narrow lists.offset
        → moved ≡ moved_in (map first lists.warps)
        → ThreeLaid raw later most lists (mark_columns marks mark_room)
        (record { number = 0; tempos = tempos; stops = stops; warps = warps; offset = offset; moved = moved }) old new mark_new
    unfolding given
    all_laid h l e t s w k o m = record { number = sym e ∙ by-later raw _ most _ h l; tempos_laid = t; stops_laid = s; warps_laid = w; marks_laid = k; offset_is = o; warps_moved = m }
