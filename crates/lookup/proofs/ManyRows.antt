-- Many rows: the outcome. Assumes nothing.
use Rattle.std.proofs.Common.{◌≡◌, ℕ, ◌<◌, ◌≤◌, Bool, List, length, ℤ, refl, ◌∙◌, arith, ne_eqb, le-leb}
use borrow.Author.Tests.{lt-leb}
use Rattle.order.specs.Order.{laid}
use Rattle.columns.specs.Laying.{room_number, refused_by, given}
use Rattle.columns.specs.Each.{laid_each}
use Rattle.columns.proofs.Rooms.{nothing-given}
use Rattle.columns.proofs.EachOverFront.{each_over_front}
use Rattle.lookup.specs.Lookups.{byte, Judged}

-- ---- the outcome
module _ (tests : ℕ) (judge : ℤ → Bool) (rows : List ℤ) (old : List ℕ) where
  left_alone : (n : ℕ) → (n ≡ 0 → ⊥) → n ≡ room_number tests (length rows) (length old) → Judged tests judge rows (refused_by n) old old
  unfolding laid
  left_alone n h e = record { number = e; count = rw (nothing-given rows n h); answers = rw (nothing-given rows n h) }

  pub refused_by_tests : (n : ℕ) → n ≡ tests → (n ≡ 0 → ⊥) → Judged tests judge rows (refused_by n) old old
  unfolding room_number
  refused_by_tests n e h = left_alone n h (rw (← e, ne_eqb n 0 h))

  pub refused_for_room : tests ≡ 0 → length old < length rows → Judged tests judge rows (refused_by 7) old old
  unfolding room_number
  refused_for_room e l = left_alone 7 (λ z. omega arith) (rw (e, lt-leb (length rows) (length old) l))

  pub all-judged : (new : List ℕ) → tests ≡ 0 → length rows ≤ length old → new ≡ laid_each (λ (asked : ℤ). byte (judge asked)) rows old → Judged tests judge rows (record { number = 0; count = length rows }) old new
  unfolding room_number given
  all-judged new e l is = record { number = rw (e, le-leb (length rows) (length old) l); count = refl; answers = is ∙ each_over_front (λ (asked : ℤ). byte (judge asked)) rows old l }
