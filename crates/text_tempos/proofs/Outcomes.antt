-- The outcomes of a text that is written whole or not at all: the list refused, too little room, the text written. And a page that always has room. Assumes nothing.
use Prim.Native.Nat.{ℕ, zero, suc, ◌*◌, ◌≤◌}
use mathlib.Core.Path.{◌≡◌, refl, sym, ◌∙◌}
use mathlib.Core.Logic.{◌≢◌}
use mathlib.Core.Bool.{true, false}
use mathlib.Core.List.{List, map}
use native.Mathlib.Omega.{arith}
use borrow.Author.Tests.{le-leb, leb-true, leb-false}
use lib.Dec.{leb}
use lib.ListN.{length}
use lib.Ieee.{Float}
use Rattle.ieee.specs.Narrowing.{narrow}
use Rattle.limits.specs.Table.{no_room}
use Rattle.order.specs.Order.{laid}
use Rattle.columns.specs.Laying.{room_number, refused_by, given}
use Rattle.columns.proofs.Rooms.{nothing-given, number_of_tests, number_no_room, number-taken}
use Rattle.text_page.specs.Page.{Wrote}
use Rattle.text_page.proofs.WholePage.{wrote-whole}
use Rattle.text_tempos.specs.TempoText.{tempo_text}
use Rattle.text_tempos.specs.Answers.{tempo_text_tests, TextLaid, most_entry_bytes}
use Rattle.text_tempos.proofs.EntrySizes.{text-most, text_most_f32}

module _ {tests : ℕ} {text old : List ℕ} where
  left_alone : {n : ℕ} → n ≢ 0 → n ≡ room_number tests (length text) (length old) → TextLaid tests text (refused_by n) old old
  unfolding laid
  left_alone {n} h e = record { number = e; count = rw (nothing-given text n h); page = rw (nothing-given text n h) }

  pub list-refused : {n : ℕ} → n ≡ tests → n ≢ 0 → TextLaid tests text (refused_by n) old old
  list-refused {n} e h = left_alone h (e ∙ number_of_tests tests (length text) (length old) (λ z. h (e ∙ z)))

  pub no_room_left : tests ≡ 0 → leb (length text) (length old) ≡ false → TextLaid tests text (refused_by no_room) old old
  no_room_left e h = left_alone (λ z. omega arith) (number_no_room tests (length text) (length old) e (leb-false (length text) (length old) h))

  pub text-laid : {end : ℕ} {new : List ℕ} → tests ≡ 0 → leb (length text) (length old) ≡ true → Wrote text 0 end old new
      → TextLaid tests text (record { number = 0; count = end }) old new
  unfolding given laid
  text-laid e h w =
      let room : length text ≤ length old = leb-true (length text) (length old) h in
      let whole = wrote-whole room w in
      record { number = number-taken tests (length text) (length old) e room; count = whole.all; page = whole.page }

-- ---- a page of 33 bytes for each entry
module _ (beats tempos : List Float) (room : ℕ) (enough : length beats * most_entry_bytes ≤ room) where
  -- holds the text of every list that is taken
  pub holds_text : tempo_text_tests beats tempos ≡ 0 → true ≡ leb (length (tempo_text (map narrow beats) (map narrow tempos))) room
  holds_text taken = sym (le-leb _ room (omega (arith, text-most beats tempos taken)))

  pub holds_text_f32 : tempo_text_tests beats tempos ≡ 0 → true ≡ leb (length (tempo_text beats tempos)) room
  holds_text_f32 taken = sym (le-leb _ room (omega (arith, text_most_f32 beats tempos taken)))

  never-short : (tests size : ℕ) → (tests ≡ 0 → size ≤ room) → tests ≡ room_number tests size room
  never-short zero size h = number-taken 0 size room refl (h refl)
  never-short (suc n) size h = number_of_tests (suc n) size room (λ e. omega arith)

  -- SO 7 IS NOT ANSWERED THERE: the number is that of the list's tests, whatever the list
  pub never-seven : tempo_text_tests beats tempos ≡ room_number (tempo_text_tests beats tempos) (length (tempo_text (map narrow beats) (map narrow tempos))) room
  never-seven = never-short (tempo_text_tests beats tempos) _ (λ taken. omega (arith, text-most beats tempos taken))

  pub never_seven_f32 : tempo_text_tests beats tempos ≡ room_number (tempo_text_tests beats tempos) (length (tempo_text beats tempos)) room
  never_seven_f32 = never-short (tempo_text_tests beats tempos) _ (λ taken. omega (arith, text_most_f32 beats tempos taken))
