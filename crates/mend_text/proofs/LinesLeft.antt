-- One turn of each loop: what is left of the lines. Assumes nothing.
use Prim.Native.Nat.{ℕ, ◌+◌, ◌≤◌, ◌<◌}
use mathlib.Core.List.{List, map}
use native.Mathlib.Numerals.{add-one}
use lib.ListN.{length, drop, get_or, drop_of_length-le}
use lib.Seq.{drop-cons}
use Rattle.text_page.specs.Page.{Wrote}
use Rattle.text_page.proofs.Joined.{Left, left-turn, left_end}
use Rattle.report_form.specs.Text.{Entry, entry_line, entry_lines}
use Rattle.mend_text.specs.MendedText.{fate_line, fate_lines}

module _ {all : List ℕ} {start at : ℕ} {first now : List ℕ} where
  -- ---- entries, by what the form has of them
  module _ {A : Type 0} (form : A → Entry) (list : List A) (i : ℕ) (l : Left all (entry_lines (map form (drop i list))) start at first now) where
    pub entries-turn : (none : A) {next : ℕ} {then : List ℕ} → i < length list → Wrote (entry_line (form (get_or list i none))) at next now then
        → Left all (entry_lines (map form (drop (i + 1) list))) start next first then
    unfolding entry_lines
    entries-turn none h w = rw (add-one i) (left-turn (rw (drop-cons list i none h) at l) w)

    pub entries-end : length list ≤ i → Wrote all start at first now
    unfolding entry_lines
    entries-end h = left_end (rw (drop_of_length-le list {i = i} h) at l)

  -- ---- fates
  module _ (fates : List ℕ) (i : ℕ) (l : Left all (fate_lines i (drop i fates)) start at first now) where
    pub fates-turn : {next : ℕ} {then : List ℕ} → i < length fates → Wrote (fate_line i (get_or fates i 0)) at next now then
        → Left all (fate_lines (i + 1) (drop (i + 1) fates)) start next first then
    unfolding fate_lines
    fates-turn h w = rw (add-one i) (left-turn (rw (drop-cons fates i 0 h) at l) w)

    pub fates-end : length fates ≤ i → Wrote all start at first now
    unfolding fate_lines
    fates-end h = left_end (rw (drop_of_length-le fates {i = i} h) at l)
