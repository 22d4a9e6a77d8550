-- Pieces written one behind another are what they make together. Assumes nothing.
use Prim.Native.Nat.{ℕ, ◌+◌, ◌≤◌, ◌<◌}
use mathlib.Core.Path.{◌≡◌, refl, sym, ap, subst, ◌∙◌}
use mathlib.Core.List.{List, [], ◌∷◌, ◌++◌, append_assoc}
use borrow.Author.Tests.{lt-ltb, le-ltb}
use lib.ListN.{length, set, length-set}
use lib.Seq.{set_out}
use Rattle.text_page.specs.Page.{next_place, place_behind, page_with, Wrote}

pub written-length : (at : ℕ) (bytes page : List ℕ) → length (page_with at bytes page) ≡ length page
unfolding page_with
written-length at [] page = refl
written-length at (byte ∷ bytes) page = written-length (next_place (length page) at) bytes (set page at byte) ∙ length-set page at byte

end-join : (room at : ℕ) (bytes more : List ℕ) → place_behind room at (bytes ++ more) ≡ place_behind room (place_behind room at bytes) more
unfolding place_behind
end-join room at [] more = refl
end-join room at (byte ∷ bytes) more = end-join room (next_place room at) bytes more

written-join : (at : ℕ) (bytes more page : List ℕ) → page_with at (bytes ++ more) page ≡ page_with (place_behind (length page) at bytes) more (page_with at bytes page)
unfolding page_with place_behind
written-join at [] more page = refl
written-join at (byte ∷ bytes) more page =
    let next = next_place (length page) at in
    let same : length (set page at byte) ≡ length page = length-set page at byte in
    written-join next bytes more (set page at byte)
    ∙ ap (λ (n : ℕ). page_with (place_behind n next bytes) more (page_with next bytes (set page at byte))) same

-- a piece behind another
pub wrote-join : {bytes more : List ℕ} {at middle end : ℕ} {old half new : List ℕ} → Wrote bytes at middle old half → Wrote more middle end half new → Wrote (bytes ++ more) at end old new
wrote-join {bytes} {more} {at} {middle} {end} {old} {half} {new} a b =
    let kept : length half ≡ length old = ap length a.page ∙ written-length at bytes old in
    record {
      ends = b.ends ∙ ap (λ (n : ℕ). place_behind n middle more) kept ∙ ap (λ (n : ℕ). place_behind (length old) n more) a.ends ∙ sym (end-join (length old) at bytes more);
      page = b.page ∙ ap (λ (n : ℕ). page_with n more half) a.ends ∙ ap (λ (l : List ℕ). page_with (place_behind (length old) at bytes) more l) a.page ∙ sym (written-join at bytes more old);
    }

pub wrote_as : {bytes others : List ℕ} {at end : ℕ} {old new : List ℕ} → bytes ≡ others → Wrote bytes at end old new → Wrote others at end old new
wrote_as {at = at} {end = end} {old = old} {new = new} e w = subst (λ (l : List ℕ). Wrote l at end old new) e w

-- behind a piece with the byte that ends it
pub wrote_after : (bytes : List ℕ) (last : ℕ) {more : List ℕ} {at middle end : ℕ} {old half new : List ℕ} → Wrote (bytes ++ (last ∷ [])) at middle old half → Wrote more middle end half new → Wrote (bytes ++ ((last ∷ []) ++ more)) at end old new
wrote_after bytes last {more} a b = wrote_as (append_assoc bytes (last ∷ []) more) (wrote-join a b)

pub wrote-length : {bytes : List ℕ} {at end : ℕ} {old new : List ℕ} → Wrote bytes at end old new → length new ≡ length old
wrote-length {bytes} {at} {end} {old} w = ap length w.page ∙ written-length at bytes old

pub wrote_none : (at : ℕ) (page : List ℕ) → Wrote [] at at page page
unfolding place_behind page_with
wrote_none at page = record { ends = refl; page = refl }

-- what is written and what is left to write, in a loop: together they are all
pub record Left (all left : List ℕ) (start at : ℕ) (first now : List ℕ) : Type 0 where
  pub size : length now ≡ length first
  pub leads : (end : ℕ) (last : List ℕ) → Wrote left at end now last → Wrote all start end first last

pub left-start : (all : List ℕ) (start : ℕ) (first : List ℕ) → Left all all start start first first
left-start all start first = record { size = refl; leads = λ end last w. w }

pub left-turn : {all bytes rest : List ℕ} {start at next : ℕ} {first now then : List ℕ} → Left all (bytes ++ rest) start at first now → Wrote bytes at next now then → Left all rest start next first then
left-turn l w = record { size = wrote-length w ∙ l.size; leads = λ end last more. l.leads end last (wrote-join w more) }

pub left_end : {all : List ℕ} {start at : ℕ} {first now : List ℕ} → Left all [] start at first now → Wrote all start at first now
left_end {at = at} {now = now} l = l.leads at now (wrote_none at now)

-- ---- one byte, on the page or past its end
pub wrote_in : (page : List ℕ) (at byte : ℕ) → at < length page → Wrote (byte ∷ []) at (at + 1) page (set page at byte)
unfolding place_behind page_with next_place
wrote_in page at byte h = record { ends = rw (lt-ltb at (length page) h); page = refl }

pub wrote-past : (page : List ℕ) (at byte : ℕ) → length page ≤ at → Wrote (byte ∷ []) at at page page
unfolding place_behind page_with next_place
wrote-past page at byte h = record { ends = rw (le-ltb at (length page) h); page = sym (set_out page at byte h) }
