-- Entry by entry: what is left of the text behind the first ones. Assumes nothing.
use Prim.Native.Nat.{ℕ, suc, ◌+◌, ◌≤◌, ◌<◌}
use mathlib.Core.Path.{◌≡◌, refl, sym, ap, ◌∙◌}
use mathlib.Core.List.{List, [], ◌∷◌, ◌++◌, map}
use native.Mathlib.Numerals.{add-one}
use native.Mathlib.Omega.{arith}
use lib.ListN.{length, drop, get_or, drop_of_length-le, length-append, length-map, get_or-map}
use lib.Seq.{drop-cons}
use lib.Ieee.{Float, nan}
use Rattle.ieee.specs.Narrowing.{narrow}
use Rattle.ieee.proofs.Narrow.{narrow-nan}
use Rattle.order.specs.Entries.{entries}
use Rattle.order.proofs.Columns.{length-entries, entries-get_or}
use Rattle.text_page.specs.Page.{Wrote}
use Rattle.text_page.proofs.Joined.{Left, wrote_as, left-start, left-turn, left_end}
use Rattle.text_tempos.specs.TempoText.{entry_text, behind_commas, commas_between, tempo_text}
use Rattle.text_tempos.specs.inside.TextsLeft.{comma_before, texts_from}

-- ---- a comma before each text but the first is a comma between each two
behind-from : (i : ℕ) (texts : List (List ℕ)) → behind_commas texts ≡ texts_from (suc i) texts
unfolding behind_commas texts_from
behind-from i [] = refl
behind-from i (text ∷ texts) = ap (λ (l : List ℕ). 44 ∷ (text ++ l)) (behind-from (suc i) texts)

between-from : (texts : List (List ℕ)) → commas_between texts ≡ texts_from 0 texts
unfolding commas_between texts_from
between-from [] = refl
between-from (text ∷ texts) = ap (λ (l : List ℕ). text ++ l) (behind-from 0 texts)

-- ---- what is left from entry number i on
abbrev pub left : List Float → List Float → ℕ → List ℕ
left beats tempos i = texts_from i (drop i (map entry_text (entries beats tempos)))

abbrev pub entry_at : List Float → List Float → ℕ → List ℕ
entry_at beats tempos i = comma_before i ++ entry_text (get_or beats i nan, get_or tempos i nan)

all_left : (beats tempos : List Float) → tempo_text beats tempos ≡ left beats tempos 0
unfolding tempo_text
all_left beats tempos = between-from (map entry_text (entries beats tempos))

module _ (beats tempos : List Float) (same : length beats ≡ length tempos) (i : ℕ) where
  count : length (map entry_text (entries beats tempos)) ≡ length beats
  count = length-map (entries beats tempos) entry_text ∙ length-entries beats tempos same

  left_cons : i < length beats → left beats tempos i ≡ entry_at beats tempos i ++ left beats tempos (i + 1)
  unfolding texts_from
  left_cons h =
      let texts = map entry_text (entries beats tempos) in
      let one : get_or texts i (entry_text (nan, nan)) ≡ entry_text (get_or beats i nan, get_or tempos i nan) =
      get_or-map entry_text (entries beats tempos) i (nan, nan) ∙ ap entry_text (entries-get_or beats tempos i nan nan same) in
      rw (drop-cons texts i (entry_text (nan, nan)) (omega (arith, count)), one, add-one i)

  left-none : length beats ≤ i → left beats tempos i ≡ []
  unfolding texts_from
  left-none h =
      let none : drop i (map entry_text (entries beats tempos)) ≡ [] = drop_of_length-le (map entry_text (entries beats tempos)) {i = i} (omega (arith, count)) in
      rw none

-- ---- written
pub entries-start : (beats tempos : List Float) (page : List ℕ) → Left (tempo_text beats tempos) (left beats tempos 0) 0 0 page page
entries-start beats tempos page = rw (← all_left beats tempos) (left-start (tempo_text beats tempos) 0 page)

module _ (beats tempos : List Float) (same : length beats ≡ length tempos) (i : ℕ) {all : List ℕ} {start at : ℕ} {first now : List ℕ}
    (l : Left all (left beats tempos i) start at first now) where
  pub entries-turn : {next : ℕ} {then : List ℕ} → i < length beats → Wrote (entry_at beats tempos i) at next now then → Left all (left beats tempos (i + 1)) start next first then
  entries-turn h w = left-turn (rw (left_cons beats tempos same i h) at l) w

  pub entries-end : length beats ≤ i → Wrote all start at first now
  entries-end h = left_end (rw (left-none beats tempos same i h) at l)

-- ---- counted: so many bytes before entry number i, and those that are left
abbrev pub Counted : List Float → List Float → ℕ → ℕ → Type 0
Counted beats tempos size i = size + length (left beats tempos i) ≡ length (tempo_text beats tempos)

pub counted_start : (beats tempos : List Float) → Counted beats tempos 0 0
counted_start beats tempos = omega (arith, ap length (all_left beats tempos))

module _ (beats tempos : List Float) (same : length beats ≡ length tempos) (size i : ℕ) (counted : Counted beats tempos size i) where
  pub counted-turn : i < length beats → Counted beats tempos (size + length (entry_at beats tempos i)) (i + 1)
  counted-turn h = omega (arith, ap length (left_cons beats tempos same i h), length-append (entry_at beats tempos i) (left beats tempos (i + 1)))

  pub counted-end : length beats ≤ i → size ≡ length (tempo_text beats tempos)
  counted-end h = omega (arith, ap length (left-none beats tempos same i h))

-- ---- of f64 columns, narrowed
narrowed_at : (list : List Float) (i : ℕ) → get_or (map narrow list) i nan ≡ narrow (get_or list i nan)
narrowed_at list i = rw narrow-nan at (get_or-map narrow list i nan)

-- an entry, as a loop over the columns has it
abbrev pub narrowed_at_place : List Float → List Float → ℕ → List ℕ
narrowed_at_place beats tempos i = comma_before i ++ entry_text (narrow (get_or beats i nan), narrow (get_or tempos i nan))

narrowed-entry : (beats tempos : List Float) (i : ℕ) → entry_at (map narrow beats) (map narrow tempos) i ≡ narrowed_at_place beats tempos i
narrowed-entry beats tempos i = rw (narrowed_at beats i, narrowed_at tempos i)

module _ (beats tempos : List Float) (same : length beats ≡ length tempos) (i : ℕ) where
  narrowed-same : length (map narrow beats) ≡ length (map narrow tempos)
  narrowed-same = length-map beats narrow ∙ same ∙ sym (length-map tempos narrow)

  module _ {all : List ℕ} {start at : ℕ} {first now : List ℕ} (l : Left all (left (map narrow beats) (map narrow tempos) i) start at first now) where
    pub narrowed-turn : {next : ℕ} {then : List ℕ} → i < length beats → Wrote (narrowed_at_place beats tempos i) at next now then
        → Left all (left (map narrow beats) (map narrow tempos) (i + 1)) start next first then
    narrowed-turn h w =
        entries-turn (map narrow beats) (map narrow tempos) narrowed-same i l (omega (arith, length-map beats narrow)) (wrote_as (sym (narrowed-entry beats tempos i)) w)

    pub narrowed-end : length beats ≤ i → Wrote all start at first now
    narrowed-end h = entries-end (map narrow beats) (map narrow tempos) narrowed-same i l (omega (arith, length-map beats narrow))

  module _ (size : ℕ) (counted : Counted (map narrow beats) (map narrow tempos) size i) where
    pub narrowed-counted : i < length beats → Counted (map narrow beats) (map narrow tempos) (size + length (narrowed_at_place beats tempos i)) (i + 1)
    narrowed-counted h =
        rw (narrowed-entry beats tempos i) at (counted-turn (map narrow beats) (map narrow tempos) narrowed-same size i counted (omega (arith, length-map beats narrow)))

    pub narrowed-all : length beats ≤ i → size ≡ length (tempo_text (map narrow beats) (map narrow tempos))
    narrowed-all h = counted-end (map narrow beats) (map narrow tempos) narrowed-same size i counted (omega (arith, length-map beats narrow))
