-- What changes no beat of note data: a blank byte that is no line feed, wherever it stands, and a line feed where no row is begun or where the row ends
-- anyway, behind a line feed or a comma, before a comma, and as the last byte. Assumes nothing.
use Prim.Native.Nat.{ℕ, suc, ◌+◌}
use mathlib.Core.Bool.{Bool, true, false, true≢false}
use mathlib.Core.List.{List, [], ◌∷◌, ◌++◌, map, append-nil}
use mathlib.Core.Path.{◌≡◌, refl, sym, ap, ap₂, ◌∙◌}
use native.Mathlib.Omega.{arith}
use lib.Dec.{eqb}
use lib.Ieee.{Float}
use borrow.Author.Tests.{ne_eqb}
use Rattle.picks.specs.Pick.{pick}
use Rattle.notes_rows.specs.Measures.{line_feed, comma, is_blank, one_if, first_part, later_parts, measures, parts}
use Rattle.notes_rows.specs.inside.Counting.{rows_from_here}
use Rattle.notes_rows.proofs.RowsByteByByte.{rows_byte_by_byte}
use Rattle.notes_rows.specs.RowBeats.{measure_beats, beats_from, rows_to_beats}

-- ---- the beats go by how many rows each measure has
abbrev rows_in : List ℕ → ℕ
rows_in measure = rows_from_here false measure

-- the rows of the measure at hand and of each behind it
counts : Bool → List ℕ → List ℕ
counts begun bytes = rows_from_here begun (first_part comma bytes) ∷ map rows_in (later_parts comma bytes)

by-counts : (measure : ℕ) (some other : List (List ℕ)) → map rows_in some ≡ map rows_in other → beats_from measure some ≡ beats_from measure other
unfolding beats_from
by-counts measure [] [] same = refl
by-counts measure [] (x ∷ other) same = let z : ◌≡◌ {A = ℕ} 0 1 = cc in absurd (omega arith)
by-counts measure (x ∷ some) [] same = let z : ◌≡◌ {A = ℕ} 0 1 = cc in absurd (omega arith)
by-counts measure (x ∷ some) (y ∷ other) same =
    let first : rows_in x ≡ rows_in y = cc in
    let rest : map rows_in some ≡ map rows_in other = cc in
    ap₂ (λ (n : ℕ) (l : List Float). measure_beats measure n ++ l) (rows_byte_by_byte x ∙ first ∙ sym (rows_byte_by_byte y)) (by-counts (suc measure) some other rest)

same-beats : (some other : List ℕ) → counts false some ≡ counts false other → rows_to_beats some ≡ rows_to_beats other
unfolding rows_to_beats parts counts
same-beats some other same = by-counts 0 (measures some) (measures other) same

-- ---- byte by byte

-- n rows more in the measure at hand
more : ℕ → List ℕ → List ℕ
more n [] = []
more n (rows ∷ rest) = (n + rows) ∷ rest

none_more : (list : List ℕ) → more 0 list ≡ list
unfolding more
none_more [] = refl
none_more (rows ∷ rest) = ap (λ (n : ℕ). n ∷ rest) (omega arith)

-- the counts from a byte on, by those behind it
after : Bool → ℕ → List ℕ → List ℕ
after begun byte bytes =
    pick (eqb byte comma) (one_if begun ∷ counts false bytes) (pick (eqb byte line_feed) (more (one_if begun) (counts false bytes)) (counts (pick (is_blank byte) begun true) bytes))

step : (begun : Bool) (byte : ℕ) (bytes : List ℕ) → counts begun (byte ∷ bytes) ≡ after begun byte bytes
unfolding counts after more first_part later_parts rows_from_here
step begun byte bytes = go (eqb byte comma)
  where
    go : (ends : Bool)
        → rows_from_here begun (pick ends [] (byte ∷ first_part comma bytes)) ∷ map rows_in (pick ends (first_part comma bytes ∷ later_parts comma bytes) (later_parts comma bytes))
        ≡ pick ends (one_if begun ∷ counts false bytes) (pick (eqb byte line_feed) (more (one_if begun) (counts false bytes)) (counts (pick (is_blank byte) begun true) bytes))
    go true = refl
    go false = inner (eqb byte line_feed)
      where
        inner : (t : Bool)
            → pick t (one_if begun + rows_from_here false (first_part comma bytes)) (rows_from_here (pick (is_blank byte) begun true) (first_part comma bytes)) ∷ map rows_in (later_parts comma bytes)
            ≡ pick t (more (one_if begun) (counts false bytes)) (counts (pick (is_blank byte) begun true) bytes)
        inner true = refl
        inner false = refl

-- ---- a change behind a front, where it changes no count whether or not a row is begun
abbrev Alike : List ℕ → List ℕ → Type 0
Alike some other = (begun : Bool) → counts begun some ≡ counts begun other

alike-behind : (front some other : List ℕ) → Alike some other → Alike (front ++ some) (front ++ other)
unfolding after
alike-behind [] some other alike begun = alike begun
alike-behind (byte ∷ front) some other alike begun =
    let rest = alike-behind front some other alike in
    step begun byte (front ++ some) ∙ rw (rest false, rest (pick (is_blank byte) begun true)) (sym (step begun byte (front ++ other)))

-- ---- the laws
comma-shows : is_blank comma ≡ false
unfolding is_blank
comma-shows = refl

pub blank_byte_changes_nothing : (front back : List ℕ) (byte : ℕ) → is_blank byte ≡ true → (byte ≡ line_feed → ⊥) → rows_to_beats (front ++ byte ∷ back) ≡ rows_to_beats (front ++ back)
unfolding after
blank_byte_changes_nothing front back byte blank no-feed =
    let no_comma : byte ≡ comma → ⊥ = λ e. let z : true ≡ false = sym blank ∙ ap is_blank e ∙ comma-shows in true≢false z in
    same-beats (front ++ byte ∷ back) (front ++ back)
    (alike-behind front (byte ∷ back) back (λ begun. step begun byte back ∙ rw (ne_eqb byte comma no_comma, ne_eqb byte line_feed no-feed, blank)) false)

module _ (front back : List ℕ) where
  -- 13, which stands before each line feed in some files
  pub carriage_return_changes_nothing : rows_to_beats (front ++ 13 ∷ back) ≡ rows_to_beats (front ++ back)
  unfolding is_blank
  carriage_return_changes_nothing = blank_byte_changes_nothing front back 13 refl (λ e. omega arith)

  pub feed_behind_feed : rows_to_beats (front ++ line_feed ∷ line_feed ∷ back) ≡ rows_to_beats (front ++ line_feed ∷ back)
  unfolding after
  feed_behind_feed =
      same-beats (front ++ line_feed ∷ line_feed ∷ back) (front ++ line_feed ∷ back)
      (alike-behind front (line_feed ∷ line_feed ∷ back) (line_feed ∷ back)
      (λ begun. step begun line_feed (line_feed ∷ back) ∙ ap (more (one_if begun)) (step false line_feed back ∙ none_more (counts false back)) ∙ sym (step begun line_feed back))
      false)

  pub feed_behind_comma : rows_to_beats (front ++ comma ∷ line_feed ∷ back) ≡ rows_to_beats (front ++ comma ∷ back)
  unfolding after
  feed_behind_comma =
      same-beats (front ++ comma ∷ line_feed ∷ back) (front ++ comma ∷ back)
      (alike-behind front (comma ∷ line_feed ∷ back) (comma ∷ back)
      (λ begun. step begun comma (line_feed ∷ back) ∙ ap (◌∷◌ (one_if begun)) (step false line_feed back ∙ none_more (counts false back)) ∙ sym (step begun comma back))
      false)

  pub feed_before_comma : rows_to_beats (front ++ line_feed ∷ comma ∷ back) ≡ rows_to_beats (front ++ comma ∷ back)
  unfolding after more
  feed_before_comma =
      same-beats (front ++ line_feed ∷ comma ∷ back) (front ++ comma ∷ back)
      (alike-behind front (line_feed ∷ comma ∷ back) (comma ∷ back)
      (λ begun. step begun line_feed (comma ∷ back) ∙ ap (more (one_if begun)) (step false comma back) ∙ ap (λ (n : ℕ). n ∷ counts false back) (omega arith) ∙ sym (step begun comma back))
      false)

pub feed_at_the_end : (front : List ℕ) → rows_to_beats (front ++ line_feed ∷ []) ≡ rows_to_beats front
unfolding after more counts first_part later_parts rows_from_here
feed_at_the_end front =
    same-beats (front ++ line_feed ∷ []) (front ++ [])
    (alike-behind front (line_feed ∷ []) [] (λ begun. step begun line_feed [] ∙ ap (λ (n : ℕ). n ∷ []) (omega arith)) false)
    ∙ ap rows_to_beats (append-nil front)

pub feed_at_the_front : (back : List ℕ) → rows_to_beats (line_feed ∷ back) ≡ rows_to_beats back
unfolding after
feed_at_the_front back = same-beats (line_feed ∷ back) back (step false line_feed back ∙ none_more (counts false back))
