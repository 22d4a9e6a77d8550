-- Laying the list of events, event by event: what holds where the loop begins, after each turn, and where it ends. Assumes nothing.
use Rattle.std.proofs.Common.{◌≡◌, ℕ, zero, suc, ◌+◌, ◌^◌, ◌<◌, ◌≤◌, Bool, true, false, eqb, List, [], ◌∷◌, map, length, set, ℤ, refl, ap, ◌∙◌, arith}
use lib.ListN.{length-map}
use lib.Ieee.{Float}
use Rattle.picks.specs.Pick.{pick}
use Rattle.order.proofs.LaidOverFront.{Laying, laying-none, laying-more, laying-all, laying-count}
use Rattle.chart.specs.Timing.{Timing}
use Rattle.clock_bench.specs.EventList.{none_left, tempo_begins, delay_begins, stop_begins, warp_begins, next_head, bringing, next_listed, spot_past, first_spot, listed_within}
use Rattle.clock_bench.specs.EventRoom.{event_room, room_with, listed_row, listed_kind, listed_number}
use Rattle.clock_bench.specs.inside.SpotFits.{SpotFits}
use Rattle.clock_bench.specs.declared.Head.{Head}
use Rattle.clock_bench.specs.declared.Listed.{Listed}
use Rattle.clock_bench.specs.declared.Spot.{Spot}

-- ---- the places of a spot

abbrev places : Spot → ℕ
places p = p.tempos + p.stops + p.delays + p.warps

places-past : (p : Spot) (kind : ℕ) (number : Float) → places (spot_past p kind number) ≤ places p + 1
unfolding spot_past
places-past p kind number = go (eqb kind tempo_begins) (eqb kind delay_begins) (eqb kind stop_begins) (eqb kind warp_begins)
  where
    go : (a b c d : Bool) → places (pick a (record { tempos = p.tempos + 1; stops = p.stops; delays = p.delays; warps = p.warps; end = p.end; warping = p.warping })
        (pick b (record { tempos = p.tempos; stops = p.stops; delays = p.delays + 1; warps = p.warps; end = p.end; warping = p.warping })
        (pick c (record { tempos = p.tempos; stops = p.stops + 1; delays = p.delays; warps = p.warps; end = p.end; warping = p.warping })
        (pick d (record { tempos = p.tempos; stops = p.stops; delays = p.delays; warps = p.warps + 1; end = number; warping = true })
        (record { tempos = p.tempos; stops = p.stops; delays = p.delays; warps = p.warps; end = p.end; warping = false }))))) ≤ places p + 1
    go true b c d = omega arith
    go false true c d = omega arith
    go false false true d = omega arith
    go false false false true = omega arith
    go false false false false = omega arith

-- ---- the list from a spot on

module _ (t : Timing) (p : Spot) where
  abbrev head_of : Head
  head_of = next_head t.tempo_beats t.stop_beats t.delay_beats t.warp_beats p

  abbrev number_for : ℕ → Float
  number_for kind = bringing t.tempo_values t.stop_values t.delay_values t.warp_beats t.warp_lengths p kind

  list-none : (left : ℕ) (head : Head) → head ≡ head_of → eqb head.kind none_left ≡ true → listed_within left t p ≡ []
  unfolding listed_within next_listed
  list-none zero head e h = refl
  list-none (suc left) head e h = rw (← e, h)

  list-more : (left : ℕ) (head : Head) (number : Float) → head ≡ head_of → number ≡ number_for head.kind → eqb head.kind none_left ≡ false
      → listed_within (suc left) t p ≡ record { row = head.row; kind = head.kind; number = number } ∷ listed_within left t (spot_past p head.kind number)
  unfolding listed_within next_listed
  list-more left head number e f h = rw (← e, h, f)

-- ---- the loop

module _ (most : ℕ) (t : Timing) (rows₀ : List ℤ) (kinds₀ : List ℕ) (numbers₀ : List Float) where
  abbrev whole : List Listed
  whole = listed_within most t first_spot

  -- i events are laid, and the spot that stands there has the others
  pub record Growing (rows : List ℤ) (kinds : List ℕ) (numbers : List Float) (p : Spot) (i : ℕ) : Type 0 where
    pub left : ℕ
    pub sum : i + left ≡ most
    pub few : places p ≤ i
    pub of_rows : Laying (map listed_row whole) rows₀ rows (map listed_row (listed_within left t p)) i
    pub of_kinds : Laying (map listed_kind whole) kinds₀ kinds (map listed_kind (listed_within left t p)) i
    pub of_numbers : Laying (map listed_number whole) numbers₀ numbers (map listed_number (listed_within left t p)) i

  pub begun : Growing rows₀ kinds₀ numbers₀ first_spot 0
  begun = record {
    left = most;
    sum = omega arith;
    few = omega arith;
    of_rows = laying-none (map listed_row whole) rows₀;
    of_kinds = laying-none (map listed_kind whole) kinds₀;
    of_numbers = laying-none (map listed_number whole) numbers₀;
  }

  module _ (rows : List ℤ) (kinds : List ℕ) (numbers : List Float) (p : Spot) (i : ℕ) (g : Growing rows kinds numbers p i) where
    pub spot-fits : i < most → most ≤ length rows₀ → length rows₀ < 2 ^ 63 → SpotFits p
    spot-fits h k l = record { tempos = omega (arith, g.few); stops = omega (arith, g.few); delays = omega (arith, g.few); warps = omega (arith, g.few) }

    -- there is room for the next one
    row_room : i < most → most ≤ length rows₀ → i < length rows
    row_room h k = omega (arith, g.of_rows.size)

    kind-room : i < most → most ≤ length kinds₀ → i < length kinds
    kind-room h k = omega (arith, g.of_kinds.size)

    number-room : i < most → most ≤ length numbers₀ → i < length numbers
    number-room h k = omega (arith, g.of_numbers.size)

    complete : listed_within g.left t p ≡ [] → (i ≡ length whole) × (event_room rows kinds numbers ≡ room_with whole (event_room rows₀ kinds₀ numbers₀))
    unfolding room_with
    complete none =
        let count : i ≡ length (map listed_row whole) = laying-count _ _ _ _ i g.of_rows (ap (map listed_row) none) in (
          count ∙ length-map whole listed_row,
          rw (laying-all _ _ _ _ i g.of_rows (ap (map listed_row) none), laying-all _ _ _ _ i g.of_kinds (ap (map listed_kind) none), laying-all _ _ _ _ i g.of_numbers (ap (map listed_number) none)),
        )

    -- nothing is left
    pub spent : (head : Head) → head ≡ head_of t p → eqb head.kind none_left ≡ true → (i ≡ length whole) × (event_room rows kinds numbers ≡ room_with whole (event_room rows₀ kinds₀ numbers₀))
    spent head e h = complete (list-none t p g.left head e h)

    -- as many as there can be
    pub full : most ≤ i → (i ≡ length whole) × (event_room rows kinds numbers ≡ room_with whole (event_room rows₀ kinds₀ numbers₀))
    unfolding listed_within
    full h = complete (none g.left g.sum)
      where
        none : (left : ℕ) → i + left ≡ most → listed_within left t p ≡ []
        none zero e = refl
        none (suc left) e = absurd (omega arith)

    pub turned : (head : Head) (number : Float) → head ≡ head_of t p → number ≡ number_for t p head.kind → eqb head.kind none_left ≡ false
        → i < most → most ≤ length rows₀ → most ≤ length kinds₀ → most ≤ length numbers₀
        → Growing (set rows i head.row) (set kinds i head.kind) (set numbers i number) (spot_past p head.kind number) (i + 1)
    turned head number e f h under in_rows in_kinds in_numbers = go g.left g.sum g.of_rows g.of_kinds g.of_numbers
      where
        go : (left : ℕ) → i + left ≡ most
            → Laying (map listed_row whole) rows₀ rows (map listed_row (listed_within left t p)) i
            → Laying (map listed_kind whole) kinds₀ kinds (map listed_kind (listed_within left t p)) i
            → Laying (map listed_number whole) numbers₀ numbers (map listed_number (listed_within left t p)) i
            → Growing (set rows i head.row) (set kinds i head.kind) (set numbers i number) (spot_past p head.kind number) (i + 1)
        go zero sum of_rows of_kinds of_numbers = absurd (omega arith)
        go (suc left) sum of_rows of_kinds of_numbers =
            let more = list-more t p left head number e f h in
            record {
              left = left;
              sum = omega arith;
              few = omega (arith, places-past p head.kind number, g.few);
              of_rows = laying-more _ _ _ _ i of_rows head.row _ (ap (map listed_row) more) (row_room under in_rows);
              of_kinds = laying-more _ _ _ _ i of_kinds head.kind _ (ap (map listed_kind) more) (kind-room under in_kinds);
              of_numbers = laying-more _ _ _ _ i of_numbers number _ (ap (map listed_number) more) (number-room under in_numbers);
            }
