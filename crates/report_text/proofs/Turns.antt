-- One turn of each loop: what is left of the lines. Assumes nothing.
use Prim.Native.Nat.{ℕ, suc, ◌+◌, ◌≤◌, ◌<◌}
use mathlib.Core.Path.{◌≡◌, refl}
use mathlib.Core.List.{List, [], ◌∷◌}
use native.Mathlib.Omega.{arith}
use native.Mathlib.Numerals.{add-one}
use lib.ListN.{length, take, drop, get_or, length-take, drop_of_length-le}
use lib.Seq.{drop-cons, get_or-take}
use lib.Ieee.{Float, nan}
use Rattle.text_page.specs.Page.{Wrote}
use Rattle.report_text.specs.Output.{pair_line, pair_lines, speed_line, speed_lines, warp_line, warp_lines}
use Rattle.text_page.proofs.Joined.{Left, left-turn, left_end}

-- a column that has ended ends the lines
no_value : (word : List ℕ) (beats : List Float) → pair_lines word beats [] ≡ []
unfolding pair_lines
no_value word [] = refl
no_value word (beat ∷ beats) = refl

no-ratio : (beats waits : List Float) (units : List ℕ) → speed_lines beats [] waits units ≡ []
unfolding speed_lines
no-ratio [] waits units = refl
no-ratio (beat ∷ beats) waits units = refl

no_wait : (beats ratios : List Float) (units : List ℕ) → speed_lines beats ratios [] units ≡ []
unfolding speed_lines
no_wait [] ratios units = refl
no_wait (beat ∷ beats) [] units = refl
no_wait (beat ∷ beats) (ratio ∷ ratios) units = refl

no-unit : (beats ratios waits : List Float) → speed_lines beats ratios waits [] ≡ []
unfolding speed_lines
no-unit [] ratios waits = refl
no-unit (beat ∷ beats) [] waits = refl
no-unit (beat ∷ beats) (ratio ∷ ratios) [] = refl
no-unit (beat ∷ beats) (ratio ∷ ratios) (wait ∷ waits) = refl

no_size : (beats : List Float) (marks : List ℕ) → warp_lines beats [] marks ≡ []
unfolding warp_lines
no_size [] marks = refl
no_size (beat ∷ beats) marks = refl

no-mark : (beats sizes : List Float) → warp_lines beats sizes [] ≡ []
unfolding warp_lines
no-mark [] sizes = refl
no-mark (beat ∷ beats) [] = refl
no-mark (beat ∷ beats) (size ∷ sizes) = refl

-- what is left of the first entries of a column, behind the first i of them
module _ {A : Type 0} (l : List A) (count i : ℕ) where
  front_cons : (d : A) → i < count → i < length l → drop i (take count l) ≡ get_or l i d ∷ drop (suc i) (take count l)
  front_cons d c h = rw (drop-cons (take count l) i d (omega (arith, length-take count l)), get_or-take count l i d c)

  front-all : count ≤ i → drop i (take count l) ≡ []
  front-all h = drop_of_length-le (take count l) {i = i} (omega (arith, length-take count l))

  front-end : length l ≤ i → drop i (take count l) ≡ []
  front-end h = drop_of_length-le (take count l) {i = i} (omega (arith, length-take count l))

module _ {all : List ℕ} {start at : ℕ} {first now : List ℕ} where
  -- ---- lines of two columns
  pub pairs-turn : {next : ℕ} {then : List ℕ} (word : List ℕ) (count : ℕ) (beats values : List Float) (i : ℕ) → i < count → i < length beats → i < length values
      → Left all (pair_lines word (drop i (take count beats)) (drop i (take count values))) start at first now
      → Wrote (pair_line word (get_or beats i nan) (get_or values i nan)) at next now then → Left all (pair_lines word (drop (i + 1) (take count beats)) (drop (i + 1) (take count values))) start next first then
  unfolding pair_lines
  pairs-turn word count beats values i c h k l w = rw (add-one i) (left-turn (rw (front_cons beats count i nan c h, front_cons values count i nan c k) at l) w)

  module _ (word : List ℕ) (count : ℕ) (beats values : List Float) (i : ℕ) (l : Left all (pair_lines word (drop i (take count beats)) (drop i (take count values))) start at first now) where
    pub pairs-all : count ≤ i → Wrote all start at first now
    unfolding pair_lines
    pairs-all h = left_end (rw (front-all beats count i h) at l)

    pub pairs_end : length beats ≤ i → Wrote all start at first now
    unfolding pair_lines
    pairs_end h = left_end (rw (front-end beats count i h) at l)

    pub pairs-short : length values ≤ i → Wrote all start at first now
    pairs-short h = left_end (rw (front-end values count i h, no_value word (drop i (take count beats))) at l)

  -- ---- speed lines
  pub speeds-turn : {next : ℕ} {then : List ℕ} (count : ℕ) (beats ratios waits : List Float) (units : List ℕ) (i : ℕ) → i < count → i < length beats → i < length ratios → i < length waits → i < length units
      → Left all (speed_lines (drop i (take count beats)) (drop i (take count ratios)) (drop i (take count waits)) (drop i (take count units))) start at first now
      → Wrote (speed_line (get_or beats i nan) (get_or ratios i nan) (get_or waits i nan) (get_or units i 0)) at next now then
      → Left all (speed_lines (drop (i + 1) (take count beats)) (drop (i + 1) (take count ratios)) (drop (i + 1) (take count waits)) (drop (i + 1) (take count units))) start next first then
  unfolding speed_lines
  speeds-turn count beats ratios waits units i n a b c d l w =
      rw (add-one i)
      (left-turn (rw (front_cons beats count i nan n a, front_cons ratios count i nan n b, front_cons waits count i nan n c, front_cons units count i 0 n d) at l) w)

  module _ (count : ℕ) (beats ratios waits : List Float) (units : List ℕ) (i : ℕ)
      (l : Left all (speed_lines (drop i (take count beats)) (drop i (take count ratios)) (drop i (take count waits)) (drop i (take count units))) start at first now) where
    pub speeds-all : count ≤ i → Wrote all start at first now
    unfolding speed_lines
    speeds-all h = left_end (rw (front-all beats count i h) at l)

    pub speeds-end : length beats ≤ i → Wrote all start at first now
    unfolding speed_lines
    speeds-end h = left_end (rw (front-end beats count i h) at l)

    pub speeds_no_ratio : length ratios ≤ i → Wrote all start at first now
    speeds_no_ratio h = left_end (rw (front-end ratios count i h, no-ratio (drop i (take count beats)) (drop i (take count waits)) (drop i (take count units))) at l)

    pub speeds_no_wait : length waits ≤ i → Wrote all start at first now
    speeds_no_wait h = left_end (rw (front-end waits count i h, no_wait (drop i (take count beats)) (drop i (take count ratios)) (drop i (take count units))) at l)

    pub speeds_no_unit : length units ≤ i → Wrote all start at first now
    speeds_no_unit h = left_end (rw (front-end units count i h, no-unit (drop i (take count beats)) (drop i (take count ratios)) (drop i (take count waits))) at l)

  -- ---- warp lines
  pub warps-turn : {next : ℕ} {then : List ℕ} (count : ℕ) (beats sizes : List Float) (marks : List ℕ) (i : ℕ) → i < count → i < length beats → i < length sizes → i < length marks
      → Left all (warp_lines (drop i (take count beats)) (drop i (take count sizes)) (drop i (take count marks))) start at first now
      → Wrote (warp_line (get_or beats i nan) (get_or sizes i nan) (get_or marks i 0)) at next now then
      → Left all (warp_lines (drop (i + 1) (take count beats)) (drop (i + 1) (take count sizes)) (drop (i + 1) (take count marks))) start next first then
  unfolding warp_lines
  warps-turn count beats sizes marks i n a b c l w =
      rw (add-one i) (left-turn (rw (front_cons beats count i nan n a, front_cons sizes count i nan n b, front_cons marks count i 0 n c) at l) w)

  module _ (count : ℕ) (beats sizes : List Float) (marks : List ℕ) (i : ℕ)
      (l : Left all (warp_lines (drop i (take count beats)) (drop i (take count sizes)) (drop i (take count marks))) start at first now) where
    pub warps-all : count ≤ i → Wrote all start at first now
    unfolding warp_lines
    warps-all h = left_end (rw (front-all beats count i h) at l)

    pub warps-end : length beats ≤ i → Wrote all start at first now
    unfolding warp_lines
    warps-end h = left_end (rw (front-end beats count i h) at l)

    pub warps_no_size : length sizes ≤ i → Wrote all start at first now
    warps_no_size h = left_end (rw (front-end sizes count i h, no_size (drop i (take count beats)) (drop i (take count marks))) at l)

    pub warps_no_mark : length marks ≤ i → Wrote all start at first now
    warps_no_mark h = left_end (rw (front-end marks count i h, no-mark (drop i (take count beats)) (drop i (take count sizes))) at l)
