-- Where each beat and each value stays by its limits, the list is taken and every entry stays. Assumes nothing.
use Prim.Native.Nat.{ℕ, ◌*◌, ◌^◌, ◌≤◌}
use mathlib.Core.Logic.{inl, inr}
use mathlib.Core.Path.{◌≡◌, refl, sym, subst, ◌∙◌}
use mathlib.Core.Bool.{Bool, true, false}
use mathlib.Core.List.{List, [], ◌∷◌}
use native.Mathlib.Omega.{arith}
use lib.Dec.{T}
use lib.IntN.{pos, negsuc}
use lib.ListN.{length}
use lib.Ieee.{Float, nan, inf, fin, up, down, lt, le, eq}
use lib.Ieee.Fits.{down_pos}
use lib.Ieee.Scale.{finite}
use Rattle.ieee.specs.Constants.{plus_zero}
use Rattle.picks.specs.Pick.{pick}
use Rattle.ieee.proofs.FloatOrder.{lt_or_le, lt_le, lt_not_le, le_sizes}
use Rattle.limits.specs.declared.Kind.TheVariants.{RawBeat, RawTempo}
use Rattle.limits.specs.Numbers.{range_of, in_range, every}
use Rattle.limits.proofs.ListTaken.{list-passes}
use Rattle.limits.proofs.Every.{every_rest, every_more}
use Rattle.order.specs.Entries.{entries}
use Rattle.columns.specs.Kept.{kept}
use Rattle.process_ssc.specs.Ssc.{stays_ssc, stayed_ssc}
use Rattle.process_ssc.specs.inside.Tests.{beat_stays, value_stays}
use Rattle.process_raw.specs.inside.TakenWhole.{TakenWhole}

pub no : {A : Type 0} → false ≡ true → A
no h = let z : ◌≡◌ {A = ℕ} 0 1 = cc in absurd (omega arith)

both : (a b : Bool) → pick a b false ≡ true → (a ≡ true) × (b ≡ true)
both true b h = (refl, h)
both false b h = no h

yes : (t : Bool) → T t → t ≡ true
yes true h = refl
yes false h = absurd h

finite-beat : (b : Float) → beat_stays b ≡ true → finite b ≡ true
unfolding beat_stays le lt eq
finite-beat nan h = no h
finite-beat (inf true) h = no h
finite-beat (inf false) h = no h
finite-beat (fin s m e) h = refl

finite-value : (v : Float) → value_stays v ≡ true → finite v ≡ true
unfolding value_stays le lt eq
finite-value nan h = no h
finite-value (inf true) h = no h
finite-value (inf false) h = no h
finite-value (fin s m e) h = refl

-- ---- a beat from 0 on, a value from the least on

abbrev least : Float
least = fin false 1 (negsuc 19)

beat-ends : (b : Float) → beat_stays b ≡ true → (le plus_zero b ≡ true) × (le b (fin false 1 (pos 16)) ≡ true)
unfolding beat_stays
beat-ends b h = both (le plus_zero b) (le b (fin false 1 (pos 16))) h

value-ends : (v : Float) → value_stays v ≡ true → (le least v ≡ true) × (le v (fin false 1 (pos 30)) ≡ true)
unfolding value_stays
value-ends v h = both (le least v) (le v (fin false 1 (pos 30))) h

not_below_lem : (x : Float) → T (finite x) → le plus_zero x ≡ true → lt x plus_zero ≡ false
not_below_lem x f h = go (lt x plus_zero) refl
  where
    go : (t : Bool) → lt x plus_zero ≡ t → lt x plus_zero ≡ false
    go true q = absurd (lt_not_le x plus_zero f tt (subst T (sym q) tt) (subst T (sym h) tt))
    go false q = q

-- neither 0 nor below it
above : (v : Float) → T (finite v) → le least v ≡ true → lt plus_zero v ≡ true
above nan f h = absurd f
above (inf s) f h = absurd f
above (fin s m e) f h = go s (lt plus_zero (fin s m e)) refl (subst T (sym h) tt)
  where
    go : (s t : Bool) → lt plus_zero (fin s m e) ≡ t → T (le least (fin s m e)) → t ≡ true
    go s true q l = refl
    go s false q l = absurd (elim (lt_or_le plus_zero (fin s m e) tt tt) [ inl k ↦ no (sym q ∙ yes (lt plus_zero (fin s m e)) k) | inr k ↦ none s k l ])
      where
        none : (s : Bool) → T (le (fin s m e) plus_zero) → T (le least (fin s m e)) → ⊥
        none true k l = let D = down_pos e in let sizes = le_sizes least (fin true m e) false true 1 (2 ^ 20) (m * up e) (down e) (refl, refl) (refl, refl) l in omega (arith, sizes.0)
        none false k l =
            let D = down_pos e in
            let low : 1 * down e ≤ m * up e * 2 ^ 20 = le_sizes least (fin false m e) false false 1 (2 ^ 20) (m * up e) (down e) (refl, refl) (refl, refl) l in
            let high : m * up e * 1 ≤ 0 * down e = le_sizes (fin false m e) plus_zero false false (m * up e) (down e) 0 1 (refl, refl) (refl, refl) k in
            omega arith

entry-stays : (b v : Float) → beat_stays b ≡ true → value_stays v ≡ true → stays_ssc (b, v) ≡ true
unfolding stays_ssc
entry-stays b v h k = rw (finite-beat b h, finite-value v k, (beat-ends b h).0, above v (subst T (sym (finite-value v k)) tt) (value-ends v k).0)

each-stays : (beats values : List Float) → length beats ≡ length values → every beat_stays beats ≡ true → every value_stays values ≡ true → length (stayed_ssc beats values) ≡ length beats
unfolding kept entries
each-stays [] values same h k = refl
each-stays (b ∷ beats) [] same h k = absurd (omega arith)
each-stays (b ∷ beats) (v ∷ values) same h k =
    let one = every_rest beat_stays b beats h in
    let other = every_rest value_stays v values k in
    rw (entry-stays b v one.0 other.0) (omega (arith, each-stays beats values (omega arith) one.1 other.1))

-- ---- and both are taken

beat-taken : (b : Float) → beat_stays b ≡ true → in_range (range_of RawBeat) b ≡ true
unfolding in_range
beat-taken b h = let ends = beat-ends b h in rw (not_below_lem b (subst T (sym (finite-beat b h)) tt) ends.0, ends.1, ends.0)

from_zero : (v : Float) → lt plus_zero v ≡ true → le plus_zero v ≡ true
from_zero v h = yes (le plus_zero v) (lt_le plus_zero v (subst T (sym h) tt))

value_taken : (v : Float) → value_stays v ≡ true → in_range (range_of RawTempo) v ≡ true
unfolding in_range
value_taken v h =
    let ends = value-ends v h in
    let f : T (finite v) = subst T (sym (finite-value v h)) tt in
    rw (not_below_lem v f (from_zero v (above v f ends.0)), ends.1, ends.0)

pub whole-list : (beats values : List Float) → length beats ≤ 1024 → length beats ≡ length values → every beat_stays beats ≡ true → every value_stays values ≡ true → TakenWhole stayed_ssc beats values
whole-list beats values few even h k = record {
  number = list-passes (range_of RawBeat) (range_of RawTempo) beats values few even (every_more beat_stays (in_range (range_of RawBeat)) beat-taken beats h) (every_more value_stays (in_range (range_of RawTempo)) value_taken values k);
  stay = each-stays beats values even h k;
}
