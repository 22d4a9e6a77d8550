-- Each way in which filling the work list ends is its one outcome. Assumes nothing.
use Rattle.std.proofs.Common.{◌≡◌, ℕ, ◌/◌, true, false, eqb, leb, List, [], length, sym, refl, ap, ◌∙◌, arith, eq-eqb, ne_eqb}
use lib.Ieee.{Float}
use Rattle.order.specs.Order.{laid}
use Rattle.columns.specs.Laying.{given}
use Rattle.stops_for_sm.specs.Merging.{Sources, merged_stops, at_first}
use Rattle.stops_for_sm.specs.Filling.{flat, is_own, lacks_tempo, sources_number, result_number, fill_number, filling, StopsFilled}
use Rattle.stops_for_sm.proofs.TurnByTurn.{flat-length}

none_filled : (s : Sources) (n : ℕ) → eqb n 0 ≡ false → filling n s ≡ []
unfolding filling given
none_filled s n e = rw e

nothing-laid : (old : List Float) → old ≡ laid (flat []) old
unfolding laid flat
nothing-laid old = refl

module _ (s : Sources) (old : List Float) where
  -- a refusal writes nothing
  refusal : (n : ℕ) → n ≡ fill_number s (length old) → eqb n 0 ≡ false → StopsFilled s (record { number = n; count = 0; own = false }) old old
  refusal n is some = record {
    number = is;
    count = sym (ap length (none_filled s n some));
    own = rw some;
    work = nothing-laid old ∙ sym (ap (λ (l : List (Float × Float)). laid (flat l) old) (none_filled s n some));
  }

  pub refused_by_lists : (n : ℕ) → n ≡ sources_number s (length old) → (n ≡ 0 → ⊥) → StopsFilled s (record { number = n; count = 0; own = false }) old old
  unfolding fill_number
  refused_by_lists n is some = let e = ne_eqb n 0 some in refusal n (rw (← is, e) refl) e

  module _ (taken : sources_number s (length old) ≡ 0) where
    by_result : fill_number s (length old) ≡ result_number s (length old / 2)
    unfolding fill_number
    by_result = rw (eq-eqb (sources_number s (length old)) 0 taken)

    pub callers_own : is_own s ≡ true → StopsFilled s (record { number = 0; count = 0; own = true }) old old
    unfolding result_number filling given
    callers_own own = record { number = sym (by_result ∙ rw own refl); count = rw own; own = rw own; work = rw own (nothing-laid old) }

    module _ (other : is_own s ≡ false) where
      pub no-tempo : lacks_tempo s ≡ true → StopsFilled s (record { number = 8; count = 0; own = false }) old old
      unfolding result_number
      no-tempo lacks = refusal 8 (sym (by_result ∙ rw (other, lacks) refl)) refl

      module _ (tempo : lacks_tempo s ≡ false) where
        pub no_room : leb (length (merged_stops s at_first)) (length old / 2) ≡ false → StopsFilled s (record { number = 7; count = 0; own = false }) old old
        unfolding result_number
        no_room long = refusal 7 (sym (by_result ∙ rw (other, tempo, long) refl)) refl

        pub laid-whole : (size : ℕ) (new : List Float) → leb (length (merged_stops s at_first)) (length old / 2) ≡ true → size ≡ length (flat (merged_stops s at_first)) → new ≡ laid (flat (merged_stops s at_first)) old
            → StopsFilled s (record { number = 0; count = size / 2; own = false }) old new
        unfolding result_number filling given
        laid-whole size new fits is laid-is = record {
          number = sym (by_result ∙ rw (other, tempo, fits) refl);
          count = rw other (omega (arith, is, flat-length (merged_stops s at_first)));
          own = rw other;
          work = rw other laid-is;
        }
