-- By which number raw lists are refused once they are walked: by their own, or for the walk's room. Assumes nothing.
use mathlib.Core.Path.{◌≡◌, sym, ◌∙◌}
use mathlib.Core.List.{List, map}
use mathlib.Core.Logic.{⊎_elim}
use borrow.Author.Tests.{eq-eqb, ne_eqb}
use lib.ListN.{length, length-map}
use lib.Ieee.{Float}
use Rattle.order.specs.Entries.{first, second}
use Rattle.order.proofs.Compare.{same?}
use Rattle.process_raw.specs.RawLists.{raw_numbers}
use Rattle.process_raw.proofs.BothTaken.{both-taken}
use Rattle.process_sm_changes.specs.SmChanges.{sm_changes}
use Rattle.process_sm_walk.specs.Columns.{Columns, most_written}
use Rattle.process_sm_walk.specs.Walking.{chart_number, walk_number}
use Rattle.process_sm_walk.specs.inside.Rooms.{Room}
use Rattle.process_sm_laws.proofs.ChangesTaken.{same-columns, changes-numbers, walk_takes}
use Rattle.process_sm_walk_raw.specs.RawWalk.{walked_number}

module _ (tempo_beats tempo_values stop_beats stop_values : List Float) (into : Columns) where
  pub number-refused : (raw_numbers tempo_beats tempo_values stop_beats stop_values ≡ 0 → ⊥) → walked_number tempo_beats tempo_values stop_beats stop_values into ≡ raw_numbers tempo_beats tempo_values stop_beats stop_values
  unfolding walked_number
  number-refused h = rw (ne_eqb (raw_numbers tempo_beats tempo_values stop_beats stop_values) 0 h)

  -- that of the walk over the changes
  pub number-walked : raw_numbers tempo_beats tempo_values stop_beats stop_values ≡ 0
      → walk_number (map first (sm_changes tempo_beats tempo_values)) (map second (sm_changes tempo_beats tempo_values)) (map first (sm_changes stop_beats stop_values)) (map second (sm_changes stop_beats stop_values)) into
      ≡ walked_number tempo_beats tempo_values stop_beats stop_values into
  unfolding walked_number walk_number chart_number
  number-walked h =
      let T = sm_changes tempo_beats tempo_values in
      let S = sm_changes stop_beats stop_values in
      rw (
        eq-eqb (raw_numbers tempo_beats tempo_values stop_beats stop_values) 0 h,
        eq-eqb (length (map first T)) (length (map second T)) (same-columns T),
        eq-eqb (length (map first S)) (length (map second S)) (same-columns S),
        changes-numbers tempo_beats tempo_values (both-taken h).tempos,
        length-map T first,
        length-map S first,
      )

  -- where there is room
  pub number_with_room : (raw_numbers tempo_beats tempo_values stop_beats stop_values ≡ 0 → Room (most_written (length (sm_changes tempo_beats tempo_values)) (length (sm_changes stop_beats stop_values))) into)
      → walked_number tempo_beats tempo_values stop_beats stop_values into ≡ raw_numbers tempo_beats tempo_values stop_beats stop_values
  number_with_room room =
      let n = raw_numbers tempo_beats tempo_values stop_beats stop_values in
      ⊎_elim (λ z. taken z (room z) ∙ sym z) (λ h. number-refused h) (same? n 0)
    where
      taken : raw_numbers tempo_beats tempo_values stop_beats stop_values ≡ 0 → Room (most_written (length (sm_changes tempo_beats tempo_values)) (length (sm_changes stop_beats stop_values))) into → walked_number tempo_beats tempo_values stop_beats stop_values into ≡ 0
      taken z r = sym (number-walked z) ∙ walk_takes tempo_beats tempo_values stop_beats stop_values (both-taken z).tempos (both-taken z).stops into r
