-- The tempos of raw lists that are taken, processed by either format and narrowed, pass the clock's tests. Assumes nothing.
use Prim.Native.Nat.{◌≤◌}
use mathlib.Core.Path.{◌≡◌}
use mathlib.Core.Bool.{true}
use mathlib.Core.List.{List, map}
use native.Mathlib.Omega.{arith}
use lib.ListN.{length}
use lib.Ieee.{Float}
use Rattle.limits.proofs.ListTaken.{list-taken}
use Rattle.order.specs.Entries.{first, second}
use Rattle.process_raw.specs.RawLists.{raw_numbers}
use Rattle.process_raw.proofs.BothTaken.{both-taken}
use Rattle.process_ssc.specs.Ssc.{stayed_ssc}
use Rattle.process_sm_walk_raw.specs.RawWalk.{sm_written}
use Rattle.chart.specs.declared.TimingFormat.{TimingFormat}
use Rattle.chart.specs.declared.TimingFormat.TheVariants.{Sm, Ssc}
use Rattle.process.specs.ByFormat.{tempo_beats_of, tempo_values_of, lists_by, processed_lists}
use Rattle.clock_tests.specs.TimingNumbers.{starts_at_zero}
use Rattle.process.proofs.ListsTaken.{lists-taken}
use Rattle.process.proofs.TidiedOnGrid.{processed-tidied}
use Rattle.assembly_rows.specs.AssembledRows.{narrowed_entry}
use Rattle.assembly_laws.proofs.TidiedTempos.{starts-tidied, TidyTempos, narrowed-tidy}

by_format : (format : TimingFormat) (tempo_beats tempo_values stop_beats stop_values : List Float) → starts_at_zero (map first (lists_by format tempo_beats tempo_values stop_beats stop_values).tempos) ≡ true
by_format Sm tempo_beats tempo_values stop_beats stop_values = let out = (sm_written tempo_beats tempo_values stop_beats stop_values).tempos in starts-tidied (map first out) (map second out)
by_format Ssc tempo_beats tempo_values stop_beats stop_values = let out = stayed_ssc tempo_beats tempo_values in starts-tidied (map first out) (map second out)

processed-starts : (format : TimingFormat) (tempo_beats tempo_values stop_beats stop_values : List Float) → starts_at_zero (map first (processed_lists format tempo_beats tempo_values stop_beats stop_values).tempos) ≡ true
unfolding processed_lists
processed-starts format tempo_beats tempo_values stop_beats stop_values = by_format format (tempo_beats_of tempo_beats tempo_values) (tempo_values_of tempo_beats tempo_values) stop_beats stop_values

pub tempos-tidy : (format : TimingFormat) (tempo_beats tempo_values stop_beats stop_values : List Float) → raw_numbers tempo_beats tempo_values stop_beats stop_values ≡ 0 → TidyTempos (map narrowed_entry (processed_lists format tempo_beats tempo_values stop_beats stop_values).tempos)
tempos-tidy format tempo_beats tempo_values stop_beats stop_values h =
    let list = (processed_lists format tempo_beats tempo_values stop_beats stop_values).tempos in
    let few : length list ≤ 1024 = omega (arith, (lists-taken format tempo_beats tempo_values stop_beats stop_values h).few_tempos, (list-taken (both-taken h).tempos).few) in
    narrowed-tidy list few (processed-tidied format tempo_beats tempo_values stop_beats stop_values h) (processed-starts format tempo_beats tempo_values stop_beats stop_values)
