-- What is true of the processed lists of raw lists that are taken: how long they are, and that what comes after processing takes them. Definitions only.
use Rattle.std.specs.Prelude.{ℕ, ◌+◌, ◌≤◌, max, ◌≡◌, true, map, length}
use Rattle.rows.specs.Rows.{quantized}
use Rattle.limits.specs.declared.Kind.TheVariants.{Beat, Value}
use Rattle.limits.specs.Numbers.{range_of, all_in}
use Rattle.limits.specs.Refusals.{list_number}
use Rattle.order.specs.Entries.{first, second}
use Rattle.process.specs.ByFormat.{ThreeLists}

pub record ListsTaken (tempo_most stop_most : ℕ) (lists : ThreeLists) : Type 0 where
  pub few_tempos : length lists.tempos ≤ max tempo_most 1
  pub few_stops : length lists.stops ≤ stop_most
  pub few_warps : length lists.warps ≤ tempo_most + stop_most
  pub stops : list_number (range_of Beat) (range_of Value) (map first lists.stops) (map second lists.stops) ≡ 0
  pub on_rows : map quantized (map first lists.stops) ≡ map first lists.stops
  pub warp_beats : all_in (range_of Beat) (map first lists.warps) ≡ true
  pub warp_lengths : all_in (range_of Value) (map second lists.warps) ≡ true
