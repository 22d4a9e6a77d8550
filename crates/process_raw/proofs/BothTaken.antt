-- Where both lists together are taken, each is. Assumes nothing.
use mathlib.Core.Path.{◌≡◌}
use mathlib.Core.List.{List}
use lib.Ieee.{Float}
use Rattle.limits.proofs.NoRefusal.{lower-none}
use Rattle.process_raw.specs.RawLists.{raw_number, raw_numbers}

pub record BothTaken (tempo_beats tempo_values stop_beats stop_values : List Float) : Type 0 where
  pub tempos : raw_number tempo_beats tempo_values ≡ 0
  pub stops : raw_number stop_beats stop_values ≡ 0

pub both-taken : {tempo_beats tempo_values stop_beats stop_values : List Float} → raw_numbers tempo_beats tempo_values stop_beats stop_values ≡ 0 → BothTaken tempo_beats tempo_values stop_beats stop_values
both-taken {tempo_beats} {tempo_values} {stop_beats} {stop_values} h =
    let each = lower-none (raw_number tempo_beats tempo_values) (raw_number stop_beats stop_values) h in
    record { tempos = each.0; stops = each.1 }
