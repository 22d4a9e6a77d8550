-- How many entries are written, and how many fates there are. Assumes nothing.
use Prim.Native.Nat.{◌≤◌}
use mathlib.Core.Path.{◌≡◌, ◌∙◌}
use mathlib.Core.Bool.{Bool}
use mathlib.Core.List.{List}
use lib.ListN.{length, length-map}
use lib.Ieee.{Float}
use Rattle.rows.specs.RowKey.{row_key_at}
use Rattle.tidy_kept.specs.Keeping.{row_of, nearby}
use Rattle.mend_fates.specs.Mending.{fates, fate_byte}
use Rattle.mend_fates.specs.MendedLists.{mended_list, fate_bytes}
use Rattle.mend_fates.proofs.KeptAreWritten.{one_each}
use Rattle.mend_fates.proofs.MendedAgain.{no_longer}

module _ {W : Type 0} (near : W → W → Bool) (raw : List (Float × W)) where
  pub few-written : length (mended_list near raw) ≤ length raw
  unfolding mended_list
  few-written = no_longer (row_of row_key_at near) (nearby row_key_at near) raw

  pub as_many_fates : length (fate_bytes near raw) ≡ length raw
  unfolding fate_bytes
  as_many_fates = length-map (fates (row_of row_key_at near) (nearby row_key_at near) raw) fate_byte ∙ one_each (row_of row_key_at near) (nearby row_key_at near) raw
