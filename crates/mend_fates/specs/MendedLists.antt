-- Lists of entries that begin with a beat, mended: an entry's row is the f64 row of its beat as given, and near is that of the values. Definitions only.
use Rattle.std.specs.Prelude.{ℕ, Bool, List, map, Float}
use Rattle.rows.specs.RowKey.{row_key_at}
use Rattle.tidy_kept.specs.Keeping.{row_of, nearby}
use Rattle.mend_fates.specs.Mending.{mended, fates, fate_byte}

module _ {W : Type 0} (near : W → W → Bool) where
  -- what is written
  unfoldable pub mended_list : List (Float × W) → List (Float × W)
  mended_list raw = mended (row_of row_key_at near) (nearby row_key_at near) raw

  -- and of each raw entry its fate, as a byte
  unfoldable pub fate_bytes : List (Float × W) → List ℕ
  fate_bytes raw = map fate_byte (fates (row_of row_key_at near) (nearby row_key_at near) raw)
