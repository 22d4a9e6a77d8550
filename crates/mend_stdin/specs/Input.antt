-- What is left on the page. Definitions only.
use Rattle.std.specs.Prelude.{ℕ, List}
use Rattle.mend_text.specs.MendedText.{mend_of, MendTold}

-- The answer to some bytes: those that were read, of which no contract of the system's says which they are.
pub record MendOfSome (end : ℕ) (old new : List ℕ) : Type 0 where
  pub bytes : List ℕ
  pub told : MendTold (mend_of bytes) end old new
