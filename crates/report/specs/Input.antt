-- What the program leaves on its page. Definitions only.
use Rattle.std.specs.Prelude.{ℕ, List}
use Rattle.report_whole.specs.Whole.{report_of, Reported}

-- The report of some bytes: those that were read, of which no contract of the system's says which they are.
pub record ReportOfSome (end : ℕ) (old new : List ℕ) : Type 0 where
  pub bytes : List ℕ
  pub reported : Reported (report_of bytes) end old new
