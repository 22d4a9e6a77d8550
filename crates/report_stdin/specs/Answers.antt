-- What the answer of the system's read says of the input. Definitions only.
use Rattle.std.specs.Prelude.{zero, suc, Bool, true, false, ℤ, pos, negsuc}
use Rattle.report_form.specs.declared.Reading.{Reading}
use Rattle.report_form.specs.Form.{step_of}

-- bytes were handed over, so there may be more of them; 0 is the end, and below it the read failed
abbrev pub more_comes : ℤ → Bool
more_comes (pos zero) = false
more_comes (pos (suc n)) = true
more_comes (negsuc n) = false

-- a failed read stands for a byte that no form has: the input is refused, as any other that is not of the form
abbrev pub after_answer : ℤ → Reading → Reading
after_answer (pos n) reading = reading
after_answer (negsuc n) reading = step_of reading 0
