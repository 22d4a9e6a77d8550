-- What a call answers that writes a tempo list, and how many bytes are always enough for it. Definitions only.
use Rattle.std.specs.Prelude.{ℕ, ◌≡◌, List, length, Float}
use Rattle.limits.specs.declared.Kind.TheVariants.{Beat, RawTempo}
use Rattle.limits.specs.Numbers.{range_of}
use Rattle.limits.specs.Refusals.{list_number}
use Rattle.order.specs.Order.{laid}
use Rattle.columns.specs.Laying.{room_number, given}
use Rattle.columns.specs.declared.Outcome.{Outcome}

-- 1 to 4 by the raw limits. A beat that is not finite is 3, since no entry is dropped; a tempo that is not finite is taken, and written as 0.
abbrev pub tempo_text_tests : List Float → List Float → ℕ
tempo_text_tests beats tempos = list_number (range_of Beat) (range_of RawTempo) beats tempos

-- The one outcome of a text that is written whole or not at all: the number, 7 where the text is longer than its page; how many bytes were written; and the page to its last byte.
pub record TextLaid (tests : ℕ) (text : List ℕ) (outcome : Outcome) (old new : List ℕ) : Type 0 where
  pub number : outcome.number ≡ room_number tests (length text) (length old)
  pub count : outcome.count ≡ length (given outcome.number text)
  pub page : new ≡ laid (given outcome.number text) old

-- the most bytes of an entry of a list that is taken, with its comma: a sign, 5 digits, a point and 6 decimals; an equals sign; a sign, 10 digits, a point and 6 decimals
abbrev pub most_entry_bytes : ℕ
most_entry_bytes = 33
