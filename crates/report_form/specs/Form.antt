-- The form of the report program's input, as what one byte does to what is read so far. Definitions only.
-- A word is read as one number, its letters as digits in base 256: so a list's name is a constant, and no table is searched.
use Rattle.std.specs.Prelude.{ℕ, ◌+◌, ◌-◌, ◌*◌, ◌%◌, Bool, true, false, List, [], ◌∷◌, ltb, leb, eqb}
use Rattle.limits.specs.Table.{too_long_number, bad_text}
use Rattle.picks.specs.Pick.{pick}
use Rattle.ieee_patterns.specs.Hex.{hex_value}
use Rattle.report_form.specs.declared.Reading.{Reading}

-- nothing read: the format line is still to come
abbrev pub start : Reading
start = record { fine = true; ssc = false; list = 0; part = 0; digits = 0; number = 0; count = 0 }

-- a byte that has no place in the form: whatever comes after it, the input is not of the form
abbrev pub broken : Reading → Reading
broken reading = record { fine = false; ssc = reading.ssc; list = reading.list; part = reading.part; digits = reading.digits; number = reading.number; count = reading.count }

-- one character more of the part that is being read, which makes it the given number
abbrev pub grown : Reading → ℕ → Reading
grown reading number = record { fine = true; ssc = reading.ssc; list = reading.list; part = reading.part; digits = reading.digits + 1; number = number; count = reading.count }

-- a lower-case letter of a line's word or of the format's name, six at most
unfoldable pub letter_of : Reading → ℕ → Reading
letter_of reading byte =
    pick (ltb byte 97) (broken reading)
    (pick (ltb 122 byte) (broken reading)
    (pick (ltb reading.digits 6) (grown reading (reading.number % 0x100_0000_0000_0000 * 256 + byte)) (broken reading)))

-- an upper-case hexadecimal digit of a number, sixteen at most
unfoldable pub hex_of : Reading → ℕ → Reading
hex_of reading byte =
    pick (ltb reading.digits 16)
    (pick (ltb (hex_value byte) 16) (grown reading (reading.number % 0x1000_0000_0000_0000 * 16 + hex_value byte)) (broken reading))
    (broken reading)

-- the one decimal digit of a unit
unfoldable pub unit_read : Reading → ℕ → Reading
unit_read reading byte =
    pick (ltb byte 48) (broken reading)
    (pick (ltb 57 byte) (broken reading)
    (pick (ltb reading.digits 1) (grown reading (byte - 48)) (broken reading)))

-- a byte that is no separator belongs to the part that is being read: 0 is the line's word, 1 and up what stands behind the equals sign
unfoldable pub character_of : Reading → ℕ → Reading
character_of reading byte =
    pick (eqb reading.part 0) (letter_of reading byte)
    (pick (eqb reading.list 1) (letter_of reading byte)
    (pick (eqb reading.list 6) (pick (eqb reading.part 4) (unit_read reading byte) (hex_of reading byte))
    (hex_of reading byte)))

-- what a word names: 1 format, 2 bpm, 3 stop, 4 delay, 5 warp, 6 speed, 7 scroll, 8 fake; 0 for any other word
unfoldable pub list_named : ℕ → ℕ
list_named word =
    pick (eqb word 0x666F_726D_6174) 1
    (pick (eqb word 0x62_706D) 2
    (pick (eqb word 0x7374_6F70) 3
    (pick (eqb word 0x64_656C_6179) 4
    (pick (eqb word 0x7761_7270) 5
    (pick (eqb word 0x73_7065_6564) 6
    (pick (eqb word 0x7363_726F_6C6C) 7
    (pick (eqb word 0x6661_6B65) 8
    0)))))))

-- which line may come after a line of list `last`: the format's first of all and once, then never a list before the last one
unfoldable pub follows : ℕ → ℕ → Bool
follows last next = pick (eqb last 0) (eqb next 1) (pick (ltb 1 next) (leb last next) false)

-- the numbers of a line begin
abbrev pub begun : Reading → ℕ → ℕ → Reading
begun reading list count = record { fine = true; ssc = reading.ssc; list = list; part = 1; digits = 0; number = 0; count = count }

-- one more line of the same list goes on counting, the first line of another begins with none
unfoldable pub opened : Reading → ℕ → Reading
opened reading list = pick (eqb list reading.list) (begun reading list reading.count) (begun reading list 0)

-- an equals sign ends a line's word
unfoldable pub named_of : Reading → Reading
named_of reading =
    pick (eqb reading.part 0)
    (pick (follows reading.list (list_named reading.number)) (opened reading (list_named reading.number)) (broken reading))
    (broken reading)

-- how many numbers a line of the list has, and how many digits the last one: a speed ends in its unit
unfoldable pub width_of : ℕ → ℕ
width_of list = pick (eqb list 6) 4 2

unfoldable pub last_digits_of : ℕ → ℕ
last_digits_of list = pick (eqb list 6) 1 16

abbrev pub next_part : Reading → Reading
next_part reading = record { fine = true; ssc = reading.ssc; list = reading.list; part = reading.part + 1; digits = 0; number = 0; count = reading.count }

-- a comma ends a number that is not the line's last
unfoldable pub comma_of : Reading → Reading
comma_of reading =
    pick (eqb reading.digits 16)
    (pick (ltb reading.part (width_of reading.list)) (next_part reading) (broken reading))
    (broken reading)

-- one entry more; above 256 it makes no difference how many
unfoldable pub more : ℕ → ℕ
more count = pick (ltb 256 count) count (count + 1)

-- between two lines
abbrev pub closed : Reading → Bool → ℕ → Reading
closed reading ssc count = record { fine = true; ssc = ssc; list = reading.list; part = 0; digits = 0; number = 0; count = count }

-- a line feed ends the format line, whose name is sm or ssc
unfoldable pub format_ended : Reading → Reading
format_ended reading =
    pick (eqb reading.part 1)
    (pick (eqb reading.number 0x736D) (closed reading false reading.count)
    (pick (eqb reading.number 0x73_7363) (closed reading true reading.count)
    (broken reading)))
    (broken reading)

-- a line feed ends an entry that has all its numbers
unfoldable pub entry_ended : Reading → Reading
entry_ended reading =
    pick (eqb reading.part (width_of reading.list))
    (pick (eqb reading.digits (last_digits_of reading.list)) (closed reading reading.ssc (more reading.count)) (broken reading))
    (broken reading)

unfoldable pub ended_of : Reading → Reading
ended_of reading = pick (eqb reading.list 1) (format_ended reading) (entry_ended reading)

-- THE STEP: what one byte does. Line feed, equals sign and comma separate; there is nothing else between the parts
unfoldable pub step_of : Reading → ℕ → Reading
step_of reading byte =
    pick reading.fine
    (pick (eqb byte 10) (ended_of reading)
    (pick (eqb byte 61) (named_of reading)
    (pick (eqb byte 44) (comma_of reading)
    (character_of reading byte))))
    reading

-- what bytes do, one after the other
unfoldable pub read_on : Reading → List ℕ → Reading
read_on reading [] = reading
read_on reading (byte ∷ bytes) = read_on (step_of reading byte) bytes

-- the input is of the form: its format line is there, and its last line is ended
unfoldable pub whole : Reading → Bool
whole reading = pick reading.fine (pick (eqb reading.list 0) false (pick (ltb 0 reading.part) false (eqb reading.digits 0))) false

-- one of the lists has more than 256 entries
unfoldable pub over : List ℕ → Bool
over [] = false
over (count ∷ counts) = pick (ltb 256 count) true (over counts)

-- the input's own number: 10 goes before every other, then 1
unfoldable pub answer_of : Reading → List ℕ → ℕ
answer_of reading counts = pick (whole reading) (pick (over counts) too_long_number 0) bad_text
