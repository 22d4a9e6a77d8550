-- The snap colour of a row: the first of nine rules that holds of its place in the beat. Definitions only.
use Rattle.std.specs.Prelude.{ℕ, ◌-◌, ◌%◌, Bool, eqb, ℤ, pos, negsuc}
use Rattle.picks.specs.Pick.{pick}
use Rattle.note_sheet.specs.declared.Snap.{Snap}
use Rattle.note_sheet.specs.declared.Snap.TheVariants.{Fourth, Eighth, Twelfth, Sixteenth, TwentyFourth, ThirtySecond, FortyEighth, SixtyFourth, OneNinetySecond}

-- the place of a row in its beat, 0 to 47: row -1 is at 47
unfoldable pub place_in_beat : ℤ → ℕ
place_in_beat (pos n) = n % 48
place_in_beat (negsuc n) = 47 - n % 48

abbrev pub is_multiple : ℕ → ℕ → Bool
is_multiple many n = eqb (n % many) 0

-- the first rule that holds: a multiple of 48, else of 24, and so on, and else the rest
unfoldable pub first_rule : ℕ → Snap
first_rule n =
    pick (is_multiple 48 n) Fourth
    (pick (is_multiple 24 n) Eighth
    (pick (is_multiple 16 n) Twelfth
    (pick (is_multiple 12 n) Sixteenth
    (pick (is_multiple 8 n) TwentyFourth
    (pick (is_multiple 6 n) ThirtySecond
    (pick (is_multiple 4 n) FortyEighth
    (pick (is_multiple 3 n) SixtyFourth
    OneNinetySecond)))))))

-- the colour of a row goes by its place in the beat
abbrev pub snap_of : ℤ → Snap
snap_of row = first_rule (place_in_beat row)

-- the colours by number, in the order of the rules
unfoldable pub snap_number : Snap → ℕ
snap_number Fourth = 0
snap_number Eighth = 1
snap_number Twelfth = 2
snap_number Sixteenth = 3
snap_number TwentyFourth = 4
snap_number ThirtySecond = 5
snap_number FortyEighth = 6
snap_number SixtyFourth = 7
snap_number OneNinetySecond = 8
