-- The change that comes next, and the places after it. Definitions only.
use Rattle.std.specs.Prelude.{◌+◌, List, [], ◌∷◌, Option, Some, None}
use Rattle.process_sm_machine.specs.declared.Change.{Change}
use Rattle.process_sm_machine.specs.declared.Change.TheVariants.{Tempo, Stop}
use Rattle.process_sm_walk.specs.declared.Places.{Places}

-- the places after a change
abbrev pub advanced : Places → Change → Places
advanced places (Tempo entry) = record { tempo = places.tempo + 1; stop = places.stop }
advanced places (Stop entry) = record { tempo = places.tempo; stop = places.stop + 1 }

-- the change that comes next
abbrev pub head_of : List Change → Option Change
head_of [] = None
head_of (change ∷ changes) = Some change
