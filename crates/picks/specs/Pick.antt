-- One of two by a test. A definition states each test as the code makes it, `pick (ltb a b) x (pick (eqb c d) y z)`. Definitions only.
use Rattle.std.specs.Prelude.{Bool, true, false}

abbrev pub pick {ℓ} : {A : Type ℓ} → Bool → A → A → A
pick true a b = a
pick false a b = b
