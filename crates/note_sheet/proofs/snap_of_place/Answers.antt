-- `note_sheet::snap_of_place` is `first_rule` of the 48 places. Assumes nothing.
use mathlib.Core.Path.{refl}
use mathlib.Core.List.{[], ◌∷◌}
use native.Mathlib.Omega.{arith}
use Rattle.note_sheet.specs.Snap.{first_rule}
use Rattle.note_sheet.specs.declared.Snap.TheVariants.{Fourth, Eighth, Twelfth, Sixteenth, TwentyFourth, ThirtySecond, FortyEighth, SixtyFourth, OneNinetySecond}
use Rattle.note_sheet.proofs.Places.{one_of, rest_of}
use Rattle.note_sheet.proofs.snap_of_place.Goals as goal

pub returns-in-0 : goal.returns-in-0
unfolding first_rule
returns-in-0 c = one_of Fourth (0 ∷ []) c.args.place (refl, tt) c.in-0.is

pub returns-in-24 : goal.returns-in-24
unfolding first_rule
returns-in-24 c = one_of Eighth (24 ∷ []) c.args.place (refl, tt) c.in-24.is

pub returns-in-16 : goal.returns-in-16
unfolding first_rule
returns-in-16 c = one_of Twelfth (16 ∷ 32 ∷ []) c.args.place (refl, (refl, tt)) c.in-16.is

pub returns-in-12 : goal.returns-in-12
unfolding first_rule
returns-in-12 c = one_of Sixteenth (12 ∷ 36 ∷ []) c.args.place (refl, (refl, tt)) c.in-12.is

pub returns-in-8 : goal.returns-in-8
unfolding first_rule
returns-in-8 c = one_of TwentyFourth (8 ∷ 40 ∷ []) c.args.place (refl, (refl, tt)) c.in-8.is

pub returns-in-6 : goal.returns-in-6
unfolding first_rule
returns-in-6 c = one_of ThirtySecond (6 ∷ 18 ∷ 30 ∷ 42 ∷ []) c.args.place (refl, (refl, (refl, (refl, tt)))) c.in-6.is

pub returns-in-4 : goal.returns-in-4
unfolding first_rule
returns-in-4 c = one_of FortyEighth (4 ∷ 20 ∷ 28 ∷ 44 ∷ []) c.args.place (refl, (refl, (refl, (refl, tt)))) c.in-4.is

pub returns-in-3 : goal.returns-in-3
unfolding first_rule
returns-in-3 c = one_of SixtyFourth (3 ∷ 9 ∷ 15 ∷ 21 ∷ 27 ∷ 33 ∷ 39 ∷ 45 ∷ []) c.args.place (refl, (refl, (refl, (refl, (refl, (refl, (refl, (refl, tt)))))))) c.in-3.is

pub returns-in_default : goal.returns-in_default
returns-in_default c = absurd (omega (arith, c.in_default.if-place-lt48-own.false, c.requires))

pub returns-in-1-to-2 : goal.returns-in-1-to-2
unfolding first_rule
returns-in-1-to-2 c = one_of OneNinetySecond (5 ∷ 7 ∷ 17 ∷ 19 ∷ 29 ∷ 31 ∷ 41 ∷ 43 ∷ []) c.args.place (refl, (refl, (refl, (refl, (refl, (refl, (refl, (refl, tt)))))))) c.in-1-to-2.in-1-to-2-own.keys9

pub returns-in-1-to-2-2 : goal.returns-in-1-to-2-2
returns-in-1-to-2-2 c =
    let others = c.in-1-to-2.in_default-own.rest in
    rest_of c.args.place c.requires others.0.0.0.0.0.0.0.0.1 others.0.0.0.0.0.0.0.1 others.0.0.0.0.0.0.1 others.0.0.0.0.0.1 others.0.0.0.0.1 others.0.0.0.1 others.0.0.1 others.0.1
