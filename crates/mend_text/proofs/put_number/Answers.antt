-- `mend_text::put_number` writes the digits of both halves of the pattern. Assumes nothing.
use Prim.Native.Nat.{ℕ}
use mathlib.Core.Path.{ap, ap₂, ◌∙◌}
use mathlib.Core.List.{List, ◌++◌}
use Rattle.ieee_patterns.specs.Hex.{hex_text}
use Rattle.text_page.proofs.Joined.{wrote-join, wrote_as}
use Rattle.mend_text.proofs.HexHalves.{hex_halves}
use Rattle.mend_text.proofs.put_number.Goals as goal

pub returns : goal.returns
returns c =
    let ended = c in
    let low = ended in
    let high = low in
    let lower = high in
    let upper = lower in
    let bits = upper in
    let digits = ap₂ (λ (a b : List ℕ). a ++ b) (upper.hex8-upper.ensures ∙ ap (hex_text 8) upper.upper_half.ensures) (lower.hex8-lower.ensures ∙ ap (hex_text 8) lower.lower_half.ensures)
    ∙ hex_halves bits.bits_of_f64-bits.result ∙ ap (hex_text 16) bits.bits_of_f64-bits.ensures in
    wrote-join (wrote_as digits (wrote-join high.put_bytes-at.ensures low.put_bytes-at-2.ensures)) ended.put_byte.ensures
