-- `closest` of a whole number, between bounds, with an even number added, and taken from an even number. Each follows from what it is to be nearest (`NearestWhole.antt`). Assumes nothing.
use mathlib.Core.Path.{◌≡◌, sym, ap, ◌∙◌}
use Prim.Native.Nat.{ℕ, ◌+◌, ◌-◌, ◌*◌, ◌%◌, ◌≤◌, ◌<◌}
use native.Mathlib.Nat.{le_trans, le_of_eq, mul-le-mul_right}
use native.Mathlib.Omega.{arith}
use lib.Ieee.Nearest.{closest, closest_mono}
use Rattle.ieee.specs.Nearest.{gap}
use Rattle.ieee.proofs.NearestWhole.{closest_nearest, closest_is}

pub closest_whole : (q b : ℕ) → 0 < b → closest (q * b) b ≡ q
closest_whole q b h = closest_is (q * b) b q h (record { near = omega arith; tie = λ e. absurd (omega arith) })

-- ---- what is at least, or at most, a whole number
pub closest_ge : (k a d : ℕ) → 0 < d → k * d ≤ a → k ≤ closest a d
closest_ge k a d D h = le_trans (le_of_eq (sym (closest_whole k d D))) (closest_mono (k * d) d a d D D (mul-le-mul_right d h))

pub closest_le : (k a d : ℕ) → 0 < d → a ≤ k * d → closest a d ≤ k
closest_le k a d D h = le_trans (closest_mono a d (k * d) d D D (mul-le-mul_right d h)) (le_of_eq (closest_whole k d D))

-- ---- an even number more, and taken from an even number
pub closest_add : (even a d : ℕ) → 0 < d → even % 2 ≡ 0 → closest (even * d + a) d ≡ even + closest a d
closest_add even a d D E =
    let p = closest_nearest a d D in
    let n = closest a d in
    let same : gap ((even + n) * d) (even * d + a) ≡ gap (n * d) a = omega arith in
    closest_is (even * d + a) d (even + n) D (record { near = rw same p.near; tie = λ t. let o = p.tie (ap (λ (x : ℕ). x * 2) (sym same) ∙ t) in omega arith })

pub closest_sub : (even a d : ℕ) → 0 < d → even % 2 ≡ 0 → a ≤ even * d → closest (even * d - a) d + closest a d ≡ even
closest_sub even a d D E l =
    let p = closest_nearest a d D in
    let n = closest a d in
    let n-le = closest_le even a d D l in
    let r = even - n in
    let parts : r + n ≡ even = omega arith in
    let i = ap (λ (x : ℕ). x * d) parts in
    let same : gap (r * d) (even * d - a) ≡ gap (n * d) a = omega arith in
    ap (λ (x : ℕ). x + n) (closest_is (even * d - a) d r D (record { near = rw same p.near; tie = λ t. let o = p.tie (ap (λ (x : ℕ). x * 2) (sym same) ∙ t) in omega arith })) ∙ parts
