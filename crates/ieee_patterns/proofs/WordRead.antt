-- A word is read digit after digit, and past a text's end nothing is read but 0. Assumes nothing.
use Prim.Native.Nat.{ℕ, zero, suc, ◌+◌, ◌-◌, ◌*◌, ◌%◌, ◌≤◌, ◌<◌}
use mathlib.Core.Path.{◌≡◌, refl, sym, ap, ◌∙◌}
use mathlib.Core.List.{List}
use native.Mathlib.Omega.{arith}
use lib.ListN.{length, get_or-eq_default}
use Rattle.ieee_patterns.specs.Hex.{hex_value, digit_at, digits_from, word_at}

pub none_past_end : (left : ℕ) (text : List ℕ) (at : ℕ) → length text ≤ at → digits_from left text at 0 ≡ 0
unfolding digits_from hex_value
none_past_end zero text at h = refl
none_past_end (suc left) text at h = rw (get_or-eq_default text 0 h) (none_past_end left text (suc at) (omega arith))

-- after i digits: those that are left give the word
pub record Reading (text : List ℕ) (at number i : ℕ) : Type 0 where
  pub within : i ≤ 16
  pub rest : digits_from (16 - i) text (at + i) number ≡ word_at text at

module _ (text : List ℕ) (at : ℕ) where
  pub begun : Reading text at 0 0
  begun = record { within = omega arith; rest = ap (λ place. digits_from 16 text place 0) {x = at + 0} {y = at} (omega arith) }

  one_more : (left place number : ℕ) → digits_from (suc left) text place number ≡ digits_from left text (suc place) (number % 0x1000_0000_0000_0000 * 16 + digit_at text place)
  unfolding digits_from
  one_more left place number = refl

  pub turned : {number i : ℕ} → Reading text at number i → i < 16 → Reading text at (number % 0x1000_0000_0000_0000 * 16 + digit_at text (at + i)) (i + 1)
  turned {number} {i} r h =
      record {
        within = omega arith;
        rest =
            let next = number % 0x1000_0000_0000_0000 * 16 + digit_at text (at + i) in
            ap (λ left. digits_from left text (at + (i + 1)) next) {x = 16 - (i + 1)} {y = 15 - i} (omega arith)
            ∙ (ap (λ place. digits_from (15 - i) text place next) {x = at + (i + 1)} {y = suc (at + i)} (omega arith)
            ∙ (sym (one_more (15 - i) (at + i) number) ∙ (ap (λ left. digits_from left text (at + i) number) {x = suc (15 - i)} {y = 16 - i} (omega arith) ∙ r.rest)));
      }

  pub ended : {number i : ℕ} → Reading text at number i → 16 ≤ i → number ≡ word_at text at
  unfolding digits_from
  ended {number} {i} r h = ap (λ left. digits_from left text (at + i) number) {x = 0} {y = 16 - i} (omega arith) ∙ r.rest
