use Rattle.std.proofs.Common.{ℕ, ◌-◌, ◌^◌, sym, ap, ◌∙◌, arith, rules}
use Rattle.ieee_mul_add.specs.inside.Words.{two_words}
use Rattle.ieee_odd_cut.specs.OddCut.{odd_cut}
use Rattle.ieee_mul_add.proofs.WordsCut.{no_cut, zero-two, word_cut, past_word, far-cut}
use Rattle.ieee_mul_add.proofs.cut.Goals as goal

pub returns-then-places-eq0 : goal.returns-then-places-eq0
returns-then-places-eq0 c = let b = c.args in sym (ap (λ (x : ℕ). odd_cut (two_words b.high b.low) (2 ^ x)) c.if-places-eq0.true ∙ no_cut (two_words b.high b.low))

pub returns-then-places-eq64 : goal.returns-then-places-eq64
returns-then-places-eq64 c =
    let s = c in
    zero-two c.made_odd-word.result ∙ c.made_odd-word.ensures ∙ sym (word_cut s.args.high s.args.low s.ranges.low.fits) ∙ ap (λ (x : ℕ). odd_cut (two_words s.args.high s.args.low) (2 ^ x)) (sym c.if-places-eq64.true)

pub returns-then-places-lt128 : goal.returns-then-places-lt128
returns-then-places-lt128 c =
    let m = c in
    let s = m in
    c.cut_below-then-places-lt128.ensures
    ∙ ap (λ (x : ℕ). odd_cut x (2 ^ (s.args.places - 64))) (zero-two m.made_odd-word.result ∙ m.made_odd-word.ensures)
    ∙ sym (past_word s.args.high s.args.low s.args.places s.ranges.low.fits (omega arith))

pub returns : goal.returns
returns c =
    let m = c in
    let s = m in
    zero-two c.made_odd.result
    ∙ c.made_odd.ensures
    ∙ sym (far-cut m.made_odd-word.result (s.args.places - 64) (omega arith) (omega arith))
    ∙ ap (λ (x : ℕ). odd_cut x (2 ^ (s.args.places - 64))) m.made_odd-word.ensures
    ∙ sym (past_word s.args.high s.args.low s.args.places s.ranges.low.fits (omega arith))
