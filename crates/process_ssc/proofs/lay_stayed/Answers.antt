-- `process_ssc::lay_stayed` lays every entry where each stays, and else one by one. Assumes nothing.
use mathlib.Core.Path.{◌≡◌, sym, ap, ◌∙◌}
use mathlib.Core.List.{List, map-id}
use native.Mathlib.Omega.{arith}
use lib.ListN.{length}
use lib.Ieee.{Float}
use Rattle.rows.specs.Rows.{quantized}
use Rattle.order.specs.Order.{laid}
use Rattle.columns.proofs.AllKept.{all_changed}
use Rattle.process_ssc.specs.Ssc.{stays_ssc, stayed_ssc}
use Rattle.process_ssc.proofs.lay_stayed.Goals as goal
use Rattle.process_ssc.proofs.lay_stayed.Goals.{Then-whole}

-- each stays
many : (c : Then-whole) → length (stayed_ssc c.args.beats.now c.args.values.now) ≡ length c.args.beats.now
many c = (c.requires.known c.if-whole.true).stay

pub lay_all-requires : goal.lay_all-requires
lay_all-requires c =
    record {
      beats_len = c.requires.beats_len;
      beats_len_bound = omega (arith, many (goal.at.lay_all-requires c).Then-whole, c.requires.values_len_bound);
    }

pub returns-then-whole : goal.returns-then-whole
returns-then-whole c =
    let given = c.args in
    let all = all_changed (λ (x : Float). quantized x) (λ (v : Float). v) stays_ssc given.beats.now given.values.now c.requires.beats_len (many (goal.at.returns-then-whole c).Then-whole) in
    record {
      value = sym (many (goal.at.returns-then-whole c).Then-whole);
      out_beats_after = c.lay_all.ensures.out_beats_after ∙ ap (λ (l : List Float). laid l given.out_beats.now) (sym all.0);
      out_values_after = c.lay_all.ensures.out_values_after ∙ ap (λ (l : List Float). laid l given.out_values.now) (sym (all.1 ∙ map-id c.args.values.now));
    }
