-- `stops_for_sm::pace_up_to` moves the tempo forward where the next is due. Assumes nothing.
use Rattle.std.proofs.Common.{sym, ap, ◌∙◌, arith}
use lib.Ieee.{Float, le, of_bits}
use Rattle.stops_for_sm.proofs.TurnByTurn.{forward_le}
use Rattle.stops_for_sm.proofs.HeadsInHand.{tempo-stays}
use Rattle.stops_for_sm.proofs.pace_up_to.Goals as goal

pub tempo_up_to-here-requires : goal.tempo_up_to-here-requires
tempo_up_to-here-requires c = omega (arith, c.requires.tempo_in_bounds, c.well_formed.0.1)

pub overflow_add-here : goal.overflow_add-here
overflow_add-here c =
    let start = c in
    let few = forward_le start.args.tempo_beats.now start.args.tempo start.args.beat start.requires.tempo_in_bounds in
    record { fits = omega (arith, few, c.tempo_up_to-here.ensures, start.well_formed.0.1) }

pub returns-then-next-beat : goal.returns-then-next-beat
unfolding of_bits
returns-then-next-beat c = record { tempo_is = c.tempo_up_to-here.ensures; next_is = c.head_at.ensures; seconds_is = rw c.read_at.ensures }

pub returns : goal.returns
returns c =
    let start = c in
    record {
      tempo_is = tempo-stays start.args.tempo_beats.now start.args.tempo start.args.beat (omega (arith, start.requires.tempo_in_bounds, start.well_formed.0.1)) (sym (ap (λ (x : Float). le x start.args.beat) start.requires.next_value.0) ∙ c.if-next-beat.false);
      next_is = start.requires.next_value.0;
      seconds_is = start.requires.next_value.1;
    }
