use Rattle.process_sm_walk.proofs.write.Goals as goal

pub returns : goal.returns
returns c =
    record {
      value = rw (c.put-tempos.ensures.value, c.put-stops.ensures.value, c.put-warps.ensures.value);
      rooms_value = rw (c.put-tempos.ensures.beats_after, c.put-tempos.ensures.values_after, c.put-stops.ensures.beats_after, c.put-stops.ensures.values_after, c.put-warps.ensures.beats_after, c.put-warps.ensures.values_after);
    }
