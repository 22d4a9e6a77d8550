-- `clock_by_time::beat_in` is `beat_in`, pause by pause. Assumes nothing.
use Rattle.clock_by_time.proofs.beat_in.Goals as goal

pub returns-in-InDelay : goal.returns-in-InDelay
returns-in-InDelay c = rw c.in-InDelay.is c.read_at.ensures

pub returns-in-InFreeze : goal.returns-in-InFreeze
returns-in-InFreeze c = rw c.in-InFreeze.is c.read_at-in-InFreeze.ensures

pub returns-in-NoPause : goal.returns-in-NoPause
returns-in-NoPause c = rw c.in-NoPause.is c.beat_on.ensures
