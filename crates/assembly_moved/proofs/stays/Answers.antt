-- `assembly_moved::stays` asks the format's own test. Assumes nothing.
use Rattle.assembly_moved.proofs.stays.Goals as goal

pub returns-in-Sm : goal.returns-in-Sm
returns-in-Sm c = rw c.in-Sm.is c.stays.ensures

pub returns-in-Ssc : goal.returns-in-Ssc
returns-in-Ssc c = rw c.in-Ssc.is c.stays-in-Ssc.ensures
