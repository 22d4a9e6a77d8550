-- What a question to a lent cursor answers. Definitions only.
use Rattle.clock.specs.declared.Answer.{Answer}
use Rattle.clock_lent.specs.declared.Reply.{Reply}

-- the answer without its cursor, which is stored
abbrev pub reply_of : Answer → Reply
reply_of a = record { number = a.number; time = a.time; count = a.count }
