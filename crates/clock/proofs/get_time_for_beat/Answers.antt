-- `clock::get_time_for_beat` asks a fresh cursor. Assumes nothing.
use mathlib.Core.Path.{◌≡◌, sym, ap, ◌∙◌}
use borrow.Author.Rules.{rules}
use Rattle.clock.proofs.get_time_for_beat.Goals as goal

pub returns : goal.returns
returns c =
    rw (← c.fresh_cursor-cursor.ensures) c.time_for_beat.ensures
