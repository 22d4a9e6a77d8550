-- `text_tempos::has_room_f32` meets its contract: by the count of entries, or by the text's size. Assumes nothing.
use Prim.Native.Nat.{ℕ}
use mathlib.Core.Path.{ap}
use native.Mathlib.Omega.{arith}
use lib.Dec.{leb}
use Rattle.limits.proofs.ListTaken.{list-taken}
use Rattle.text_tempos.proofs.Outcomes.{holds_text_f32}
use Rattle.text_tempos.proofs.has_room_f32.Goals as goal

pub overflow_mul-beats : goal.overflow_mul-beats
overflow_mul-beats c = let few = (list-taken c.requires).few in omega arith

pub returns-then-beats-room : goal.returns-then-beats-room
returns-then-beats-room c =
    let start = c in
    holds_text_f32 start.args.beats.now start.args.tempos.now start.args.room (omega arith) start.requires

pub text_size_f32-requires : goal.text_size_f32-requires
text_size_f32-requires c = let list = list-taken c.requires in (list.few, list.even)

pub returns : goal.returns
returns c = ap (λ (size : ℕ). leb size c.args.room) c.text_size_f32.ensures
