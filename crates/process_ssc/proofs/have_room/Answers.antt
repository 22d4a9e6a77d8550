-- `process_ssc::have_room` compares with the room, and counts only where it must. Assumes nothing.
use Prim.Native.Nat.{ℕ, ◌≤◌}
use mathlib.Core.Path.{sym, ap}
use native.Mathlib.Omega.{arith}
use borrow.Author.Tests.{le-leb}
use lib.Dec.{leb}
use lib.ListN.{length}
use Rattle.order.specs.Entries.{entries}
use Rattle.order.proofs.Columns.{length-entries}
use Rattle.columns.proofs.KeptLaid.{few-kept}
use Rattle.process_ssc.specs.Ssc.{stays_ssc, quantized_entry, stayed_ssc}
use Rattle.process_ssc.proofs.have_room.Goals as goal

pub returns-then-beats-room : goal.returns-then-beats-room
returns-then-beats-room c =
    let list = stayed_ssc c.args.beats.now c.args.values.now in
    let few : length list ≤ c.args.room = omega (arith, few-kept stays_ssc quantized_entry (entries c.args.beats.now c.args.values.now), length-entries c.args.beats.now c.args.values.now c.requires, c.if-beats-room.true) in
    sym (le-leb (length list) c.args.room few)

pub returns : goal.returns
returns c = ap (λ (n : ℕ). leb n c.args.room) c.count_stayed.ensures
