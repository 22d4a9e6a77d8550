-- `lookup::judge_rows` answers each row over the front of the room. Assumes nothing.
use Rattle.std.proofs.Common.{length, ℤ}
use Rattle.columns.proofs.LaidEach.{LayingEach}
use Rattle.lookup_tests.specs.LookupLists.{lookup_lists}
use Rattle.lookup.specs.Lookups.{byte, is_judgable}
use Rattle.lookup.specs.inside.Finding.{AllStand}
use Rattle.lookup.proofs.judge_rows.Given as goal

abbrev pub invariant-loop-i : goal.invariant-loop-i
invariant-loop-i l = let lists = lookup_lists l.stop_beats l.stop_values l.delay_beats l.delay_values l.warp_beats l.warp_lengths l.fake_beats l.fake_lengths in
    LayingEach (λ (asked : ℤ). byte (is_judgable lists asked)) l.rows l.initial.out (length l.rows) l.out l.i × AllStand lists l.cursor
