-- `report_feed::feed` meets its contract: one turn is one byte, for the state and for each column. Assumes nothing.
use Rattle.report_form.specs.Stores.{number_in, unit_in, count_in}
use Rattle.report_feed.proofs.Turns.{Read, Column}
use Rattle.report_feed.proofs.feed.Given as goal

abbrev pub invariant-loop-byte : goal.invariant-loop-byte
invariant-loop-byte l = Read l.chunk l.initial.reading l.reading l.byte-index
    × Column count_in l.chunk l.initial.reading l.initial.counts l.reading l.counts l.byte-index
    × Column (number_in 2 1) l.chunk l.initial.reading l.initial.tempo_beats l.reading l.tempo_beats l.byte-index
    × Column (number_in 2 2) l.chunk l.initial.reading l.initial.tempo_values l.reading l.tempo_values l.byte-index
    × Column (number_in 3 1) l.chunk l.initial.reading l.initial.stop_beats l.reading l.stop_beats l.byte-index
    × Column (number_in 3 2) l.chunk l.initial.reading l.initial.stop_values l.reading l.stop_values l.byte-index
    × Column (number_in 4 1) l.chunk l.initial.reading l.initial.delay_beats l.reading l.delay_beats l.byte-index
    × Column (number_in 4 2) l.chunk l.initial.reading l.initial.delay_values l.reading l.delay_values l.byte-index
    × Column (number_in 5 1) l.chunk l.initial.reading l.initial.warp_beats l.reading l.warp_beats l.byte-index
    × Column (number_in 5 2) l.chunk l.initial.reading l.initial.warp_lengths l.reading l.warp_lengths l.byte-index
    × Column (number_in 6 1) l.chunk l.initial.reading l.initial.speed_beats l.reading l.speed_beats l.byte-index
    × Column (number_in 6 2) l.chunk l.initial.reading l.initial.speed_ratios l.reading l.speed_ratios l.byte-index
    × Column (number_in 6 3) l.chunk l.initial.reading l.initial.speed_delays l.reading l.speed_delays l.byte-index
    × Column (unit_in 6 4) l.chunk l.initial.reading l.initial.speed_units l.reading l.speed_units l.byte-index
    × Column (number_in 7 1) l.chunk l.initial.reading l.initial.scroll_beats l.reading l.scroll_beats l.byte-index
    × Column (number_in 7 2) l.chunk l.initial.reading l.initial.scroll_values l.reading l.scroll_values l.byte-index
    × Column (number_in 8 1) l.chunk l.initial.reading l.initial.fake_beats l.reading l.fake_beats l.byte-index
    × Column (number_in 8 2) l.chunk l.initial.reading l.initial.fake_lengths l.reading l.fake_lengths l.byte-index
