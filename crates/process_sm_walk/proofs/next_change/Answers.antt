use Rattle.process_sm_walk.proofs.NextChange.{next-tempo, next-stop, next_last_tempo, next_last_stop, next-none}
use Rattle.process_sm_walk.proofs.next_change.Goals as goal

pub returns-then-tempo_beat-stop_beat : goal.returns-then-tempo_beat-stop_beat
returns-then-tempo_beat-stop_beat c = next-tempo c.args.tempo_beats.now c.args.tempo_values.now c.args.stop_beats.now c.args.stop_values.now c.args.places c.requires.tempo_beats_len c.requires.stop_beats_len c.entry_at-tempo.result c.entry_at-stop.result c.entry_at-tempo.ensures c.entry_at-stop.ensures c.if-tempo_at-tempo_beats.true c.if-stop_at-stop_beats.true c.if-tempo_beat-stop_beat.true

pub returns-then-stop_at-stop_beats : goal.returns-then-stop_at-stop_beats
returns-then-stop_at-stop_beats c = next-stop c.args.tempo_beats.now c.args.tempo_values.now c.args.stop_beats.now c.args.stop_values.now c.args.places c.requires.tempo_beats_len c.requires.stop_beats_len c.entry_at-tempo.result c.entry_at-stop.result c.entry_at-tempo.ensures c.entry_at-stop.ensures c.if-tempo_at-tempo_beats.true c.if-stop_at-stop_beats.true c.if-tempo_beat-stop_beat.false

pub returns-then-tempo_at-tempo_beats : goal.returns-then-tempo_at-tempo_beats
returns-then-tempo_at-tempo_beats c = next_last_tempo c.args.tempo_beats.now c.args.tempo_values.now c.args.stop_beats.now c.args.stop_values.now c.args.places c.requires.tempo_beats_len c.requires.stop_beats_len c.entry_at-tempo.result c.entry_at-tempo.ensures c.if-tempo_at-tempo_beats.true c.if-stop_at-stop_beats.false

pub returns-then-stop_at-stop_beats-2 : goal.returns-then-stop_at-stop_beats-2
returns-then-stop_at-stop_beats-2 c = next_last_stop c.args.tempo_beats.now c.args.tempo_values.now c.args.stop_beats.now c.args.stop_values.now c.args.places c.requires.tempo_beats_len c.requires.stop_beats_len c.entry_at-stop-then-stop_at-stop_beats-2.result c.entry_at-stop-then-stop_at-stop_beats-2.ensures c.if-tempo_at-tempo_beats.false c.if-stop_at-stop_beats-2.true

pub returns : goal.returns
returns c = next-none c.args.tempo_beats.now c.args.tempo_values.now c.args.stop_beats.now c.args.stop_values.now c.args.places c.requires.tempo_beats_len c.requires.stop_beats_len c.if-tempo_at-tempo_beats.false c.if-stop_at-stop_beats-2.false
