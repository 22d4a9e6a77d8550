-- `process_sm::rooms_hold` compares each list's most with its room. Assumes nothing.
use Rattle.std.proofs.Common.{◌≡◌, ℕ, ◌+◌, arith, rules, leb-true}
use native.Mathlib.Nat.{max-le}
use Rattle.process_sm.proofs.rooms_hold.Goals as goal

pub returns-then-tempo_room-lt1 : goal.returns-then-tempo_room-lt1
returns-then-tempo_room-lt1 c e = let z : ◌≡◌ {A = ℕ} 0 1 = cc in absurd (omega arith)

pub returns-then-tempos-tempo_room : goal.returns-then-tempos-tempo_room
returns-then-tempos-tempo_room c e = let z : ◌≡◌ {A = ℕ} 0 1 = cc in absurd (omega arith)

pub returns-then-stops-stop_room : goal.returns-then-stops-stop_room
returns-then-stops-stop_room c e = let z : ◌≡◌ {A = ℕ} 0 1 = cc in absurd (omega arith)

pub returns : goal.returns
returns c e =
    let s = c in
    record {
      tempos_fit = max-le {a = s.args.tempos} {b = 1} {k = s.args.tempo_room} c.if-tempos-tempo_room.false c.if-tempo_room-lt1.false;
      stops_fit = c.if-stops-stop_room.false;
      warps_fit = leb-true (s.args.tempos + s.args.stops) s.args.warp_room e;
    }
