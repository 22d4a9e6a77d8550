-- `clock_walk::pass_event` passes an event of any kind. Assumes nothing.
use Rattle.std.proofs.Common.{◌≡◌, ℤ, subst}
use lib.Ieee.{Float}
use Rattle.chart.specs.declared.State.{State}
use Rattle.clock_walk.specs.declared.Next.{Next}
use Rattle.clock_walk.specs.declared.Event.{Event}
use Rattle.clock_walk.specs.declared.Event.TheVariants.{WarpEnd, Tempo, Delay, Stop, Warp}
use Rattle.clock_walk.specs.inside.CanMove.{CanMove}
use Rattle.clock_walk.specs.Passing.{arrived, event_passed}
use Rattle.rows.proofs.BackFromBits.{back}
use Rattle.clock_walk.proofs.pass_event.Goals as goal

-- an event of a kind that was passed on a row
arrives : (s : State) (n : Next) (kind : Event) (r : State) (at : ℤ) (time number : Float) → at ≡ n.row → n.kind ≡ kind → r ≡ arrived s at time number kind → r ≡ event_passed s n time number
unfolding event_passed
arrives s n kind r at time number e g h = rw (g, ← e) h

pub pass_tempo-requires : goal.pass_tempo-requires
pass_tempo-requires c =
    let s = c in
    subst (λ (k : Event). CanMove s.args.state k) c.in-Tempo.is s.requires

pub pass_delay-requires : goal.pass_delay-requires
pass_delay-requires c =
    let s = c in
    subst (λ (k : Event). CanMove s.args.state k) c.in-Delay.is s.requires

pub pass_stop-requires : goal.pass_stop-requires
pass_stop-requires c =
    let s = c in
    subst (λ (k : Event). CanMove s.args.state k) c.in-Stop.is s.requires

pub pass_warp-requires : goal.pass_warp-requires
pass_warp-requires c =
    let s = c in
    subst (λ (k : Event). CanMove s.args.state k) c.in-Warp.is s.requires

pub returns-in-WarpEnd : goal.returns-in-WarpEnd
returns-in-WarpEnd c =
    let a = c.args in
    arrives a.state a.next WarpEnd c.pass_warp_end.result _ a.time a.number (back a.next.row (record { sfits = c.struct_told-1.given.0.1 })) c.in-WarpEnd.is c.pass_warp_end.ensures

pub returns-in-Tempo : goal.returns-in-Tempo
returns-in-Tempo c =
    let a = c.args in
    arrives a.state a.next Tempo c.pass_tempo.result _ a.time a.number (back a.next.row (record { sfits = c.struct_told-1.given.0.1 })) c.in-Tempo.is c.pass_tempo.ensures

pub returns-in-Delay : goal.returns-in-Delay
returns-in-Delay c =
    let a = c.args in
    arrives a.state a.next Delay c.pass_delay.result _ a.time a.number (back a.next.row (record { sfits = c.struct_told-1.given.0.1 })) c.in-Delay.is c.pass_delay.ensures

pub returns-in-Stop : goal.returns-in-Stop
returns-in-Stop c =
    let a = c.args in
    arrives a.state a.next Stop c.pass_stop.result _ a.time a.number (back a.next.row (record { sfits = c.struct_told-1.given.0.1 })) c.in-Stop.is c.pass_stop.ensures

pub returns-in-Warp : goal.returns-in-Warp
returns-in-Warp c =
    let a = c.args in
    arrives a.state a.next Warp c.pass_warp.result _ a.time a.number (back a.next.row (record { sfits = c.struct_told-1.given.0.1 })) c.in-Warp.is c.pass_warp.ensures
