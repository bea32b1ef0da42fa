-- What is true of a runtime's fields while its block stays as it is.
use Rattle.std.proofs.Common.{◌≡◌, ◌<◌, Bool, List}
use Rattle.mcount_arcs.specs.declared.gmon.Cursor.{Cursor}
use Rattle.mcount_arcs.specs.declared.gmon.Gmon.TheInside.{Inside}
use Rattle.mcount_arcs.specs.declared.state.State.{State}
use Rattle.mcount_arcs.specs.declared.state.State.TheVariants.{Busy, Error}
use Rattle.mcount_arcs.specs.Held.{view_of, IsAt, IsHeld}
use Rattle.mcount_arcs.specs.Log.{LogEntry}
use Rattle.mcount_arcs.specs.Value.{StandsFor}

-- another state, another mode and another walk
pub held_with : (a : Inside) (s : State) (on : Bool) (c : Cursor) (log : List LogEntry) → IsHeld a → StandsFor log (view_of (record a { state = s; sampling = on; cursor = c })) → (a.state ≡ Error → s ≡ Error) → (s ≡ Busy → IsAt a.block c) → (s ≡ Busy → a.calls < 4294967295)
    → IsHeld (record a { state = s; sampling = on; cursor = c })
held_with a s on c log held stands run_out at room =
    search (held.sizes, held.counter_width, held.slot_width, held.tos, held.counters, held.froms, held.fits, held.free)
