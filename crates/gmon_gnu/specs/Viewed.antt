-- The records of a reader that views have left.
-- Only private functions and invariants speak of it.
use Rattle.std.specs.Prelude.{ℕ, ◌≤◌, List, [], ◌∷◌, ◌++◌, map, drop, length, ⊤}
use Rattle.std.specs.List.{AllByRecursion}
use Rattle.gp_base.specs.declared.records.RawArc.{RawArc}
use Rattle.gp_base.specs.declared.records.Rec.{Rec}
use Rattle.gp_base.specs.declared.records.Rec.TheVariants.{Arc}
use Rattle.gmon_gnu.specs.declared.state.Entry.{Entry}
use Rattle.gmon_gnu.specs.declared.state.State.{State}
use Rattle.gmon_gnu.specs.declared.views.RecordViews.TheInside.{Inside}
use Rattle.gmon_gnu.specs.Held.{IsEntryHeld, arcs_before, held_rec, recs_in}

-- the arcs in front of the record of the first entry, or behind all entries
abbrev pub front_arcs : List RawArc → List Entry → ℕ → List RawArc
front_arcs arcs [] run = drop run arcs
front_arcs arcs (e ∷ entries) run = arcs_before arcs e

-- the records behind those
abbrev pub behind_arcs : State → List Entry → List Rec
behind_arcs s [] = []
behind_arcs s (e ∷ entries) = held_rec s e.body ∷ recs_in s.fields.items s.counters.cells.items s.pairs.cells.items s.arcs.items entries s.run

abbrev pub recs_left : Inside → List Rec
recs_left v = map Arc v.front.now ++ behind_arcs v.state.now v.entries.now

-- the arcs of the first entry lie within what there is
abbrev pub IsFrontWithin : ℕ → List Entry → Type 0
IsFrontWithin arcs [] = ⊤
IsFrontWithin arcs (e ∷ entries) = (e.first ≤ e.last) × (e.last ≤ arcs)

-- all spans that are left do
pub record IsWalk (v : Inside) : Type 0 where
  pub spans : AllByRecursion (IsEntryHeld v.state.now) v.entries.now
  pub run : v.state.now.run ≤ length v.state.now.arcs.items
