-- What a flow's fields stand for.
-- Only private functions and invariants speak of it.
use Rattle.std.specs.Prelude.{map}
use Rattle.call_cycles.specs.Flow.{FlowValue}
use Rattle.propagate.specs.declared.flows.ArcTimes.{ArcTimes}
use Rattle.propagate.specs.declared.flows.Flow.TheInside.{Inside}

abbrev pub value_of : Inside → FlowValue
value_of a = record {
  self = a.selves.items;
  child = a.children.items;
  arc_self = map (λ (x : ArcTimes). x.own) a.arcs.items;
  arc_child = map (λ (x : ArcTimes). x.child) a.arcs.items;
  member_child = a.member_children.items;
}
