use Rattle.std.proofs.Common.{◌≡◌, ◌<◌, ◌+◌}
use Rattle.fraction128.specs.Fractions.{cross_cmp}
use Rattle.fraction128.proofs.order.order.Given as goal

abbrev pub invariant-loop-left : goal.invariant-loop-left
invariant-loop-left l = record {
  some_left : 0 < l.left.1;
  some_right : 0 < l.right.1;
  same : cross_cmp l.left.0 l.left.1 l.right.0 l.right.1 ≡ cross_cmp l.fn.a l.fn.b l.fn.c l.fn.d;
}

abbrev pub decreases-loop-left : goal.decreases-loop-left
decreases-loop-left l = l.left.1 + l.right.1
