use Rattle.std.proofs.Common.{◌≡◌, length}
use Rattle.host_port.specs.Host.{act_of, KeepsLast}
use Rattle.host_port.proofs.Piecewise.{Along}
use Rattle.host_port.proofs.pieces.put_all.Given as goal

abbrev pub invariant-loop-rest : goal.invariant-loop-rest
invariant-loop-rest g l =
    record {
      far : Along (act_of l.side) l.piece l.rest (g.H.Host.outside l.initial.host) (g.H.Host.outside l.host);
      last : KeepsLast l.side (g.H.Host.outside l.initial.host) (g.H.Host.outside l.host);
      idle : length l.piece ≡ 0 → l.host ≡ l.initial.host;
    }

abbrev pub decreases-loop-rest : goal.decreases-loop-rest
decreases-loop-rest g l = length l.rest
