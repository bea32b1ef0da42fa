use Rattle.std.proofs.Common.{◌≡◌, ℕ, ◌-◌, ◌≤◌, List, length}
use Rattle.host_port.proofs.LoadLemmas.{Loading}
use Rattle.host_port.proofs.whole_file.read_all.Given as goal

-- what was taken so far is a part of the file
abbrev pub invariant-loop-n : goal.invariant-loop-n
invariant-loop-n g l = record {
  far : (bytes : List ℕ) × Loading l.name l.limit bytes (g.H.Host.outside l.fn.host) (g.H.Host.outside l.host) × g.T.TakesPieces.holds bytes l.taker × (l.len ≡ length bytes);
  within : l.len ≤ l.limit;
  room : length l.piece ≡ 4096;
}

abbrev pub decreases-loop-n : goal.decreases-loop-n
decreases-loop-n g l = l.limit - l.len
