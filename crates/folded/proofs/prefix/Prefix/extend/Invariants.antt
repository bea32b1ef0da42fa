use Rattle.std.proofs.Common.{◌≡◌, ◌-◌}
use Rattle.folded.specs.Paths.{IsPrefix}
use Rattle.folded.proofs.prefix.Prefix.extend.Given as goal

abbrev pub invariant-loop-self : goal.invariant-loop-self
invariant-loop-self l = record {
  path : l.self.path ≡ l.initial.self.path;
  prefix : IsPrefix l.symbols l.self;
}

abbrev pub decreases-loop-self : goal.decreases-loop-self
decreases-loop-self l = l.self.path.len - l.self.callers
