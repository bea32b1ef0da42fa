use Rattle.std.proofs.Common.{◌+◌, ◌≤◌, ◌++◌, List, ℕ, ap, arith, get_or, length}
use Rattle.std.specs.Prelude.{codes}
use Rattle.folded.proofs.PrefixLemmas.{prefix_more}
use Rattle.folded.proofs.prefix.Prefix.put.Goals as goal

pub returns-clause-prefix : goal.returns-clause-prefix
returns-clause-prefix c = λ symbols is named.
    let p = c.args.self.now in
    let start = get_or p.ends p.callers 0 in
    let end = start + length c.args.name.now + 1 in
    let fits : end ≤ 8192 = omega (arith, c.if-name-start.false) in
    prefix_more symbols p c.write_caller.new.bytes (c.args.name.now ++ codes ";") end is c.requires.within c.write_caller.ensures.length fits (omega arith) (ap (λ (x : List ℕ). x ++ codes ";") named) c.write_caller.ensures.text
