use Rattle.std.proofs.Common.{◌≡◌, ◌++◌, ◌∷◌, [], None, unwrap_or, sym, subst, rules}
use Rattle.gmon_data.specs.Arcs.{entries_of, IsBehind, IsInOrder}
use Rattle.gmon_data.proofs.ArcLemmas.{behind_in_order, behind_new, entries_more}
use Rattle.gmon_data.proofs.arcs.Arcs.add.Goals as goal

-- the pair can stand behind the list
behind : (c : goal.In_ok-push) → IsBehind c.args.pair (entries_of c.self.inside.list.items)
behind c = search (rules, c.is_behind.ensures, c.self.invariant.by_site, c.if-is_behind.true)

-- and does so
pushed : (c : goal.In_ok-push) → entries_of c.push.new.self.items ≡ entries_of c.self.inside.list.items ++ (c.args.pair, c.args.count) ∷ []
pushed c = entries_more c.self.inside.list.items c.push.new.self.items (record { from = c.args.pair.0; to = c.args.pair.1; count = c.args.count }) c.in_ok-push.ensures.items

-- the list is what is seen
seen : (c : goal.In_ok-push) → c.self.inside.table ≡ None
seen c = search rules

pub invariant_of-self-then-is_behind : goal.invariant_of-self-then-is_behind
invariant_of-self-then-is_behind c = subst IsInOrder (sym (pushed c)) (behind_in_order c.args.pair c.args.count (entries_of c.self.inside.list.items) (behind c) c.self.invariant)

pub returns-then-is_behind-clause-added : goal.returns-then-is_behind-clause-added
returns-then-is_behind-clause-added c = search (unwrap_or, seen, pushed, behind_new, behind, rules)

pub returns-then-is_behind-clause-distinct : goal.returns-then-is_behind-clause-distinct
returns-then-is_behind-clause-distinct c = search (behind_in_order, behind, unwrap_or, seen, pushed, rules)
