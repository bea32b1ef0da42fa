use Rattle.std.proofs.Common.{sym, ◌∙◌, arith}
use Rattle.arc_filter.proofs.MarkLemmas.{callee_unknown, caller_unknown, caller_unnamed, caller_at, callers_long, pair_marked}
use Rattle.arc_filter.proofs.marks.is_cut.Goals as goal

pub returns-in_default : goal.returns-in_default
returns-in_default c = λ words are. caller_unknown c.args.symbols.now words c.args.from c.args.to (sym c.owner.ensures ∙ c.in_default.is)

pub returns-in_default-owner : goal.returns-in_default-owner
returns-in_default-owner c = λ words are. callee_unknown c.args.symbols.now words c.args.from c.args.to (sym c.owner-2.ensures ∙ c.in_default-owner.is)

pub returns : goal.returns
returns c = grind (arith, pair_marked)

pub index-is_named-requires : goal.index-is_named-requires
index-is_named-requires c = grind (arith, callers_long)

pub returns-then-not-is_named : goal.returns-then-not-is_named
returns-then-not-is_named c = grind (arith, caller_at, caller_unnamed)
