use Rattle.std.proofs.Common.{◌∙◌}
use Rattle.folded.proofs.LinkLemmas.{link_read}
use Rattle.folded.proofs.tree.Tree.link.Goals as goal

pub returns : goal.returns
returns c = c.get.ensures ∙ link_read c.args.self.now.links.items c.args.node c.args.side c.index.result.now c.requires c.index.ensures
