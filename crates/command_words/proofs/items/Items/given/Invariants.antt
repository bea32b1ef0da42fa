use Rattle.std.proofs.Common.{◌≡◌, [], take}
use Rattle.command_words.specs.Items.{values}
use Rattle.command_words.proofs.items.Items.given.Given as goal

-- none so far
abbrev pub invariant-loop-item : goal.invariant-loop-item
invariant-loop-item l = values l.key (take l.item-index l.item-items) ≡ []
