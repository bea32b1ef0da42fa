use Rattle.std.proofs.Common.{◌≡◌, take}
use Rattle.command_words.specs.Items.{all_wanted}
use Rattle.command_words.proofs.items.Items.all_wanted.Given as goal

-- those so far
abbrev pub invariant-loop-item : goal.invariant-loop-item
invariant-loop-item l = l.found ≡ all_wanted l.wanted (take l.item-index l.item-items)
