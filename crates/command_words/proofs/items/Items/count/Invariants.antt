use Rattle.std.proofs.Common.{◌≡◌, ◌≤◌, length, take}
use Rattle.command_words.specs.Items.{all_wanted}
use Rattle.command_words.proofs.items.Items.count.Given as goal

-- those so far
abbrev pub invariant-loop-item : goal.invariant-loop-item
invariant-loop-item l = record {
  counted : l.count ≡ length (all_wanted l.wanted (take l.item-index l.item-items));
  few : l.count ≤ l.item-index;
}
