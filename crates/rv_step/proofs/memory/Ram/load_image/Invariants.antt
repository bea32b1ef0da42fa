use Rattle.std.proofs.Common.{◌≡◌, length, take}
use Rattle.rv_step.specs.Loading.{with_segments}
use Rattle.rv_step.proofs.memory.Ram.load_image.Given as goal

abbrev pub invariant-loop-segment : goal.invariant-loop-segment
invariant-loop-segment l = record {
  so_far : l.self ≡ with_segments (take l.segment-index l.segment-items) l.bytes l.initial.self;
  base : l.self.base ≡ l.initial.self.base;
  size : length l.self.bytes ≡ length l.initial.self.bytes;
}
