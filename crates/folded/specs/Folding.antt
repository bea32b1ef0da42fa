-- How a run that is folded ends.
use Rattle.std.specs.Prelude.{◌≡◌, ℕ, ◌+◌, ◌<◌, ◌≤◌, List, length, map, slice_index_or, slice_set, None, All}
use Rattle.elf32_syms.specs.declared.image.Symbol.{Symbol}
use Rattle.host_port.specs.Outside.{KeepsCounts, Outside}
use Rattle.prof_machine.specs.declared.machine.Machine.{Machine}
use Rattle.prof_machine.specs.Plan.{most_turns, world_at}
use Rattle.prof_machine.specs.Prints.{ArePrinted, BreaksOff, PrintFailed}
use Rattle.prof_machine.specs.World.{World}
use Rattle.folded.specs.declared.tracker.Tracker.{Tracker}
use Rattle.folded.specs.Nodes.{IsOn, IsTreeFor, IsTreeOf, first_place}
use Rattle.folded.specs.Shadow.{Shadow, empty_shadow}
use Rattle.folded.specs.Stacks.{caller_in, stacks_of}
use Rattle.folded.specs.Trail.{Trail}
use Rattle.folded.specs.declared.refusal.FoldRefusal.{FoldRefusal}
use Rattle.folded.specs.declared.refusal.FoldRefusal.TheVariants.{HostFailed, OutOfMemory}

-- what is printed: where a print failed all but a rest of its last piece, and where memory was short all of the turns
-- that were made
abbrev pub StopsShort : Machine → World → Outside → Outside → FoldRefusal → Type 0
StopsShort m w old new HostFailed =
    (n : ℕ) × (n < most_turns m.setup) × ((world_at m w n).ending ≡ None) × BreaksOff w (world_at m w (n + 1)) old new
StopsShort m w old new OutOfMemory = (n : ℕ) × (n ≤ most_turns m.setup) × ArePrinted w (world_at m w n) old new

-- only a print that failed raises a count of faults
abbrev pub HasCause : Outside → Outside → FoldRefusal → Type 0
HasCause old new HostFailed = PrintFailed old new
HasCause old new OutOfMemory = KeepsCounts old new

-- shadows and samples that were followed stand for those of the definitions
pub record Follows (symbols : List Symbol) (t : Trail) (v : Tracker) : Type 0 where
  pub shadows : v.shadows.items ≡ t.shadows
  pub samples : IsTreeOf (stacks_of symbols t.samples) v.tree

-- each hart has its place in the tree
pub record IsTracked (symbols : List Symbol) (v : Tracker) : Type 0 where
  pub tree : IsTreeFor symbols v.tree
  pub harts : length v.places.items ≡ length v.shadows.items
  pub places : (h : ℕ) → h < length v.shadows.items → IsOn v.tree.nodes.items (map (caller_in symbols) (slice_index_or v.shadows.items h empty_shadow).frames) (slice_index_or v.places.items h first_place)

-- hart h has this shadow, which its place in the tree follows
pub record WithShadow (h : ℕ) (s : Shadow) (old new : Tracker) : Type 0 where
  pub shadows : new.shadows.items ≡ slice_set old.shadows.items h s
  pub tree : new.tree ≡ old.tree
  pub tracked : (symbols : List Symbol) → IsTracked symbols old → IsTracked symbols new

-- no shadow has more calls without room than there were turns
abbrev pub HasRoom : ℕ → List Shadow → Type 0
HasRoom turns shadows = All (λ (s : Shadow). s.over ≤ turns) shadows
