use Rattle.std.proofs.Common.{◌≡◌, ℕ, ◌-◌, ◌≤◌, [], drop, take, false}
use Rattle.std.specs.List.{AllByRecursion}
use Rattle.gmon_data.specs.Content.{Content, empty_content}
use Rattle.gp_base.specs.declared.limits.TheConstants.{MAX_PROFILE_BYTES}
use Rattle.host_port.specs.Outside.{Outside}
use Rattle.command_inputs.specs.Totals.{total_of}
use Rattle.courses.specs.Answer.{contents_of, profiles}
use Rattle.courses.specs.Course.{Course}
use Rattle.gmon_data.specs.Sizes.{IsOfBytes}
use Rattle.command_inputs.specs.Reading.{HasRead, MayYetStop}
use Rattle.courses.specs.Standing.{Stands}
use Rattle.command_inputs.proofs.inputs.read_profiles.Given as goal

-- the command goes on with the files that are left
abbrev pub invariant-loop-i : goal.invariant-loop-i
invariant-loop-i g l = record {
  reads : (start : Outside) (below : ℕ) (next : Content → Course) → MayYetStop next → AllByRecursion (λ word. below ≤ word) l.gmons
      → Stands l.words start (g.H.Host.outside l.initial.host) below [] (profiles l.gmons MAX_PROFILE_BYTES empty_content next)
      → (behind : ℕ) × AllByRecursion (λ word. behind ≤ word) (drop l.i l.gmons) × Stands l.words start (g.H.Host.outside l.host) behind [] (profiles (drop l.i l.gmons) l.left l.total next);
  idle : (g.H.Host.outside l.host).is_writing ≡ false;
  size : IsOfBytes (MAX_PROFILE_BYTES - l.left) l.total;
  limit : l.left ≤ MAX_PROFILE_BYTES;
  told : HasRead (g.H.Host.outside l.initial.host) (g.H.Host.outside l.host) (λ files. l.total ≡ total_of (contents_of l.words files) (take l.i l.gmons));
}
