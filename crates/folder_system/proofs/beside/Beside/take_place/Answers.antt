use Rattle.std.proofs.Common.{List, ℕ, true, false, string_bytes, subst}
use Rattle.host_port.specs.Outside.{Becomes}
use Rattle.system_host.specs.Told.{bytes_of}
use Rattle.folder_system.specs.declared.beside.Naming.{Naming}
use Rattle.folder_system.specs.declared.beside.Naming.TheVariants.{Done, Held}
use Rattle.folder_system.specs.Events.{Follows, Removed, after, answer_of}
use Rattle.folder_system.specs.Place.{IsPut, IsHalf, IsHalted, IsLost, IsOver, IsSettling}
use Rattle.folder_system.proofs.Ends.{moved, unsettled, copied, half_copied, withdrawn}
use Rattle.folder_system.proofs.Making.{on_err}
use Rattle.folder_system.proofs.beside.Beside.take_place.Goals as goal

pub returns-in-Ok-Done-clause-taken : goal.returns-in-Ok-Done-clause-taken
returns-in-Ok-Done-clause-taken g c =
    let told = g.F.Folder.history in
    let bytes = bytes_of (g.F.Output.Write.contents c.args.output.now) in
    let old = c.args.self.old in
    let takes = c.args.self.takes in
    let own = string_bytes c.args.self.own in
    let name = string_bytes c.args.self.name in
    let put = subst (λ (n : List ℕ). Follows (IsPut old takes own n bytes Done) (told c.args.folder.now) (told c.put.new.folder)) c.as_str-2.ensures.value
    (subst (λ (o : List ℕ). Follows (IsPut old takes o c.as_str-2.result.now bytes Done) (told c.args.folder.now) (told c.put.new.folder)) c.as_str.ensures.value
    (subst (λ (v : Naming). Follows (IsPut old takes c.as_str.result.now c.as_str-2.result.now bytes v) (told c.args.folder.now) (told c.put.new.folder)) c.in-Ok-Done.field-0-is c.in-Ok-Done.ensures.put)) in
    let done = subst (λ (n : List ℕ). Follows (IsSettling n true) (told c.put.new.folder) (told c.settle.new.folder)) c.as_str-in-Ok-Done.ensures.value c.in_ok-settle-in-Ok-Done.ensures.settled in
    moved old takes own name bytes (told c.args.folder.now) (told c.put.new.folder) (told c.settle.new.folder) put done

pub returns-in_err-settle-in-Ok-Done-clause-lost : goal.returns-in_err-settle-in-Ok-Done-clause-lost
returns-in_err-settle-in-Ok-Done-clause-lost g c =
    let told = g.F.Folder.history in
    let bytes = bytes_of (g.F.Output.Write.contents c.args.output.now) in
    let old = c.args.self.old in
    let takes = c.args.self.takes in
    let own = string_bytes c.args.self.own in
    let name = string_bytes c.args.self.name in
    let put = subst (λ (n : List ℕ). Follows (IsPut old takes own n bytes Done) (told c.args.folder.now) (told c.put.new.folder)) c.as_str-2.ensures.value
    (subst (λ (o : List ℕ). Follows (IsPut old takes o c.as_str-2.result.now bytes Done) (told c.args.folder.now) (told c.put.new.folder)) c.as_str.ensures.value
    (subst (λ (v : Naming). Follows (IsPut old takes c.as_str.result.now c.as_str-2.result.now bytes v) (told c.args.folder.now) (told c.put.new.folder)) c.in-Ok-Done.field-0-is c.in-Ok-Done.ensures.put)) in
    let failed = subst (λ (n : List ℕ). Follows (IsSettling n false) (told c.put.new.folder) (told c.settle.new.folder)) c.as_str-in-Ok-Done.ensures.value c.in_err-settle-in-Ok-Done.ensures.failed in
    on_err c.from_residual.result (Follows (IsLost old takes own name bytes) (told c.args.folder.now) (told c.settle.new.folder))
    (unsettled old takes own name bytes (told c.args.folder.now) (told c.put.new.folder) (told c.settle.new.folder) put failed)

pub returns-in-Ok-clause-taken : goal.returns-in-Ok-clause-taken
returns-in-Ok-clause-taken g c =
    let told = g.F.Folder.history in
    let bytes = bytes_of (g.F.Output.Write.contents c.args.output.now) in
    let old = c.args.self.old in
    let takes = c.args.self.takes in
    let own = string_bytes c.args.self.own in
    let name = string_bytes c.args.self.name in
    let put = subst (λ (n : List ℕ). Follows (IsPut old takes own n bytes Held) (told c.args.folder.now) (told c.put.new.folder)) c.as_str-2.ensures.value
    (subst (λ (o : List ℕ). Follows (IsPut old takes o c.as_str-2.result.now bytes Held) (told c.args.folder.now) (told c.put.new.folder)) c.as_str.ensures.value
    (subst (λ (v : Naming). Follows (IsPut old takes c.as_str.result.now c.as_str-2.result.now bytes v) (told c.args.folder.now) (told c.put.new.folder)) c.in-Ok-Held.field-0-is c.in-Ok-Held.ensures.put)) in
    let over = subst (λ (n : List ℕ). Follows (IsOver n bytes) (told c.put.new.folder) (told c.copy_over.new.folder)) c.as_str-in-Ok-Held.ensures.value c.in-Ok.ensures.over in
    let removed = subst (λ (o : List ℕ). Becomes (after (Removed o (answer_of c.remove.result))) (told c.copy_over.new.folder) (told c.remove.new.self)) c.as_str-in-Ok.ensures.value c.remove.ensures in
    copied old takes own name bytes (answer_of c.remove.result) (told c.args.folder.now) (told c.put.new.folder) (told c.copy_over.new.folder) (told c.remove.new.self) put over removed

pub returns-in-Ok-Held-clause-lost : goal.returns-in-Ok-Held-clause-lost
returns-in-Ok-Held-clause-lost g c =
    let told = g.F.Folder.history in
    let bytes = bytes_of (g.F.Output.Write.contents c.args.output.now) in
    let old = c.args.self.old in
    let takes = c.args.self.takes in
    let own = string_bytes c.args.self.own in
    let name = string_bytes c.args.self.name in
    let put = subst (λ (n : List ℕ). Follows (IsPut old takes own n bytes Held) (told c.args.folder.now) (told c.put.new.folder)) c.as_str-2.ensures.value
    (subst (λ (o : List ℕ). Follows (IsPut old takes o c.as_str-2.result.now bytes Held) (told c.args.folder.now) (told c.put.new.folder)) c.as_str.ensures.value
    (subst (λ (v : Naming). Follows (IsPut old takes c.as_str.result.now c.as_str-2.result.now bytes v) (told c.args.folder.now) (told c.put.new.folder)) c.in-Ok-Held.field-0-is c.in-Ok-Held.ensures.put)) in
    let not = subst (λ (n : List ℕ). Follows (IsHalf n bytes) (told c.put.new.folder) (told c.copy_over.new.folder)) c.as_str-in-Ok-Held.ensures.value c.in-Err-copy_over.ensures.not_over in
    let removed = subst (λ (o : List ℕ). Becomes (after (Removed o (answer_of c.remove-in-Err-copy_over.result))) (told c.copy_over.new.folder) (told c.remove-in-Err-copy_over.new.self)) c.as_str-in-Err-copy_over.ensures.value c.remove-in-Err-copy_over.ensures in
    half_copied old takes own name bytes (answer_of c.remove-in-Err-copy_over.result) (told c.args.folder.now) (told c.put.new.folder) (told c.copy_over.new.folder) (told c.remove-in-Err-copy_over.new.self) put not removed

pub returns-clause-lost : goal.returns-clause-lost
returns-clause-lost g c =
    let told = g.F.Folder.history in
    let bytes = bytes_of (g.F.Output.Write.contents c.args.output.now) in
    let old = c.args.self.old in
    let takes = c.args.self.takes in
    let own = string_bytes c.args.self.own in
    let name = string_bytes c.args.self.name in
    let halted = subst (λ (n : List ℕ). Follows (IsHalted old takes own n bytes) (told c.args.folder.now) (told c.put.new.folder)) c.as_str-2.ensures.value
    (subst (λ (o : List ℕ). Follows (IsHalted old takes o c.as_str-2.result.now bytes) (told c.args.folder.now) (told c.put.new.folder)) c.as_str.ensures.value c.in-Err.ensures.halted) in
    let removed = subst (λ (o : List ℕ). Becomes (after (Removed o (answer_of c.remove-in-Err.result))) (told c.put.new.folder) (told c.remove-in-Err.new.self)) c.as_str-in-Err.ensures.value c.remove-in-Err.ensures in
    withdrawn old takes own name bytes (answer_of c.remove-in-Err.result) (told c.args.folder.now) (told c.put.new.folder) (told c.remove-in-Err.new.self) halted removed
