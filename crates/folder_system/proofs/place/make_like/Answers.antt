use Rattle.std.proofs.Common.{◌≡◌, List, ℕ, Bool, true, false, [], Option, Some, None, inr, refl, string_bytes, sym, ap, subst, ◌∙◌}
use Rattle.std.proofs.lemmas.Result.{err_from_is_err_and}
use Rattle.std.specs.IoError.{error_kind}
use Rattle.host_port.specs.Outside.{Becomes}
use Rattle.folder_system.specs.Events.{Follows, LookedAt, Removed, after, answer_of, found_by}
use Rattle.folder_system.specs.Found.{is_owned, is_like}
use Rattle.folder_system.specs.declared.folder.Attributes.{Attributes}
use Rattle.folder_system.specs.declared.folder.Found.{Found}
use Rattle.folder_system.specs.Place.{IsMade, IsUnmade, IsBegun, IsBarred, IsGivenUp, mode_for, seen_in}
use Rattle.folder_system.proofs.Causes.{failed_behind}
use Rattle.folder_system.proofs.Making.{barred_making, barred_at, owned, foreign, dropped, made_at, seen_by, on_err}
use Rattle.folder_system.proofs.place.make_like.Goals as goal

pub returns-in_default-clause-barred : goal.returns-in_default-clause-barred
returns-in_default-clause-barred g c =
    let told = g.F.Folder.history in
    let name = c.args.name.now in
    let unmade = barred_at c.in_ok-output.field-0 (Follows (IsUnmade name c.mode_for.result) (told c.args.folder.now) (told c.make.new.folder)) c.in_default.is c.in_ok-output.ensures.barred in
    barred_making name c.args.old (told c.args.folder.now) (told c.make.new.folder) (subst (λ (m : ℕ). Follows (IsUnmade name m) (told c.args.folder.now) (told c.make.new.folder)) c.mode_for.ensures unmade)

pub returns-then-is_owned-clause-begun : goal.returns-then-is_owned-clause-begun
returns-then-is_owned-clause-begun g c =
    let told = g.F.Folder.history in
    let name = c.args.name.now in
    let old = c.in-Some-old.old in
    let own = string_bytes c.in-Some.own in
    let seen = found_by c.look_at.result in
    let is_mode : c.mode_for.result ≡ mode_for (Some old) = c.mode_for.ensures ∙ ap mode_for c.in-Some-old.is in
    let made = subst (λ (m : ℕ). Follows (IsMade name own m []) (told c.args.folder.now) (told c.make.new.folder)) is_mode
    (made_at c.in_ok-output.field-0 (c.in-Some.output, c.in-Some.own) c.in-Some.is (λ m. Follows (IsMade name (string_bytes m.1) c.mode_for.result []) (told c.args.folder.now) (told c.make.new.folder)) c.in_ok-output.ensures.begun) in
    let is : c.unwrap_or-seen.result ≡ seen_in seen = seen_by c.look_at.result c.unwrap_or-seen.result c.unwrap_or-seen.ensures in
    let same : is_owned (seen_in seen) old ≡ true = ap (λ (f : Found). is_owned f old) (sym is) ∙ sym c.is_owned.ensures ∙ c.if-is_owned.true in
    let alike : c.is_like.result ≡ is_like (seen_in seen) old = c.is_like.ensures ∙ ap (λ (f : Found). is_like f old) is in
    subst (λ (o : Option Attributes). Follows (IsBegun name own o c.is_like.result) (told c.args.folder.now) (told c.look_at.new.self)) (sym c.in-Some-old.is)
    (subst (λ (b : Bool). Follows (IsBegun name own (Some old) b) (told c.args.folder.now) (told c.look_at.new.self)) (sym alike)
    (owned name own old seen (told c.args.folder.now) (told c.make.new.folder) (told c.look_at.new.self) made c.look_at.ensures same))

pub returns-in_err-remove-clause-given_up : goal.returns-in_err-remove-clause-given_up
returns-in_err-remove-clause-given_up g c =
    let told = g.F.Folder.history in
    let name = c.args.name.now in
    let old = c.in-Some-old.old in
    let own = string_bytes c.in-Some.own in
    let seen = found_by c.look_at.result in
    let is_mode : c.mode_for.result ≡ mode_for (Some old) = c.mode_for.ensures ∙ ap mode_for c.in-Some-old.is in
    let made = subst (λ (m : ℕ). Follows (IsMade name own m []) (told c.args.folder.now) (told c.make.new.folder)) is_mode
    (made_at c.in_ok-output.field-0 (c.in-Some.output, c.in-Some.own) c.in-Some.is (λ m. Follows (IsMade name (string_bytes m.1) c.mode_for.result []) (told c.args.folder.now) (told c.make.new.folder)) c.in_ok-output.ensures.begun) in
    let removed = subst (λ (o : List ℕ). Becomes (after (Removed o (answer_of c.remove.result))) (told c.look_at.new.self) (told c.remove.new.self)) c.as_str.ensures.value c.remove.ensures in
    on_err c.from_residual-in_err-remove.result (Follows (IsGivenUp name) (told c.args.folder.now) (told c.remove.new.self))
    (dropped name own old seen (told c.args.folder.now) (told c.make.new.folder) (told c.look_at.new.self) made c.look_at.ensures (told c.remove.new.self) (answer_of c.remove.result) removed)

pub returns-in_err-remove-clause-cause : goal.returns-in_err-remove-clause-cause
returns-in_err-remove-clause-cause g c =
    let told = g.F.Folder.history in
    let name = c.args.name.now in
    let old = c.in-Some-old.old in
    let own = string_bytes c.in-Some.own in
    let seen = found_by c.look_at.result in
    let is_mode : c.mode_for.result ≡ mode_for (Some old) = c.mode_for.ensures ∙ ap mode_for c.in-Some-old.is in
    let made = subst (λ (m : ℕ). Follows (IsMade name own m []) (told c.args.folder.now) (told c.make.new.folder)) is_mode
    (made_at c.in_ok-output.field-0 (c.in-Some.output, c.in-Some.own) c.in-Some.is (λ m. Follows (IsMade name (string_bytes m.1) c.mode_for.result []) (told c.args.folder.now) (told c.make.new.folder)) c.in_ok-output.ensures.begun) in
    let kind = error_kind c.in_err-remove.field-0.0 in
    let failed = failed_behind kind (IsMade name own (mode_for (Some old)) []) (LookedAt seen) (Removed c.as_str.result.now (Some kind)) (told c.args.folder.now) (told c.make.new.folder) (told c.look_at.new.self) (told c.remove.new.self) refl made c.look_at.ensures c.in_err-remove.ensures in
    let p = err_from_is_err_and c.from_residual-in_err-remove.result c.from_residual-in_err-remove.ensures.1 in
    rw (p.1, p.2) (inr failed)

pub returns-clause-barred : goal.returns-clause-barred
returns-clause-barred g c =
    let told = g.F.Folder.history in
    let name = c.args.name.now in
    let old = c.in-Some-old.old in
    let own = string_bytes c.in-Some.own in
    let seen = found_by c.look_at.result in
    let is_mode : c.mode_for.result ≡ mode_for (Some old) = c.mode_for.ensures ∙ ap mode_for c.in-Some-old.is in
    let made = subst (λ (m : ℕ). Follows (IsMade name own m []) (told c.args.folder.now) (told c.make.new.folder)) is_mode
    (made_at c.in_ok-output.field-0 (c.in-Some.output, c.in-Some.own) c.in-Some.is (λ m. Follows (IsMade name (string_bytes m.1) c.mode_for.result []) (told c.args.folder.now) (told c.make.new.folder)) c.in_ok-output.ensures.begun) in
    let is : c.unwrap_or-seen.result ≡ seen_in seen = seen_by c.look_at.result c.unwrap_or-seen.result c.unwrap_or-seen.ensures in
    let other : is_owned (seen_in seen) old ≡ false = ap (λ (f : Found). is_owned f old) (sym is) ∙ sym c.is_owned.ensures ∙ c.if-is_owned.false in
    let removed = subst (λ (o : List ℕ). Becomes (after (Removed o None)) (told c.look_at.new.self) (told c.remove.new.self)) c.as_str.ensures.value c.in_ok-remove.ensures in
    subst (λ (o : Option Attributes). Follows (IsBarred name o) (told c.args.folder.now) (told c.remove.new.self)) (sym c.in-Some-old.is)
    (foreign name own old seen (told c.args.folder.now) (told c.make.new.folder) (told c.look_at.new.self) made c.look_at.ensures (told c.remove.new.self) other removed)
