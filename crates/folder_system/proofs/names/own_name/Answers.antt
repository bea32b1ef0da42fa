use Rattle.std.proofs.Common.{◌++◌, List, ℕ, string_bytes, sym, ap, ◌∙◌}
use Rattle.std.specs.Prelude.{codes, option_map}
use Rattle.folder_system.proofs.NameLemmas.{split_by, numbered_whole, numbered_last}
use Rattle.folder_system.proofs.names.own_name.Goals as goal

pub returns-in_ok-from_str-in-None : goal.returns-in_ok-from_str-in-None
returns-in_ok-from_str-in-None c =
    let split = split_by c.args.name.now _ c.rsplit_once.ensures.cases in
    numbered_whole (λ s. string_bytes s) c.args.name.now c.args.n (string_bytes c.in_ok-from_str-in-None.field-0) c.with_number.result (sym split ∙ ap (option_map (λ x. (x.0.now, x.1.now))) c.in-None.is) c.in_ok-from_str-in-None.ensures.ok c.with_number.ensures

pub returns-in_ok-push_str-in-Some : goal.returns-in_ok-push_str-in-Some
returns-in_ok-push_str-in-Some c =
    let split = split_by c.args.name.now _ c.rsplit_once.ensures.cases in
    numbered_last (λ s. string_bytes s) c.args.name.now c.args.n (string_bytes c.push_str.new.self) c.with_number-in-Some.result c.in-Some.folder.now c.in-Some.last.now (sym split ∙ ap (option_map (λ x. (x.0.now, x.1.now))) c.in-Some.is) (c.in_ok-push_str-in-Some.ensures.bytes ∙ ap (λ (l : List ℕ). l ++ codes "/.") c.in_ok-own-in-Some.ensures.ok) c.with_number-in-Some.ensures
