use Rattle.std.proofs.Common.{◌≡◌, ◌∙◌, ◌-◌, ◌++◌, ◌∷◌, [], List, ℕ, append_assoc, drop, length, subst, sym, take}
use Rattle.std.specs.List.{flat_map}
use Rattle.std.proofs.lemmas.Result.{err_from_is_err_and}
use Rattle.host_port.specs.Buffered.{Adds}
use Rattle.host_port.specs.declared.side.Side.TheVariants.{Output}
use Rattle.host_port.proofs.BufferLemmas.{adds_front, adds_then}
use Rattle.folded.specs.Paths.{caller_text, functions_of}
use Rattle.folded.specs.Text.{name_in, stack_text}
use Rattle.folded.proofs.PrefixLemmas.{stack_parts}
use Rattle.folded.proofs.writer.put_stack.Goals as goal

pub returns-in_err-put : goal.returns-in_err-put
returns-in_err-put g c =
    let symbols = c.args.symbols.now in
    let stack = functions_of c.args.prefix.now.path in
    let callers = c.in-Some.callers.now in
    let sampled = c.in-Some.sampled.now in
    let known = c.text-known.result.1 in
    let text = c.text-known.result.0.now in
    let rest = flat_map (caller_text symbols) (take (length callers - known) (drop known callers)) in
    let whole : stack ≡ callers ++ sampled ∷ [] = sym c.functions.ensures ∙ c.in-Some.ensures.cases.0 in
    let is = c.text-known.ensures.text symbols c.requires in
    let parts : stack_text symbols stack ≡ text ++ (rest ++ name_in symbols sampled) =
    stack_parts symbols c.args.prefix.now callers sampled known whole c.text-known.ensures.most ∙ (λ i. (sym is i ++ rest) ++ name_in symbols sampled) ∙ append_assoc text rest (name_in symbols sampled) in
    let p = err_from_is_err_and c.from_residual.result c.from_residual.ensures.1 in
    let P : List ℕ → Type 0 = λ x. Adds Output x c.args.lines.now c.put.new.self (g.H.Host.outside c.args.host.now) (g.H.Host.outside c.put.new.host) c.from_residual.result in
    subst P (sym parts) (rw p.1 (adds_front Output text (rest ++ name_in symbols sampled) _ _ _ _ _ c.in_err-put.ensures.adds))

pub returns-in_err-put_callers : goal.returns-in_err-put_callers
returns-in_err-put_callers g c =
    let symbols = c.args.symbols.now in
    let stack = functions_of c.args.prefix.now.path in
    let callers = c.in-Some.callers.now in
    let sampled = c.in-Some.sampled.now in
    let known = c.text-known.result.1 in
    let text = c.text-known.result.0.now in
    let rest = flat_map (caller_text symbols) (take (length callers - known) (drop known callers)) in
    let whole : stack ≡ callers ++ sampled ∷ [] = sym c.functions.ensures ∙ c.in-Some.ensures.cases.0 in
    let is = c.text-known.ensures.text symbols c.requires in
    let parts : stack_text symbols stack ≡ (text ++ rest) ++ name_in symbols sampled =
    stack_parts symbols c.args.prefix.now callers sampled known whole c.text-known.ensures.most ∙ (λ i. (sym is i ++ rest) ++ name_in symbols sampled) in
    let p = err_from_is_err_and c.from_residual-in_err-put_callers.result c.from_residual-in_err-put_callers.ensures.1 in
    let P : List ℕ → Type 0 = λ x. Adds Output x c.args.lines.now c.put_callers.new.lines (g.H.Host.outside c.args.host.now) (g.H.Host.outside c.put_callers.new.host) c.from_residual-in_err-put_callers.result in
    subst P (sym parts) (rw p.1 (adds_front Output (text ++ rest) (name_in symbols sampled) _ _ _ _ _ (adds_then Output text rest _ _ _ _ _ _ _ _ c.in_ok-put.ensures.adds c.in_err-put_callers.ensures)))

pub returns : goal.returns
returns g c =
    let symbols = c.args.symbols.now in
    let stack = functions_of c.args.prefix.now.path in
    let callers = c.in-Some.callers.now in
    let sampled = c.in-Some.sampled.now in
    let known = c.text-known.result.1 in
    let text = c.text-known.result.0.now in
    let rest = flat_map (caller_text symbols) (take (length callers - known) (drop known callers)) in
    let whole : stack ≡ callers ++ sampled ∷ [] = sym c.functions.ensures ∙ c.in-Some.ensures.cases.0 in
    let is = c.text-known.ensures.text symbols c.requires in
    let parts : stack_text symbols stack ≡ (text ++ rest) ++ name_in symbols sampled =
    stack_parts symbols c.args.prefix.now callers sampled known whole c.text-known.ensures.most ∙ (λ i. (sym is i ++ rest) ++ name_in symbols sampled) in
    let P : List ℕ → Type 0 = λ x. Adds Output x c.args.lines.now c.put_name.new.lines (g.H.Host.outside c.args.host.now) (g.H.Host.outside c.put_name.new.host) c.put_name.result in
    subst P (sym parts) (adds_then Output (text ++ rest) (name_in symbols sampled) _ _ _ _ _ _ _ _ (adds_then Output text rest _ _ _ _ _ _ _ _ c.in_ok-put.ensures.adds c.in_ok-put_callers.ensures) c.put_name.ensures)
