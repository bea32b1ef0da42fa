use Rattle.std.proofs.Common.{◌≡◌, ℕ, ◌+◌, ◌*◌, replicate, ap, ◌∙◌, arith}
use Rattle.gmon_block.specs.Layout.{Parts}
use Rattle.gmon_block.proofs.Writes.{empty}
use Rattle.gmon_block.proofs.block.Block.new.Goals as goal

pub invariant_of-result : goal.invariant_of-result
invariant_of-result c =
    let size : c.args.tos * 12 + (c.args.counters + c.args.froms) * 2 ≡ 12 * c.args.tos + (2 * c.args.counters + 2 * c.args.froms) = omega arith in
    (empty _ c.requires.tos.1 c.requires.counters.1 c.requires.froms.1 (c.in_ok-raw.ensures ∙ ap (λ (k : ℕ). replicate k 0) size)).held

pub returns-clause-tos : goal.returns-clause-tos
returns-clause-tos c =
    let size : c.args.tos * 12 + (c.args.counters + c.args.froms) * 2 ≡ 12 * c.args.tos + (2 * c.args.counters + 2 * c.args.froms) = omega arith in
    ap (λ (p : Parts). p.tos) (empty (record { raw = c.in_ok-raw.raw; tos = c.args.tos; counters = c.args.counters; froms = c.args.froms }) c.requires.tos.1 c.requires.counters.1 c.requires.froms.1 (c.in_ok-raw.ensures ∙ ap (λ (k : ℕ). replicate k 0) size)).shows

pub returns-clause-counters : goal.returns-clause-counters
returns-clause-counters c =
    let size : c.args.tos * 12 + (c.args.counters + c.args.froms) * 2 ≡ 12 * c.args.tos + (2 * c.args.counters + 2 * c.args.froms) = omega arith in
    ap (λ (p : Parts). p.counters) (empty (record { raw = c.in_ok-raw.raw; tos = c.args.tos; counters = c.args.counters; froms = c.args.froms }) c.requires.tos.1 c.requires.counters.1 c.requires.froms.1 (c.in_ok-raw.ensures ∙ ap (λ (k : ℕ). replicate k 0) size)).shows

pub returns-clause-froms : goal.returns-clause-froms
returns-clause-froms c =
    let size : c.args.tos * 12 + (c.args.counters + c.args.froms) * 2 ≡ 12 * c.args.tos + (2 * c.args.counters + 2 * c.args.froms) = omega arith in
    ap (λ (p : Parts). p.froms) (empty (record { raw = c.in_ok-raw.raw; tos = c.args.tos; counters = c.args.counters; froms = c.args.froms }) c.requires.tos.1 c.requires.counters.1 c.requires.froms.1 (c.in_ok-raw.ensures ∙ ap (λ (k : ℕ). replicate k 0) size)).shows
