use Rattle.std.proofs.Math.Nat.{mul-le-mul_right}
use Rattle.std.proofs.Common.{◌≡◌, ◌≤◌, ◌*◌, ◌+◌, ℕ, List, ◌++◌, take, drop, sym, ap, ◌∙◌, arith}
use Rattle.std.specs.List.{flat_map}
use Rattle.std.proofs.lemmas.List.{take-append-drop}
use Rattle.std.proofs.lemmas.List.Concat.{flat_map-append}
use Rattle.std.proofs.lemmas.Result.{err_from_is_err_and}
use Rattle.host_port.specs.declared.side.Side.TheVariants.{File}
use Rattle.host_port.proofs.BufferLemmas.{adds_nothing, adds_then, adds_front, adds_all, adds_ready}
use Rattle.gmon_gnu.specs.Pieces.{left_bytes, part_of}
use Rattle.gmon_gnu.proofs.RoundLemmas.{bytes_of_part_more}
use Rattle.gmon_gnu.proofs.rounds.put_left.Goals as goal

pub loop-part-init : goal.loop-part-init
loop-part-init g c =
    let none : 0 * c.args.size ≡ 0 = omega arith in
    record { put = rw none (adds_nothing File _ _ (tt {0})); ready = c.requires.ready }

pub loop-part-preserved : goal.loop-part-preserved
loop-part-preserved g c =
    let f = left_bytes c.args.j in
    let es = c.args.profile.now.blocks in
    let part = c.loop-part.part in
    let size = c.args.size in
    let before = flat_map f (take (part * size) es) in
    let here = flat_map f (part_of size part es) in
    let one = c.in_ok-put_part.ensures.adds in
    record {
      put = rw (bytes_of_part_more c.args.j size part es) (adds_then File before here _ _ _ _ _ _ (tt {0}) _ c.loop-part.invariant.put one);
      ready = adds_ready File here _ _ _ _ (tt {0}) one c.loop-part.invariant.ready;
    }

pub returns-in_err-put_part-clause-adds : goal.returns-in_err-put_part-clause-adds
returns-in_err-put_part-clause-adds g c =
    let p = err_from_is_err_and c.from_residual.result c.from_residual.ensures.1 in
    let f = left_bytes c.args.j in
    let es = c.args.profile.now.blocks in
    let part = c.loop-part.part in
    let size = c.args.size in
    let n = (part + 1) * size in
    let before = flat_map f (take (part * size) es) in
    let here = flat_map f (part_of size part es) in
    let rest = flat_map f (drop n es) in
    let whole : (before ++ here) ++ rest ≡ flat_map f es = ap (λ (t : List ℕ). t ++ rest) (sym (bytes_of_part_more c.args.j size part es)) ∙ sym (flat_map-append f (take n es) (drop n es)) ∙ ap (flat_map f) (take-append-drop n es) in
    let one = c.in_err-put_part.ensures.adds in
    rw (p.1, ← whole) (adds_front File (before ++ here) rest _ _ _ _ _ (adds_then File before here _ _ _ _ _ _ (tt {0}) _ c.loop-part.invariant.put one))

pub returns-clause-adds : goal.returns-clause-adds
returns-clause-adds g c =
    let size = c.args.size in
    let part = c.loop-part.part in
    let last : 32768 * size ≤ part * size = mul-le-mul_right size (omega (arith, c.loop-part-test.false)) in
    adds_all File (left_bytes c.args.j) c.args.profile.now.blocks (part * size) _ _ _ _ _ (omega (arith, last, c.requires.sized.all)) c.loop-part.invariant.put
