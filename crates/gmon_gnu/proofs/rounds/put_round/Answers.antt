use Rattle.std.proofs.Common.{sym, ◌∙◌}
use Rattle.std.specs.List.{flat_map}
use Rattle.std.proofs.lemmas.Result.{err_from_is_err_and}
use Rattle.host_port.specs.declared.side.Side.TheVariants.{File}
use Rattle.host_port.proofs.BufferLemmas.{adds_then, adds_front}
use Rattle.gmon_gnu.specs.Pieces.{blocks_front, left_bytes}
use Rattle.gmon_gnu.proofs.ProfileTextLemmas.{round_text}
use Rattle.gmon_gnu.proofs.RoundLemmas.{length-round_of}
use Rattle.gmon_gnu.proofs.rounds.put_round.Goals as goal

pub returns-in_err-put_front-clause-adds : goal.returns-in_err-put_front-clause-adds
returns-in_err-put_front-clause-adds g c =
    let p = err_from_is_err_and c.from_residual.result c.from_residual.ensures.1 in
    let text = round_text c.args.j c.args.profile.now.blocks c.args.left (c.requires.counted ∙ sym (length-round_of c.args.j c.args.profile.now.blocks)) in
    rw (p.1, ← text) (adds_front File (blocks_front c.args.left) (flat_map (left_bytes c.args.j) c.args.profile.now.blocks) _ _ _ _ _ c.in_err-put_front.ensures.adds)

pub returns-clause-adds : goal.returns-clause-adds
returns-clause-adds g c =
    let text = round_text c.args.j c.args.profile.now.blocks c.args.left (c.requires.counted ∙ sym (length-round_of c.args.j c.args.profile.now.blocks)) in
    rw (← text) (adds_then File (blocks_front c.args.left) (flat_map (left_bytes c.args.j) c.args.profile.now.blocks) _ _ _ _ _ _ (tt {0}) _ c.in_ok-put_front.ensures.adds c.put_left.ensures.adds)
