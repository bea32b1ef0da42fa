use Rattle.std.proofs.Common.{ℕ, List, ◌++◌, map}
use Rattle.std.specs.List.{flat_map}
use Rattle.std.proofs.lemmas.Result.{err_from_is_err_and}
use Rattle.gmon_data.specs.Content.{Content}
use Rattle.host_port.specs.declared.side.Side.TheVariants.{File}
use Rattle.host_port.proofs.BufferLemmas.{adds_then, adds_front}
use Rattle.gmon_gnu.specs.Grammar.{rec_bytes, blocks_bytes}
use Rattle.gmon_gnu.specs.Pieces.{header, arc_text_of}
use Rattle.gmon_gnu.specs.Splitting.{hist_recs, raw_block, rounds_of}
use Rattle.gmon_gnu.proofs.ProfileTextLemmas.{profile_parts}
use Rattle.gmon_gnu.proofs.profile_file.put_profile.Goals as goal

abbrev hists : Content → List ℕ
hists p = flat_map rec_bytes (hist_recs p.«unit» p.hists)

abbrev calls : Content → List ℕ
calls p = flat_map arc_text_of p.arcs

abbrev runs : Content → List ℕ
runs p = flat_map (λ es. blocks_bytes (map raw_block es)) (rounds_of p.blocks)

pub returns-in_err-put-clause-adds : goal.returns-in_err-put-clause-adds
returns-in_err-put-clause-adds g c =
    let e = err_from_is_err_and c.from_residual.result c.from_residual.ensures.1 in
    let p = c.args.profile.now in
    rw (e.1, ← profile_parts p) (adds_front File header (hists p ++ (calls p ++ runs p)) _ _ _ _ _ c.in_err-put.ensures.adds)

pub returns-in_err-put_hists-clause-adds : goal.returns-in_err-put_hists-clause-adds
returns-in_err-put_hists-clause-adds g c =
    let e = err_from_is_err_and c.from_residual-in_err-put_hists.result c.from_residual-in_err-put_hists.ensures.1 in
    let p = c.args.profile.now in
    rw (e.1, ← profile_parts p) (adds_then File header (hists p ++ (calls p ++ runs p)) _ _ _ _ _ _ (tt {0}) _ c.in_ok-put.ensures.adds
    (adds_front File (hists p) (calls p ++ runs p) _ _ _ _ _ c.in_err-put_hists.ensures.adds))

pub returns-in_err-put_calls-clause-adds : goal.returns-in_err-put_calls-clause-adds
returns-in_err-put_calls-clause-adds g c =
    let e = err_from_is_err_and c.from_residual-in_err-put_calls.result c.from_residual-in_err-put_calls.ensures.1 in
    let p = c.args.profile.now in
    rw (e.1, ← profile_parts p) (adds_then File header (hists p ++ (calls p ++ runs p)) _ _ _ _ _ _ (tt {0}) _ c.in_ok-put.ensures.adds
    (adds_then File (hists p) (calls p ++ runs p) _ _ _ _ _ _ (tt {0}) _ c.in_ok-put_hists.ensures.adds
    (adds_front File (calls p) (runs p) _ _ _ _ _ c.in_err-put_calls.ensures.adds)))

pub returns-clause-adds : goal.returns-clause-adds
returns-clause-adds g c =
    let p = c.args.profile.now in
    rw (← profile_parts p) (adds_then File header (hists p ++ (calls p ++ runs p)) _ _ _ _ _ _ (tt {0}) _ c.in_ok-put.ensures.adds
    (adds_then File (hists p) (calls p ++ runs p) _ _ _ _ _ _ (tt {0}) _ c.in_ok-put_hists.ensures.adds
    (adds_then File (calls p) (runs p) _ _ _ _ _ _ (tt {0}) _ c.in_ok-put_calls.ensures.adds c.put_runs.ensures.adds)))
