-- The file of a run, by its parts and by the log.
use Rattle.std.proofs.Common.{◌≡◌, ℕ, ◌++◌, List, [], ◌∷◌, length, map, refl, sym, ap, ◌∙◌}
use Rattle.std.specs.List.{flat_map}
use Rattle.gp_base.specs.declared.records.RawArc.{RawArc}
use Rattle.gp_base.specs.declared.records.Rec.TheVariants.{Arc}
use Rattle.mcount_arcs.specs.declared.sizes.Sizes.{Sizes}
use Rattle.mcount_arcs.specs.Log.{LogEntry}
use Rattle.mcount_arcs.specs.Value.{GmonValue, StandsFor}
use Rattle.gmon_gnu.specs.Grammar.{rec_bytes, tagged_arc}
use Rattle.gp_base.specs.Fields.{counters_text}
use Rattle.gmon_gnu.specs.Run.{gnu_run_text, runtime_text, header_of}

arcs_tagged : (arcs : List RawArc) → flat_map tagged_arc arcs ≡ flat_map rec_bytes (map Arc arcs)
arcs_tagged [] = refl
arcs_tagged (arc ∷ arcs) = ap (λ (v : List ℕ). tagged_arc arc ++ v) (arcs_tagged arcs)

pub text_parts : (v : GmonValue) (rate : ℕ) (z : Sizes) → z ≡ v.sizes → length v.counters ≡ z.counters
    → header_of z.low z.high z.counters rate ++ (counters_text v.counters ++ flat_map tagged_arc v.arcs) ≡ runtime_text v rate
unfolding runtime_text
text_parts v rate z is count =
    ap (λ (x : Sizes). header_of x.low x.high z.counters rate ++ (counters_text v.counters ++ flat_map tagged_arc v.arcs)) is
    ∙ ap (λ (n : ℕ). header_of v.sizes.low v.sizes.high n rate ++ (counters_text v.counters ++ flat_map tagged_arc v.arcs)) (sym count)
    ∙ ap (λ (t : List ℕ). header_of v.sizes.low v.sizes.high (length v.counters) rate ++ (counters_text v.counters ++ t)) (arcs_tagged v.arcs)

-- what a runtime holds follows from the log that it stands for
pub text_stands : (v : GmonValue) (rate : ℕ) (log : List LogEntry) → StandsFor log v → runtime_text v rate ≡ gnu_run_text v.sizes log rate
unfolding runtime_text gnu_run_text
text_stands v rate log stands = search (v.sizes.low, v.sizes.high, v.arcs, stands.counters, stands.arcs)
