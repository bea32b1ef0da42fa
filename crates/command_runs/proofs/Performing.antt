-- What a run prints and writes, as acts that are due.
use Rattle.std.proofs.Common.{◌≡◌, ℕ, ◌+◌, ◌<◌, Bool, true, false, List, [], ◌∷◌, ◌++◌, take, Option, Some, None, option_map, Result, Ok, Err, refl, sym, ap, subst, ◌∙◌}
use Rattle.std.specs.Prelude.{⊤, if◌then◌else◌}
use Rattle.gmon_block.specs.Layout.{layout_of}
use Rattle.host_port.specs.Act.{Act, writes_after}
use Rattle.host_port.specs.Outside.{Outside, Did, KeepsCounts}
use Rattle.host_port.specs.Host.{act_of}
use Rattle.host_port.specs.Performing.{FailedAt, Performs}
use Rattle.host_port.proofs.Laws.{Did-nothing, KeepsCounts-same, writes_after-append}
use Rattle.host_port.proofs.PerformingLemmas.{failed_behind, piece_failed, piece_part}
use Rattle.gp_base.specs.declared.records.Form.{Form}
use Rattle.gp_base.specs.declared.records.Form.TheVariants.{Bsd, Gnu}
use Rattle.settings.specs.declared.setup.Setup.{Setup}
use Rattle.gmon_bsd.proofs.RunTextLemmas.{text_stands as bsd_text_stands}
use Rattle.gmon_gnu.proofs.RunTextLemmas.{text_stands as gnu_text_stands}
use Rattle.mcount_arcs.specs.declared.sizes.Sizes.{Sizes}
use Rattle.mcount_arcs.specs.Image.{block_image}
use Rattle.mcount_arcs.specs.Log.{LogEntry}
use Rattle.mcount_arcs.specs.Value.{GmonValue, StandsFor as RuntimeStandsFor, block_parts}
use Rattle.prof_machine.specs.declared.machine.Machine.{Machine}
use Rattle.prof_machine.specs.Plan.{after_drive, world_at, most_turns}
use Rattle.prof_machine.specs.Prints.{ArePrinted, BreaksOff}
use Rattle.prof_machine.specs.World.{World}
use Rattle.prof_machine.specs.Executions.{exec_counts_of, executions_in}
use Rattle.gmon_gnu.specs.Blocks.{block_record, executed_blocks, record_of}
use Rattle.prof_machine.proofs.ActLemmas.{driven_front}
use Rattle.command_words.specs.Items.{nth_word}
use Rattle.gmon_files.specs.Runs.{run_text}
use Rattle.courses.specs.Answer.{RunFiles, counts_text, file_acts, given_file_acts, held_text, profile_bytes, run_acts, runtime_text}

pub given_shut : (memory : Option (List ℕ)) (bytes : List ℕ) → writes_after (given_file_acts memory bytes) false ≡ false
given_shut None bytes = refl
given_shut (Some name) bytes = refl

-- no file is being written behind the acts of a run
pub shut_after : (files : RunFiles) (setup : Setup) (z : Sizes) (w : World) (b : Bool) → writes_after (run_acts files setup z w) b ≡ false
shut_after files setup z w b = search (writes_after-append, given_shut)

-- ---- the prints

-- all that a run prints was printed
pub printed_performs : {T E : Type 0} (w v : World) (x y : Outside) (u : T) → w.prints ≡ [] → ArePrinted w v x y → KeepsCounts x y → Performs {T = T} {E = E} v.prints x y (Ok u)
printed_performs {T} {E} w v x y u none p kept =
    let all : v.prints ≡ p.more = p.behind ∙ ap (λ (front : List Act). front ++ p.more) none in
    record { done = subst (λ (acts : List Act). Did acts x y) (sym all) p.did; kept = kept; failed = tt }

-- a print failed in a turn of the plan
pub drive_fails : {T E : Type 0} (m : Machine) (w : World) (n : ℕ) (x y : Outside) (e : E) → n < most_turns m.setup → w.prints ≡ [] → BreaksOff w (world_at m w (n + 1)) x y → Performs {T = T} (after_drive m w).prints x y (Err e)
drive_fails {T} {E} m w n x y e below none off =
    let front = driven_front m w n x y below off in
    let cut = off.cut in
    let act = act_of cut.side cut.piece in
    let part = act_of cut.side (take cut.n cut.piece) in
    let due : (after_drive m w).prints ≡ cut.before ++ act ∷ front.0 = front.1 ∙ ap (λ (acts : List Act). acts ++ (cut.before ++ act ∷ front.0)) none in
    record {
      done = tt;
      kept = tt;
      failed = (
        cut.before ++ part ∷ [],
        act,
        subst (λ (acts : List Act). FailedAt act (cut.before ++ part ∷ []) acts) (sym due) (failed_behind act cut.before (part ∷ []) (act ∷ front.0) (piece_part cut.side cut.piece cut.n front.0 cut.part)),
        cut.did,
        piece_failed ⊤ ⊤ cut.side cut.piece x y tt cut.counts,
      );
    }

-- ---- the files

-- the texts that were written, by what was logged
profile_stands : (form : Form) (v : GmonValue) (rate : ℕ) (log : List LogEntry) → RuntimeStandsFor log v → runtime_text form v rate ≡ run_text form v.sizes log rate
profile_stands Bsd v rate log stands = bsd_text_stands v rate log stands
profile_stands Gnu v rate log stands = gnu_text_stands v rate log stands

pub profile_is : (form : Form) (v : GmonValue) (z : Sizes) (log : List LogEntry) (rate : ℕ) → RuntimeStandsFor log v → v.sizes ≡ z → runtime_text form v rate ≡ run_text form z log rate
profile_is form v z log rate stands sizes = profile_stands form v rate log stands ∙ ap (λ (x : Sizes). run_text form x log rate) sizes

-- the record of executions
counts_are : (m : Machine) (w : World) → block_record m.sizes.low (exec_counts_of m w.ran) ≡ counts_text m.setup.blocks m.sizes w
unfolding exec_counts_of block_record
counts_are m w = by m.setup.blocks
  where
    by : (b : Bool) → record_of (executed_blocks m.sizes.low (if b then executions_in m.sizes w.ran else [])) ≡ counts_text b m.sizes w
    by true = refl
    by false = refl

-- the file of a run, by the world in which it ends
pub held_is : (form : Form) (setup : Setup) (v : GmonValue) (counts : List ℕ) (m : Machine) (w : World) → RuntimeStandsFor w.log v → v.sizes ≡ m.sizes → counts ≡ exec_counts_of m w.ran → m.setup ≡ setup
    → held_text form setup.rate v counts ≡ profile_bytes form setup m.sizes w
held_is form setup v counts m w stands sizes counted same =
    ap (λ (front : List ℕ). front ++ block_record v.sizes.low counts) (profile_is form v m.sizes w.log setup.rate stands sizes)
    ∙ ap (λ (back : List ℕ). run_text form m.sizes w.log setup.rate ++ back)
    (ap (λ (z : Sizes). block_record z.low counts) sizes ∙ ap (block_record m.sizes.low) counted ∙ counts_are m w ∙ ap (λ (u : Setup). counts_text u.blocks m.sizes w) same)

pub image_is : (v : GmonValue) (z : Sizes) (log : List LogEntry) → RuntimeStandsFor log v → v.sizes ≡ z → layout_of (block_parts v) ≡ layout_of (block_image z log)
image_is v z log stands sizes =
    let parts : block_parts v ≡ block_image v.sizes log = cc (stands.tos, stands.counters, stands.froms) in
    ap layout_of parts ∙ ap (λ (x : Sizes). layout_of (block_image x log)) sizes

pub file_as : {T E : Type 0} (name text whole : List ℕ) (x y : Outside) (r : Result T E) → text ≡ whole → Performs (file_acts name text) x y r → Performs (file_acts name whole) x y r
file_as name text whole x y r is p = subst (λ (t : List ℕ). Performs (file_acts name t) x y r) is p

pub given_as : {T E : Type 0} (words : List (List ℕ)) (place : ℕ) (memory : Option ℕ) (bytes : List ℕ) (x y : Outside) (r : Result T E) → memory ≡ Some place → Performs (file_acts (nth_word words place) bytes) x y r
    → Performs (given_file_acts (option_map (nth_word words) memory) bytes) x y r
given_as words place memory bytes x y r is p = subst (λ (i : Option ℕ). Performs (given_file_acts (option_map (nth_word words) i) bytes) x y r) (sym is) p

pub given_nothing : {T E : Type 0} (words : List (List ℕ)) (memory : Option ℕ) (bytes : List ℕ) (x : Outside) (u : T) → memory ≡ None → Performs {T = T} {E = E} (given_file_acts (option_map (nth_word words) memory) bytes) x x (Ok u)
given_nothing {T} {E} words memory bytes x u none =
    subst (λ (i : Option ℕ). Performs {T = T} {E = E} (given_file_acts (option_map (nth_word words) i) bytes) x x (Ok u)) (sym none) (record { done = Did-nothing x; kept = KeepsCounts-same x; failed = tt })
