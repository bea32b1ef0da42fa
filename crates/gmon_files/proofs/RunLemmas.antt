-- The file of a run has the form in which it is written, and is read as what was logged.
use Rattle.std.proofs.Common.{◌≡◌, ℕ, ◌*◌, ◌/◌, ◌%◌, max, List, [], ◌∷◌, ◌++◌, None, refl, sym, subst, append-nil, arith}
use Rattle.gp_base.specs.declared.records.Form.{Form}
use Rattle.gp_base.specs.declared.records.Form.TheVariants.{Bsd, Gnu}
use Rattle.gp_base.specs.declared.records.Span.{Span}
use Rattle.gmon_cells.specs.RunRecords.{run_records}
use Rattle.gmon_bsd.specs.Run.{bsd_run_text}
use Rattle.gmon_bsd.proofs.RunReadBack.{run_read_back as bsd_read_back}
use Rattle.gmon_gnu.specs.Run.{gnu_run_text}
use Rattle.gmon_gnu.proofs.RunReadBack.{run_read_back as gnu_read_back}
use Rattle.mcount_arcs.specs.declared.sizes.Sizes.{Sizes}
use Rattle.mcount_arcs.specs.Log.{LogEntry}
use Rattle.mcount_arcs.specs.Sizes.{sizes_of}
use Rattle.mcount_arcs.proofs.SizeLemmas.{AreSizes-of}
use Rattle.gmon_files.specs.Forms.{form_of, records_in, refusal_in}
use Rattle.gmon_files.specs.Runs.{RunFilesSayTheirLogs}

-- a file that begins with the low address of a text isn't of the GNU form: the address is even, and a `g` is odd
even_front : (low k : ℕ) (rest : List ℕ) → low ≡ 2 * k → form_of (low % 256 ∷ rest) ≡ Bsd
unfolding form_of
even_front low k rest even = grind arith

half_of_low : (text_low m : ℕ) → text_low / (2 * m) * (2 * m) ≡ 2 * (text_low / (2 * m) * m)
half_of_low text_low m = let q : ℕ = text_low / (2 * m) in product q
  where
    product : (q : ℕ) → q * (2 * m) ≡ 2 * (q * m)
    product q = omega arith

pub bsd_form : (text : Span) (hist hash : ℕ) (log : List LogEntry) (rate : ℕ) → form_of (bsd_run_text (sizes_of text hist hash) log rate) ≡ Bsd
unfolding bsd_run_text
bsd_form text hist hash log rate =
    let m = max hist hash in
    even_front (sizes_of text hist hash).low (text.low / (2 * m) * m) _ (half_of_low text.low m)

pub gnu_form : (z : Sizes) (log : List LogEntry) (rate : ℕ) (more : List ℕ) → form_of (gnu_run_text z log rate ++ more) ≡ Gnu
unfolding form_of gnu_run_text
gnu_form z log rate more = refl

pub says_log : RunFilesSayTheirLogs
says_log Bsd text hist hash rate log is_text is_hist is_hash fits calls =
    let z = sizes_of text hist hash in
    let sizes = AreSizes-of text hist hash is_text is_hist is_hash in
    let is = bsd_form text hist hash log rate in
    let read = bsd_read_back z log rate sizes fits calls in
    record {
      form_is = is;
      accepted = subst (λ (f : Form). refusal_in f (bsd_run_text z log rate) ≡ None) (sym is) read.0;
      records = subst (λ (f : Form). records_in f (bsd_run_text z log rate) ≡ run_records Bsd z log rate) (sym is) read.1;
    }
says_log Gnu text hist hash rate log is_text is_hist is_hash fits calls =
    let z = sizes_of text hist hash in
    let sizes = AreSizes-of text hist hash is_text is_hist is_hash in
    let is = subst (λ (t : List ℕ). form_of t ≡ Gnu) (append-nil (gnu_run_text z log rate)) (gnu_form z log rate []) in
    let read = gnu_read_back z log rate sizes fits calls in
    record {
      form_is = is;
      accepted = subst (λ (f : Form). refusal_in f (gnu_run_text z log rate) ≡ None) (sym is) read.0;
      records = subst (λ (f : Form). records_in f (gnu_run_text z log rate) ≡ run_records Gnu z log rate) (sym is) read.1;
    }
