-- The text of the whole report, and of the entries that are shown.
use Rattle.std.proofs.Common.{◌≡◌, ℕ, Bool, true, false, cond, List, [], ◌∷◌, ◌++◌, refl, ap, ◌∙◌}
use Rattle.std.specs.Prelude.{filter, if◌then◌else◌}
use Rattle.std.specs.List.{flat_map}
use Rattle.flat_report.specs.Sources.{Sources}
use Rattle.flat_report.proofs.HiddenLemmas.{all_pass}
use Rattle.flat_report.specs.Hidden.{is_hidden}
use Rattle.graph_report.specs.Entries.{GraphEntry, graph_order}
use Rattle.graph_report.specs.GraphText.{graph_text, graph_header, is_shown}
use Rattle.graph_report.specs.Subjects.{entry_text, shown_text}
use Rattle.graph_report.specs.declared.subjects.Subject.{Subject}
use Rattle.graph_report.specs.declared.subjects.Subject.TheVariants.{Cycle, Function}

abbrev pub shows : List (List ℕ) → GraphEntry → Bool
shows hidden e = is_shown hidden e.subject e.name

pub report_whole : (s : Sources) (hidden : List (List ℕ)) → graph_header ++ flat_map (entry_text s) (filter (shows hidden) (graph_order s)) ≡ graph_text s hidden
unfolding graph_text
report_whole s hidden = refl

-- to leave entries out is to give them no text
pub only_shown : (s : Sources) (hidden : List (List ℕ)) (es : List GraphEntry) → flat_map (shown_text s hidden) es ≡ flat_map (entry_text s) (filter (shows hidden) es)
only_shown s hidden [] = refl
only_shown s hidden (e ∷ es) = by (shows hidden e) (only_shown s hidden es)
  where
    by : (b : Bool) → flat_map (shown_text s hidden) es ≡ flat_map (entry_text s) (filter (shows hidden) es)
        → (if b then entry_text s e else []) ++ flat_map (shown_text s hidden) es ≡ flat_map (entry_text s) (cond b (e ∷ filter (shows hidden) es) (filter (shows hidden) es))
    by true rest = ap (λ (t : List ℕ). entry_text s e ++ t) rest
    by false rest = rest

pub whole_text : (s : Sources) (hidden : List (List ℕ)) (es : List GraphEntry) → es ≡ graph_order s → flat_map (shown_text s hidden) es ≡ flat_map (entry_text s) (filter (shows hidden) (graph_order s))
whole_text s hidden es all = ap (flat_map (shown_text s hidden)) all ∙ only_shown s hidden (graph_order s)

-- with no names each entry is shown
shown_without : (subject : Subject) (name : List ℕ) → is_shown [] subject name ≡ true
unfolding is_hidden
shown_without (Cycle head) name = refl
shown_without (Function f) name = refl

pub all_shown : (es : List GraphEntry) → filter (shows []) es ≡ es
all_shown es = all_pass (shows []) (λ e. shown_without e.subject e.name) es
