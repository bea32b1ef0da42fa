-- Lines that are shown, and lines that are hidden.
use Rattle.std.proofs.Common.{◌≡◌, ℕ, ◌+◌, Bool, true, false, not, cond, ◌||◌, List, [], ◌∷◌, ◌++◌, map, string_bytes, Global, String, Result, refl, ap, subst}
use Rattle.std.specs.Prelude.{filter, if◌then◌else◌}
use Rattle.std.specs.List.{enumerate_from, flat_map, list_any}
use Rattle.std.specs.Str.{bytes_eq}
use Rattle.host_port.specs.Outside.{Outside}
use Rattle.host_port.specs.Buffered.{Adds}
use Rattle.host_port.specs.declared.side.Side.TheVariants.{Output}
use Rattle.host_port.specs.declared.host.Failed.{Failed}
use Rattle.flat_report.specs.Entries.{FlatEntry}
use Rattle.flat_report.specs.FlatText.{cumulative_of, line_at, flat_lines}
use Rattle.flat_report.specs.Hidden.{is_hidden, shown_entries}
use Rattle.flat_report.specs.Rows.{shown_line}

-- the line of an entry, given with its number, unless its function is hidden
abbrev pub shown_at : ℕ → ℕ → List (List ℕ) → List FlatEntry → ℕ × FlatEntry → List ℕ
shown_at total rate hidden entries numbered = shown_line hidden total rate (cumulative_of entries (numbered.0 + 1)) numbered.1

-- to leave items out is to give them no text
pub left_out : {X : Type 0} (f : X → List ℕ) (gone : X → Bool) (xs : List X) → flat_map (λ x. if gone x then [] else f x) xs ≡ flat_map f (filter (λ x. not (gone x)) xs)
left_out f gone [] = refl
left_out {X} f gone (x ∷ xs) = by (gone x) (left_out f gone xs)
  where
    by : (b : Bool) → flat_map (λ x. if gone x then [] else f x) xs ≡ flat_map f (filter (λ x. not (gone x)) xs)
        → (if b then [] else f x) ++ flat_map (λ x. if gone x then [] else f x) xs ≡ flat_map f (cond (not b) (x ∷ filter (λ x. not (gone x)) xs) (filter (λ x. not (gone x)) xs))
    by true rest = rest
    by false rest = ap (λ (l : List ℕ). f x ++ l) rest

pub shown_lines : (total rate : ℕ) (hidden : List (List ℕ)) (entries : List FlatEntry) (numbered : List (ℕ × FlatEntry)) → flat_map (shown_at total rate hidden entries) numbered ≡ flat_map (line_at total rate entries) (shown_entries hidden numbered)
shown_lines total rate hidden entries numbered = left_out (line_at total rate entries) (λ (e : ℕ × FlatEntry). is_hidden hidden e.1.name) numbered

pub put_shown : (total rate : ℕ) (hidden : List (List ℕ)) (entries : List FlatEntry) (p q : List ℕ) (x y : Outside) (result : Result (Unit {0}) Failed)
    → Adds Output (flat_map (shown_at total rate hidden entries) (enumerate_from 0 entries)) p q x y result → Adds Output (flat_lines total rate hidden entries) p q x y result
put_shown total rate hidden entries p q x y result put = subst (λ (t : List ℕ). Adds Output t p q x y result) (shown_lines total rate hidden entries (enumerate_from 0 entries)) put

-- where each item passes, none is left out
pub all_pass : {X : Type 0} (p : X → Bool) → ((x : X) → p x ≡ true) → (xs : List X) → filter p xs ≡ xs
all_pass p passes [] = refl
all_pass {X} p passes (x ∷ xs) = rw (passes x) (ap (λ (l : List X). x ∷ l) (all_pass p passes xs))

-- with no names nothing is hidden
pub none_hidden : {X : Type 0} (name : X → List ℕ) (xs : List X) → filter (λ x. not (is_hidden [] (name x))) xs ≡ xs
unfolding is_hidden
none_hidden name xs = all_pass (λ x. not (is_hidden [] (name x))) (λ x. refl) xs

-- ---- names in the code

pub hidden_by : (name : List ℕ) (hidden : List (String Global)) → is_hidden (map string_bytes hidden) name ≡ list_any (λ other. bytes_eq (string_bytes other) name) hidden
unfolding is_hidden
hidden_by name [] = refl
hidden_by name (other ∷ hidden) = ap (λ (b : Bool). bytes_eq (string_bytes other) name || b) (hidden_by name hidden)
