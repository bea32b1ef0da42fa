-- Calls between functions, of which some are cut.
use Rattle.std.proofs.Common.{◌≡◌, ℕ, ◌+◌, Bool, true, false, not, cond, ◌&&◌, ◌||◌, List, [], ◌∷◌, ◌++◌, length, Option, Some, refl, sym, ap, ◌∙◌, true≢false, arith}
use Rattle.std.specs.Prelude.{◌==◌, filter, if◌then◌else◌}
use Rattle.std.specs.List.{flat_map, list_any, sum_by}
use Rattle.std.specs.Option.{option_map_or}
use Rattle.std.proofs.lemmas.List.Elements.{filter-append}
use Rattle.std.proofs.lemmas.List.Sums.{sum_by-cons}
use Rattle.elf32_syms.specs.declared.image.Symbol.{Symbol}
use Rattle.elf32_syms.specs.Owners.{owner_of}
use Rattle.settings.specs.CutWords.{from_of, to_of}
use Rattle.call_cycles.specs.declared.graphs.FunArc.{FunArc}
use Rattle.call_cycles.specs.Calls.{arc_between, arcs_among, calls_between, calls_of, function_arcs, lies_in, own_calls}
use Rattle.call_cycles.specs.Sums.{list_of, when}
use Rattle.gmon_data.specs.Content.{Content}
use Rattle.arc_filter.specs.Cuts.{is_named, is_cut, is_cut_pair, stays, without_cuts}

module _ (symbols : List Symbol) (cuts : List (List ℕ)) where
  -- cut or not, by the owners of two addresses
  abbrev pub cut_between : Option ℕ → Option ℕ → Bool
  cut_between caller callee = list_any (λ word. option_map_or (is_named symbols (from_of word)) caller false && option_map_or (is_named symbols (to_of word)) callee false) cuts

  pub cut_by_owners : (from to : ℕ) (caller callee : Option ℕ) → owner_of symbols from ≡ caller → owner_of symbols to ≡ callee → is_cut symbols cuts from to ≡ cut_between caller callee
  unfolding is_cut
  cut_by_owners from to caller callee a b = ap (λ (o : Option ℕ). cut_between o (owner_of symbols to)) a ∙ ap (cut_between caller) b

  pub cut_of_functions : (f g : ℕ) → cut_between (Some f) (Some g) ≡ is_cut_pair symbols cuts f g
  unfolding is_cut_pair
  cut_of_functions f g = refl

  both : (a b : Bool) → (a && b) ≡ true → (a ≡ true) × (b ≡ true)
  both true b on = (refl, on)
  both false b on = absurd (true≢false (sym on))

  -- an arc of two functions is cut where the pair is
  cut_as_pair : (from to f g : ℕ) → (lies_in symbols f from && lies_in symbols g to) ≡ true → is_cut symbols cuts from to ≡ is_cut_pair symbols cuts f g
  cut_as_pair from to f g on = grind (arith, cut_by_owners, cut_of_functions)

  -- an arc more, which is between the two functions or not, and cut or not
  one_more : (on gone d : Bool) (n s t : ℕ) → (on ≡ true → gone ≡ d) → t ≡ when (not d) s → (let m : ℕ = cond (not gone) (when on n + t) t in m) ≡ when (not d) (when on n + s)
  one_more true gone true n s t agree is = rw (agree refl) is
  one_more true gone false n s t agree is = rw (agree refl) (ap (λ (x : ℕ). n + x) is)
  one_more false true true n s t agree is = is
  one_more false true false n s t agree is = is ∙ omega arith
  one_more false false true n s t agree is = ap (λ (x : ℕ). 0 + x) is
  one_more false false false n s t agree is = ap (λ (x : ℕ). 0 + x) is

  pub calls_left : (arcs : List ((ℕ × ℕ) × ℕ)) (f g : ℕ) → calls_between (filter (stays symbols cuts) arcs) symbols f g ≡ when (not (is_cut_pair symbols cuts f g)) (calls_between arcs symbols f g)
  unfolding calls_between
  calls_left [] f g = by (not (is_cut_pair symbols cuts f g))
    where
      by : (b : Bool) → 0 ≡ when b 0
      by true = refl
      by false = refl
  calls_left (e ∷ es) f g =
      let gone = is_cut symbols cuts e.0.0 e.0.1 in
      let on = lies_in symbols f e.0.0 && lies_in symbols g e.0.1 in
      let weight = λ (x : (ℕ × ℕ) × ℕ). calls_of symbols x f g in
      split gone
      ∙ one_more on gone (is_cut_pair symbols cuts f g) e.1 (sum_by weight es) (sum_by weight (filter (stays symbols cuts) es)) (cut_as_pair e.0.0 e.0.1 f g) (calls_left es f g)
      ∙ ap (when (not (is_cut_pair symbols cuts f g))) (sym (sum_by-cons weight e es))
    where
      split : (gone : Bool) → sum_by (λ (x : (ℕ × ℕ) × ℕ). calls_of symbols x f g) (cond (not gone) (e ∷ filter (stays symbols cuts) es) (filter (stays symbols cuts) es))
          ≡ cond (not gone) (calls_of symbols e f g + sum_by (λ (x : (ℕ × ℕ) × ℕ). calls_of symbols x f g) (filter (stays symbols cuts) es)) (sum_by (λ (x : (ℕ × ℕ) × ℕ). calls_of symbols x f g) (filter (stays symbols cuts) es))
      split true = refl
      split false = sum_by-cons (λ (x : (ℕ × ℕ) × ℕ). calls_of symbols x f g) e (filter (stays symbols cuts) es)

-- ---- arcs between functions

filter_flat : {X A : Type 0} (p : A → Bool) (h : X → List A) (xs : List X) → filter p (flat_map h xs) ≡ flat_map (λ x. filter p (h x)) xs
filter_flat p h [] = refl
filter_flat {X} {A} p h (x ∷ xs) = filter-append p (h x) (flat_map h xs) ∙ ap (λ (l : List A). filter p (h x) ++ l) (filter_flat p h xs)

module _ (gone : ℕ → ℕ → Bool) (calls : ℕ → ℕ → ℕ) where
  abbrev left : ℕ → ℕ → ℕ
  left f g = when (not (gone f g)) (calls f g)

  abbrev arc_stays : FunArc → Bool
  arc_stays a = not (gone a.caller a.callee)

  arc_left : (f g : ℕ) → filter arc_stays (arc_between calls f g) ≡ arc_between left f g
  arc_left f g = by (f == g) (gone f g) refl
    where
      by : (same cut : Bool) → gone f g ≡ cut
          → filter arc_stays (if same || calls f g == 0 then [] else record { caller = f; callee = g; count = calls f g } ∷ [])
          ≡ (if same || when (not cut) (calls f g) == 0 then [] else record { caller = f; callee = g; count = when (not cut) (calls f g) } ∷ [])
      by true cut is = refl
      by false true is = none (calls f g == 0)
        where
          none : (b : Bool) → filter arc_stays (if b then [] else record { caller = f; callee = g; count = calls f g } ∷ []) ≡ []
          none true = refl
          none false = rw is refl
      by false false is = all (calls f g == 0)
        where
          all : (b : Bool) → filter arc_stays (if b then [] else record { caller = f; callee = g; count = calls f g } ∷ []) ≡ (if b then [] else record { caller = f; callee = g; count = calls f g } ∷ [])
          all true = refl
          all false = rw is refl

  pub arcs_left : (n : ℕ) → filter arc_stays (arcs_among n calls) ≡ arcs_among n left
  unfolding arcs_among
  arcs_left n = search (filter_flat, arc_left)

pub function_arcs_left : (p : Content) (symbols : List Symbol) (cuts : List (List ℕ)) → function_arcs (without_cuts p symbols cuts).arcs symbols ≡ filter (λ (a : FunArc). not (is_cut_pair symbols cuts a.caller a.callee)) (function_arcs p.arcs symbols)
unfolding without_cuts
function_arcs_left p symbols cuts =
    (λ i. arcs_among (length symbols) (λ f g. calls_left symbols cuts p.arcs f g i)) ∙ sym (arcs_left (is_cut_pair symbols cuts) (calls_between p.arcs symbols) (length symbols))

pub own_calls_left : (p : Content) (symbols : List Symbol) (cuts : List (List ℕ)) → own_calls (without_cuts p symbols cuts).arcs symbols ≡ list_of (length symbols) (λ f. when (not (is_cut_pair symbols cuts f f)) (calls_between p.arcs symbols f f))
unfolding without_cuts
own_calls_left p symbols cuts = λ i. list_of (length symbols) (λ f. calls_left symbols cuts p.arcs f f i)
