-- The kept symbols: the first candidate at each address, in a map, and along the addresses of the text.
use Rattle.std.proofs.Common.{◌≡◌, ◌≢◌, ◌<◌, ◌≤◌, ℕ, zero, suc, ◌+◌, ◌-◌, Bool, true, false, ◌&&◌, cond, nat_eq, nat_lt, nat_le, List, [], ◌∷◌, ◌++◌, length, All, Option, Some, None, if◌then◌else◌, refl, ap, sym, ◌∙◌, subst, ⊎_elim, arith}
use Rattle.std.specs.declared.cmp.Ordering.TheVariants.{Less}
use Rattle.std.specs.Ordering.{nat_cmp}
use Rattle.std.specs.Option.{option_map_or, IfSome}
use Rattle.std.specs.List.{filter, filter_map, cons_option, fold, slice_get, range_with_len}
use Rattle.std.specs.List.Sorted.{IsStrictlySortedBy}
use Rattle.std.specs.Map.{lookup, keys_of, values_of}
use Rattle.std.specs.BTreeMap.{BTreeMap, get, is_at, values, IsOrdered, IsEmpty, Updates}
use Rattle.std.specs.Cmp.{nat_cmp_total, eq_by_cmp_equiv}
use Rattle.std.proofs.lemmas.Bool.{false≢true, cases_eq, eqb-true}
use Rattle.std.proofs.lemmas.Bool.Decides.{nat_tests}
use Rattle.std.proofs.lemmas.List.{append-nil}
use Rattle.std.proofs.lemmas.List.Elements.{filter-append, filter_passes, All-filter, All-head, All-tail}
use Rattle.std.proofs.lemmas.List.FromFn.{length-range_with_len}
use Rattle.std.proofs.lemmas.List.Sums.{fold-append}
use Rattle.std.proofs.lemmas.Map.{lookup-none}
use Rattle.std.proofs.lemmas.Map.Keys.{sorted_tail, IsDistinct-from_sorted}
use Rattle.std.proofs.lemmas.Map.Entries.{none_past_head, none_below_head}
use Rattle.std.proofs.lemmas.Option.{none-some}
use Rattle.elf32_syms.specs.declared.sections.Section.{Section}
use Rattle.elf32_syms.specs.declared.symbols.Entry.{Entry}
use Rattle.elf32_syms.specs.Sections.{section_end, is_executable, text_low, text_high}
use Rattle.elf32_syms.specs.Symbols.{may_be_function, is_in_section, is_candidate, fitting_entries, candidates, has_name, IsInText, ranks_before, kept_of_two, kept_at, kept_entries}
use Rattle.elf32_syms.proofs.TextLemmas.{section_in_text}

-- one candidate more
abbrev with_one : List ℕ → ℕ → Option Entry → Entry → Option Entry
with_one strings addr best c = cond (nat_eq c.addr addr) (kept_of_two strings best c) best

kept_more : (strings : List ℕ) (cs : List Entry) (c : Entry) (addr : ℕ) → kept_at strings (cs ++ c ∷ []) addr ≡ with_one strings addr (kept_at strings cs addr) c
unfolding kept_at
kept_more strings cs c addr =
    ap (fold (kept_of_two strings) None) (filter-append (λ (x : Entry). nat_eq x.addr addr) cs (c ∷ [])) ∙ by (nat_eq c.addr addr)
  where
    there : List Entry
    there = filter (λ (x : Entry). nat_eq x.addr addr) cs

    by : (b : Bool) → fold (kept_of_two strings) None (there ++ cond b (c ∷ []) []) ≡ cond b (kept_of_two strings (fold (kept_of_two strings) None there) c) (fold (kept_of_two strings) None there)
    by true = fold-append (kept_of_two strings) None there (c ∷ [])
    by false = ap (fold (kept_of_two strings) None) (append-nil there)

-- the map has the first candidate at each address
abbrev pub HasFirst : List ℕ → List Entry → BTreeMap ℕ Entry → Type 0
HasFirst strings cs m = (addr : ℕ) → get nat_cmp m addr ≡ kept_at strings cs addr

module _ (strings : List ℕ) (cs : List Entry) (c : Entry) (m : BTreeMap ℕ Entry) (so_far : HasFirst strings cs m) where
  best_stays : (o : Option Entry) → option_map_or (ranks_before strings c) o true ≡ false → o ≡ kept_of_two strings o c
  best_stays None h = cc
  best_stays (Some best) h = rw h refl

  best_changes : (o : Option Entry) → option_map_or (ranks_before strings c) o true ≡ true → Some c ≡ kept_of_two strings o c
  best_changes None h = refl
  best_changes (Some best) h = rw h refl

  pub first_stays : option_map_or (ranks_before strings c) (get nat_cmp m c.addr) true ≡ false → HasFirst strings (cs ++ c ∷ []) m
  first_stays stays addr = by (nat_eq c.addr addr) refl ∙ ap (λ (o : Option Entry). with_one strings addr o c) (so_far addr) ∙ sym (kept_more strings cs c addr)
    where
      by : (b : Bool) → nat_eq c.addr addr ≡ b → get nat_cmp m addr ≡ cond b (kept_of_two strings (get nat_cmp m addr) c) (get nat_cmp m addr)
      by true e = best_stays (get nat_cmp m addr) (subst (λ (a : ℕ). option_map_or (ranks_before strings c) (get nat_cmp m a) true ≡ false) (eqb-true c.addr addr e) stays)
      by false e = refl

  pub first_changes : (new : BTreeMap ℕ Entry) → option_map_or (ranks_before strings c) (get nat_cmp m c.addr) true ≡ true → Updates nat_cmp m new c.addr (Some c) → HasFirst strings (cs ++ c ∷ []) new
  first_changes new changes is_new addr = by (nat_eq c.addr addr) refl ∙ ap (λ (o : Option Entry). with_one strings addr o c) (so_far addr) ∙ sym (kept_more strings cs c addr)
    where
      not_at : (k q : ℕ) → nat_eq k q ≡ false → is_at (nat_cmp k) q ≡ false
      not_at k q apart = grind (arith, nat_tests)

      by : (b : Bool) → nat_eq c.addr addr ≡ b → get nat_cmp new addr ≡ cond b (kept_of_two strings (get nat_cmp m addr) c) (get nat_cmp m addr)
      by true e = subst (λ (a : ℕ). get nat_cmp new a ≡ kept_of_two strings (get nat_cmp m a) c) (eqb-true c.addr addr e) (is_new.1 ∙ best_changes (get nat_cmp m c.addr) changes)
      by false e = is_new.2 addr (not_at c.addr addr e)

pub first_none : (strings : List ℕ) (m : BTreeMap ℕ Entry) → IsEmpty m → HasFirst strings [] m
unfolding kept_at
first_none strings m empty addr = rw empty refl

-- what is kept is one of the candidates, at this address
module _ (strings : List ℕ) (P : Entry → Type 0) where
  first_holds : (best : Option Entry) (c : Entry) → IfSome best P → P c → IfSome (kept_of_two strings best c) P
  first_holds None c h p = p
  first_holds (Some best) c h p = by (ranks_before strings c best)
    where
      by : (b : Bool) → IfSome (if b then Some c else Some best) P
      by true = p
      by false = h

  fold_holds : (best : Option Entry) (cs : List Entry) → IfSome best P → All P cs → IfSome (fold (kept_of_two strings) best cs) P
  fold_holds best [] h all = h
  fold_holds best (c ∷ cs) h all = fold_holds (kept_of_two strings best c) cs (first_holds best c h (All-head P c cs all)) (All-tail P c cs all)

pub kept_at_holds : (strings : List ℕ) (P : Entry → Type 0) (cs : List Entry) (addr : ℕ) (c : Entry) → All P cs → kept_at strings cs addr ≡ Some c → P c × (c.addr ≡ addr)
unfolding kept_at
kept_at_holds strings P cs addr c all kept_is =
    let at : Entry → Bool = λ x. nat_eq x.addr addr in
    let Q : Entry → Type 0 = λ x. P x × (at x ≡ true) in
    let both : All Q (filter at cs) = λ k d below. (All-filter at P cs all k d below, filter_passes at cs k d below) in
    let found : Q c = subst (λ (o : Option Entry). IfSome o Q) kept_is (fold_holds strings Q None (filter at cs) tt both) in
    (found.0, eqb-true c.addr addr found.1)

-- keys in order, against the numbers of a range in order
is_at_same : (k : ℕ) → is_at (nat_cmp k) k ≡ true
is_at_same k = grind (arith, nat_tests)

is_at_other : (a k : ℕ) → a ≢ k → is_at (nat_cmp a) k ≡ false
is_at_other a k apart = grind (arith, nat_tests)

is_less : (a k : ℕ) → a < k → nat_cmp a k ≡ Less
is_less a k h = grind (arith, nat_tests)

module _ {X : Type 0} where
  -- what f gives along the range are the values of es
  abbrev IsAlong : (ℕ → Option X) → ℕ → List (ℕ × X) → ℕ → Type 0
  IsAlong f n es low =
      IsStrictlySortedBy nat_cmp (keys_of es)
      → ((a : ℕ) → low ≤ a → f a ≡ lookup (is_at (nat_cmp a)) es)
      → ((a : ℕ) (v : X) → lookup (is_at (nat_cmp a)) es ≡ Some v → (low ≤ a) × (a < low + n))
      → filter_map f (range_with_len low n) ≡ values_of es

  first : (e : ℕ × X) (es : List (ℕ × X)) → lookup (is_at (nat_cmp e.0)) (e ∷ es) ≡ Some e.1
  first e es = rw (is_at_same e.0) refl

  past : (e : ℕ × X) (es : List (ℕ × X)) (a : ℕ) → a ≢ e.0 → lookup (is_at (nat_cmp a)) (e ∷ es) ≡ lookup (is_at (nat_cmp a)) es
  past e es a apart = rw (is_at_other a e.0 apart) refl

  none_again : (e : ℕ × X) (es : List (ℕ × X)) → IsStrictlySortedBy nat_cmp (keys_of (e ∷ es)) → lookup (is_at (nat_cmp e.0)) es ≡ None
  none_again e es sorted =
      lookup-none (is_at (nat_cmp e.0)) es (none_past_head (eq_by_cmp_equiv nat_cmp_total) e.0 e es (IsDistinct-from_sorted nat_cmp (keys_of (e ∷ es)) sorted) (is_at_same e.0))

  -- one number less: where no value stands there, what is inside the range is inside the rest
  rest_inside : (es : List (ℕ × X)) (low n : ℕ) → lookup (is_at (nat_cmp low)) es ≡ None
      → ((a : ℕ) (v : X) → lookup (is_at (nat_cmp a)) es ≡ Some v → (low ≤ a) × (a < low + suc n))
      → (a : ℕ) (v : X) → lookup (is_at (nat_cmp a)) es ≡ Some v → (low + 1 ≤ a) × (a < low + 1 + n)
  rest_inside es low n none inside a v some = grind arith

  range_values : (n : ℕ) (f : ℕ → Option X) (es : List (ℕ × X)) (low : ℕ) → IsAlong f n es low
  range_values zero f [] low sorted same inside = refl
  range_values zero f (e ∷ es) low sorted same inside =
      let r = inside e.0 e.1 (first e es) in
      absurd (omega (arith, r.0, r.1))
  range_values (suc n) f [] low sorted same inside =
      rw (same low (omega arith)) (range_values n f [] (low + 1) sorted (λ a h. same a (omega arith)) (λ a v none. absurd (none-some v none)))
  range_values (suc n) f (e ∷ es) low sorted same inside =
      ⊎_elim (here (range_values n f es (low + 1))) (below (range_values n f (e ∷ es) (low + 1))) (cases_eq e.0 low)
    where
      -- the range begins at the first key
      here : IsAlong f n es (low + 1) → e.0 ≡ low → filter_map f (range_with_len low (suc n)) ≡ values_of (e ∷ es)
      here rest at =
          let none = none_again e es sorted in
          let gone : lookup (is_at (nat_cmp low)) es ≡ None = ap (λ (x : ℕ). lookup (is_at (nat_cmp x)) es) (sym at) ∙ none in
          let found : f low ≡ Some e.1 = same low (omega arith) ∙ ap (λ (a : ℕ). lookup (is_at (nat_cmp a)) (e ∷ es)) (sym at) ∙ first e es in
          let still : (a : ℕ) (v : X) → lookup (is_at (nat_cmp a)) es ≡ Some v → (low ≤ a) × (a < low + suc n) =
          λ a v some. inside a v (past e es a (λ q. none-some v (sym none ∙ ap (λ (x : ℕ). lookup (is_at (nat_cmp x)) es) (sym q) ∙ some)) ∙ some) in
          rw found (ap (λ (vs : List X). e.1 ∷ vs)
          (rest (sorted_tail nat_cmp e.0 (keys_of es) sorted) (λ a h. same a (omega arith) ∙ past e es a (λ (q : a ≡ e.0). omega arith)) (rest_inside es low n gone still)))

      -- or below it
      below : IsAlong f n (e ∷ es) (low + 1) → e.0 ≢ low → filter_map f (range_with_len low (suc n)) ≡ values_of (e ∷ es)
      below rest apart =
          let r = inside e.0 e.1 (first e es) in
          let none : lookup (is_at (nat_cmp low)) (e ∷ es) ≡ None = lookup-none (is_at (nat_cmp low)) (e ∷ es) (none_below_head nat_cmp_total low e es sorted (is_less low e.0 (omega arith))) in
          rw (same low (omega arith), none) (rest sorted (λ a h. same a (omega arith)) (rest_inside (e ∷ es) low n none inside))

-- so the map's values are the kept symbols
pub values_kept : (sections : List Section) (strings : List ℕ) (cs : List Entry) (m : BTreeMap ℕ Entry)
    → IsOrdered nat_cmp m → HasFirst strings cs m → All (IsInText sections) cs → values m ≡ kept_entries sections strings cs
unfolding kept_entries
values_kept sections strings cs m ordered firsts all =
    sym (range_values (high - low) (kept_at strings cs) m.entries low ordered (λ addr _. sym (firsts addr)) inside)
  where
    low : ℕ
    low = text_low sections

    high : ℕ
    high = text_high sections

    inside : (a : ℕ) (v : Entry) → get nat_cmp m a ≡ Some v → (low ≤ a) × (a < low + (high - low))
    inside a v some = grind (arith, kept_at_holds strings (IsInText sections) cs a v all (sym (firsts a) ∙ some))

-- there are no more kept symbols than addresses of the text
length_filter_map : {X : Type 0} (f : ℕ → Option X) (ns : List ℕ) → length (filter_map f ns) ≤ length ns
length_filter_map f [] = omega arith
length_filter_map {X} f (n ∷ ns) = by (f n) (length_filter_map f ns)
  where
    by : (o : Option X) → length (filter_map f ns) ≤ length ns → length (cons_option o (filter_map f ns)) ≤ suc (length ns)
    by None h = omega arith
    by (Some x) h = omega arith

pub length_kept : (sections : List Section) (strings : List ℕ) (cs : List Entry) → length (kept_entries sections strings cs) ≤ text_high sections - text_low sections
unfolding kept_entries
length_kept sections strings cs = grind (arith, length_filter_map, length-range_with_len)

-- candidates lie in the text
both : (a b : Bool) → (a && b) ≡ true → (a ≡ true) × (b ≡ true)
both true b h = (refl, h)
both false b h = absurd (false≢true h)

fits_in_text : (sections : List Section) (e : Entry) → is_candidate sections e ≡ true → IsInText sections e
unfolding is_candidate
fits_in_text sections e fit =
    by (slice_get sections e.section) refl (both (nat_lt 0 e.number && may_be_function e) (option_map_or (is_in_section e) (slice_get sections e.section) false) fit).1
  where
    by : (o : Option Section) → slice_get sections e.section ≡ o → option_map_or (is_in_section e) o false ≡ true → IsInText sections e
    by None there inside = absurd (false≢true inside)
    by (Some s) there inside =
        let last = both (is_executable s && nat_le s.addr e.addr) (nat_lt e.addr (section_end s)) inside in
        let first = both (is_executable s) (nat_le s.addr e.addr) last.0 in
        let text = section_in_text sections e.section s there first.0 in
        (grind (arith, nat_tests), grind (arith, nat_tests))

pub candidates_in_text : (sections : List Section) (table strings : List ℕ) → All (IsInText sections) (candidates strings (fitting_entries sections table))
unfolding fitting_entries
candidates_in_text sections table strings k d below =
    fits_in_text sections _ (All-filter (has_name strings) (λ e. is_candidate sections e ≡ true) _ (filter_passes (is_candidate sections) _) k d below)
