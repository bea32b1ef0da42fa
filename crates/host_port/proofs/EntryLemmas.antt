-- Looking a file up by its name.
use Rattle.std.proofs.Common.{◌≡◌, ℕ, zero, suc, ◌+◌, ◌<◌, ◌≤◌, Bool, true, false, cond, List, [], ◌∷◌, ◌++◌, length, map, get_or, drop, Option, Some, None, Result, Ok, Err, ◌⊎◌, inl, inr, refl, sym, ap, subst, ◌∙◌, arith}
use Rattle.std.specs.Prelude.{bytes_eq, option_map, string_bytes, is_ok, OnOk, OnErr}
use Rattle.std.proofs.Math.ListN.{set}
use Rattle.std.proofs.lemmas.List.{at_drop_more, at_drop_all, length-map, map-set, get_or-map, map_push}
use Rattle.std.proofs.Math.Seq.{map-set_same}
use Rattle.std.specs.Global.{Vec}
use Rattle.std.proofs.lemmas.Slice.Eq.{bytes_eq-Decides}
use Rattle.host_port.specs.declared.files.Entry.{Entry}
use Rattle.host_port.specs.Act.{File, file_content, has_file, with_file, with_more}
use Rattle.host_port.specs.Entries.{file_of, files_of, place_of, bytes_at}

-- ---- the loop that looks

same_place : (o : Option ℕ) → o ≡ option_map (λ j. 0 + j) o
same_place None = refl
same_place (Some j) = ap (λ (n : ℕ). Some n) (omega arith)

one_on : (i : ℕ) (o : Option ℕ) → option_map (λ j. i + j) (option_map suc o) ≡ option_map (λ j. (i + 1) + j) o
one_on i None = refl
one_on i (Some j) = ap (λ (n : ℕ). Some n) (omega arith)

-- through items, each of which is a file
module _ {T : Type 0} (file : T → File) (name : List ℕ) (items : List T) where
  -- the place of the name among those from i on
  abbrev place_from : ℕ → Option ℕ
  place_from i = place_of name (map file (drop i items))

  -- no file below i has the name
  abbrev pub Passed : ℕ → Type 0
  Passed i = place_of name (map file items) ≡ option_map (λ j. i + j) (place_from i)

  pub passed_none : Passed 0
  passed_none = same_place (place_of name (map file items))

  pub passed_all : (i : ℕ) → length items ≤ i → Passed i → None ≡ place_of name (map file items)
  passed_all i le so_far = sym (so_far ∙ ap (option_map (λ j. i + j)) (at_drop_all (λ (xs : List T). place_of name (map file xs)) items i le))

  module _ (i : ℕ) (x : T) (b : Bool) (lt : i < length items) (is : x ≡ get_or items i x) (test : b ≡ bytes_eq (file x).0 name) where
    abbrev place_by : Bool → Option ℕ
    place_by t = cond t (Some 0) (option_map suc (place_from (i + 1)))

    looks_at : place_from i ≡ place_by b
    looks_at = at_drop_more (λ (xs : List T). place_of name (map file xs)) items i x lt ∙ ap (λ (y : T). place_by (bytes_eq (file y).0 name)) (sym is) ∙ ap place_by (sym test)

    pub passed_more : b ≡ false → Passed i → Passed (i + 1)
    passed_more fails so_far = so_far ∙ ap (option_map (λ j. i + j)) (looks_at ∙ ap place_by fails) ∙ one_on i (place_from (i + 1))

    pub passed_found : b ≡ true → Passed i → Some i ≡ place_of name (map file items)
    passed_found holds so_far = sym (so_far ∙ ap (option_map (λ j. i + j)) (looks_at ∙ ap place_by holds) ∙ ap (λ (n : ℕ). Some n) (omega arith))

-- ---- what a place says

place_cases : (b : Bool) (o : Option ℕ) (i : ℕ) → cond b (Some 0) (option_map suc o) ≡ Some i → ((b ≡ true) × (i ≡ 0)) ⊎ ((b ≡ false) × ((j : ℕ) × (i ≡ suc j) × (o ≡ Some j)))
place_cases true o i e = inl (refl, cc)
place_cases false None i e = absurd cc
place_cases false (Some j) i e = inr (refl, (j, cc, refl))

none_cases : (b : Bool) (o : Option ℕ) → cond b (Some 0) (option_map suc o) ≡ None → (b ≡ false) × (o ≡ None)
none_cases true o e = absurd cc
none_cases false None e = (refl, refl)
none_cases false (Some j) e = absurd cc

-- what there is of the file at a place
pub record Found (name : List ℕ) (files : List File) (i : ℕ) : Type 0 where
  pub in_range : i < length files
  pub there : has_file name files ≡ true
  pub content : file_content name files ≡ bytes_at files i
  pub item : (d : File) → (get_or files i d).1 ≡ bytes_at files i
  pub named : (d : File) → (get_or files i d).0 ≡ name
  pub putting : (bytes : List ℕ) → with_file name bytes files ≡ set files i (name, bytes)
  pub adding : (bytes : List ℕ) → with_more name bytes files ≡ set files i (name, bytes_at files i ++ bytes)

found_here : (name : List ℕ) (f : File) (fs : List File) → bytes_eq f.0 name ≡ true → Found name (f ∷ fs) 0
found_here name f fs b = grind (arith, bytes_eq-Decides)

found_later : (name : List ℕ) (f : File) (fs : List File) (j : ℕ) → bytes_eq f.0 name ≡ false → Found name fs j → Found name (f ∷ fs) (suc j)
found_later name f fs j b found = grind arith

pub found_at : (name : List ℕ) (files : List File) (i : ℕ) → place_of name files ≡ Some i → Found name files i
found_at name [] i e = absurd cc
found_at name (f ∷ fs) i e =
    elim (place_cases (bytes_eq f.0 name) (place_of name fs) i e) [
      | inl h ↦ subst (Found name (f ∷ fs)) (sym h.1) (found_here name f fs h.0)
      | inr h ↦ subst (Found name (f ∷ fs)) (sym h.1.1) (found_later name f fs h.1.0 h.0 (found_at name fs h.1.0 h.1.2))
    ]

-- what there is where no file has the name
pub record Missing (name : List ℕ) (files : List File) : Type 0 where
  pub not_there : has_file name files ≡ false
  pub content : file_content name files ≡ []
  pub putting : (bytes : List ℕ) → with_file name bytes files ≡ files ++ (name, bytes) ∷ []
  pub adding : (bytes : List ℕ) → with_more name bytes files ≡ files

pub missing : (name : List ℕ) (files : List File) → place_of name files ≡ None → Missing name files
missing name [] e = record { not_there = refl; content = refl; putting = λ bytes. refl; adding = λ bytes. refl }
missing name (f ∷ fs) e =
    let h = none_cases (bytes_eq f.0 name) (place_of name fs) e in
    let b = h.0 in
    let rest = missing name fs h.1 in
    record {
      not_there = rw b rest.not_there;
      content = rw b rest.content;
      putting = λ bytes. rw b (ap (λ (v : List File). f ∷ v) (rest.putting bytes));
      adding = λ bytes. rw b (ap (λ (v : List File). f ∷ v) (rest.adding bytes));
    }

-- ---- the entries that stand for files

at_entry : (entries : List Entry) (i : ℕ) (e : Entry) → i < length (files_of entries) → e ≡ get_or entries i e → file_of e ≡ get_or (files_of entries) i (file_of e)
at_entry entries i e lt is = grind (arith, length-map, get_or-map)

pub name_at : (name : List ℕ) (entries : List Entry) (i : ℕ) (e : Entry) → Found name (files_of entries) i → e ≡ get_or entries i e → string_bytes e.name ≡ name
name_at name entries i e found is = ap (λ (f : File). f.0) (at_entry entries i e found.in_range is) ∙ found.named (file_of e)

pub item_at : (name : List ℕ) (entries : List Entry) (i : ℕ) (e : Entry) → Found name (files_of entries) i → e ≡ get_or entries i e → e.bytes.items ≡ bytes_at (files_of entries) i
item_at name entries i e found is = ap (λ (f : File). f.1) (at_entry entries i e found.in_range is) ∙ found.item (file_of e)

pub in_range : (name : List ℕ) (entries : List Entry) (i : ℕ) → Found name (files_of entries) i → i < length entries
in_range name entries i found = omega (arith, found.in_range, length-map entries file_of)

changed_at : (name : List ℕ) (entries : List Entry) (i : ℕ) (e : Entry) (bytes : Vec ℕ) → Found name (files_of entries) i → e ≡ get_or entries i e
    → files_of (set entries i (record { name = e.name; bytes = bytes })) ≡ set (files_of entries) i (name, bytes.items)
changed_at name entries i e bytes found is = grind (arith, map-set, name_at)

pub set_at : (name : List ℕ) (entries : List Entry) (i : ℕ) (e : Entry) (bytes : Vec ℕ) → Found name (files_of entries) i → e ≡ get_or entries i e
    → files_of (set entries i (record { name = e.name; bytes = bytes })) ≡ with_file name bytes.items (files_of entries)
set_at name entries i e bytes found is = changed_at name entries i e bytes found is ∙ sym (found.putting bytes.items)

pub append_at : (name more : List ℕ) (entries : List Entry) (i : ℕ) (e : Entry) (bytes : Vec ℕ) → Found name (files_of entries) i → e ≡ get_or entries i e → bytes.items ≡ e.bytes.items ++ more
    → files_of (set entries i (record { name = e.name; bytes = bytes })) ≡ with_more name more (files_of entries)
append_at name more entries i e bytes found is longer = grind (arith, changed_at, item_at)

pub kept_at : (entries : List Entry) (i : ℕ) (e : Entry) (bytes : Vec ℕ) → i < length entries → e ≡ get_or entries i e → bytes.items ≡ e.bytes.items
    → files_of (set entries i (record { name = e.name; bytes = bytes })) ≡ files_of entries
kept_at entries i e bytes lt is same = grind (arith, map-set_same)

pub push_entry : (name : List ℕ) (entries : List Entry) (e : Entry) → place_of name (files_of entries) ≡ None → string_bytes e.name ≡ name → files_of (entries ++ e ∷ []) ≡ with_file name e.bytes.items (files_of entries)
push_entry name entries e none is =
    map_push file_of entries e ∙ ap (λ (n : List ℕ). files_of entries ++ (n, e.bytes.items) ∷ []) is ∙ sym ((missing name (files_of entries) none).putting e.bytes.items)

pub on_ok_append : {T E : Type 0} (res : Result T E) (name more : List ℕ) (entries : List Entry) (i : ℕ) (e : Entry) (bytes : Vec ℕ) → Found name (files_of entries) i → e ≡ get_or entries i e → bytes.items ≡ cond (is_ok res) (e.bytes.items ++ more) e.bytes.items
    → OnOk res (files_of (set entries i (record { name = e.name; bytes = bytes })) ≡ with_more name more (files_of entries))
on_ok_append (Ok x) name more entries i e bytes found is longer = append_at name more entries i e bytes found is longer
on_ok_append (Err x) name more entries i e bytes found is longer = tt

pub on_err_append : {T E : Type 0} (res : Result T E) (more : List ℕ) (entries : List Entry) (i : ℕ) (e : Entry) (bytes : Vec ℕ) → i < length entries → e ≡ get_or entries i e → bytes.items ≡ cond (is_ok res) (e.bytes.items ++ more) e.bytes.items
    → OnErr res (files_of (set entries i (record { name = e.name; bytes = bytes })) ≡ files_of entries)
on_err_append (Ok x) more entries i e bytes lt is longer = tt
on_err_append (Err x) more entries i e bytes lt is longer = kept_at entries i e bytes lt is longer

-- ---- reading

item_of : (files : List File) (i : ℕ) (d : File) → i < length files → (get_or files i d).1 ≡ bytes_at files i
item_of [] i d lt = absurd (omega arith)
item_of (f ∷ fs) zero d lt = refl
item_of (f ∷ fs) (suc i) d lt = item_of fs i d (omega arith)

pub no_item : (files : List File) (i : ℕ) → length files ≤ i → bytes_at files i ≡ []
no_item [] i le = refl
no_item (f ∷ fs) zero le = absurd (omega arith)
no_item (f ∷ fs) (suc i) le = no_item fs i (omega arith)

pub bytes_of_entry : (entries : List Entry) (i : ℕ) (e : Entry) → i < length entries → e ≡ get_or entries i e → bytes_at (files_of entries) i ≡ e.bytes.items
bytes_of_entry entries i e lt is =
    let lt' : i < length (files_of entries) = omega (arith, length-map entries file_of) in
    sym (item_of (files_of entries) i (file_of e) lt') ∙ ap (λ (f : File). f.1) (sym (at_entry entries i e lt' is))

pub nothing_left : (entries : List Entry) (file at : ℕ) → length entries ≤ file → length (drop at (bytes_at (files_of entries) file)) ≡ 0
nothing_left entries file at le = grind (arith, no_item, length-map)

-- what was lent is what is left at the place
pub rest_is : (entries : List Entry) (file at : ℕ) (e : Entry) (lent : List ℕ) → file < length entries → e ≡ get_or entries file e → lent ≡ (get_or entries file e).bytes.items → drop at (bytes_at (files_of entries) file) ≡ drop at lent
rest_is entries file at e lent lt is lent_is = grind (arith, bytes_of_entry)

pub past_the_end : (entries : List Entry) (file : ℕ) → length entries ≤ file → bytes_at (files_of entries) file ≡ []
past_the_end entries file le = no_item (files_of entries) file (omega (arith, length-map entries file_of))
