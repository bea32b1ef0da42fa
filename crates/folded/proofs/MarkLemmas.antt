-- Marks while functions come onto the stack and leave it.
use Rattle.std.proofs.Common.{◌≡◌, ◌∙◌, ◌+◌, ◌-◌, ◌^◌, ◌<◌, ◌≤◌, ◌||◌, ℕ, suc, Bool, List, [], ◌∷◌, length, drop, get_or, set, take, eqb, not, replicate, ap, arith, cond, refl, sym, subst, Option, Some, None}
use Rattle.std.specs.Prelude.{◌⊎◌, IfSome}
use Rattle.std.specs.List.{All}
use Rattle.std.proofs.lemmas.List.{get_or-replicate, get_or-set_other, get_or-set_same, get_or-drop, length-drop, length-replicate, length-set, length-take, take-append-drop, take_all, take_rest}
use Rattle.std.proofs.lemmas.List.Elements.{All-from_get_or}
use Rattle.std.proofs.lemmas.List.Sums.{sum_by-append, sum_by_more, sum_by_more_le}
use Rattle.folded.specs.Nodes.{any_stack, samples_of_lines}
use Rattle.folded.specs.Paths.{IsPath, first_path, functions_of}
use Rattle.folded.specs.Stacks.{AreBelow, has_function, is_function}
use Rattle.folded.specs.Tally.{AreOn, HasMoved, HaveMoved, counted_by, mark_at, place_in, places_in}
use Rattle.folded.specs.declared.tally.Mark.{Mark}
use Rattle.folded.specs.declared.path.Path.{Path}
use Rattle.folded.specs.declared.tree.Tree.{Tree}
use Rattle.folded.proofs.NodeLemmas.{length_stacks}
use Rattle.folded.proofs.TallyLemmas.{Lines, front_few, weight}

abbrev pub Stack : Type 0
Stack = List (Option ℕ)

abbrev blank : Mark
blank = record { count = 0; places = 0; since = 0 }

-- ---- all of them

pub moved_then : (passed : ℕ) (off_a on_a off_b on_b off on : Stack) (a b c : List Mark) → HaveMoved passed off_a on_a a b → HaveMoved passed off_b on_b b c
    → ((g : ℕ) → places_in off g + (places_in on_a g + places_in on_b g) ≡ places_in on g + (places_in off_a g + places_in off_b g)) → HaveMoved passed off on a c
moved_then passed off_a on_a off_b on_b off on a b c one two same = grind arith

pub still : (passed : ℕ) (off on : Stack) (a : List Mark) → ((g : ℕ) → g < length a → (mark_at a g).since ≤ passed) → ((g : ℕ) → places_in off g ≡ places_in on g) → HaveMoved passed off on a a
still passed off on a since same = grind arith

one_place : (g f : ℕ) → ((f ≡ g) × (place_in g (Some f) ≡ 1)) ⊎ ((f ≡ g → ⊥) × (place_in g (Some f) ≡ 0))
one_place g f = by (eqb f g) refl
  where
    by : (b : Bool) → eqb f g ≡ b → ((f ≡ g) × (place_in g (Some f) ≡ 1)) ⊎ ((f ≡ g → ⊥) × (place_in g (Some f) ≡ 0))
    by b is = grind arith

-- where the mark of one function has moved
moved_at : (passed f g off on : ℕ) (a : List Mark) (m : Mark) → f < length a → ((h : ℕ) → h < length a → (mark_at a h).since ≤ passed) → g < length a → ((f ≡ g) × HasMoved passed off on (mark_at a f) m) ⊎ ((f ≡ g → ⊥) × (off ≡ on))
    → HasMoved passed off on (mark_at a g) (mark_at (set a f m) g)
moved_at passed f g off on a m inside since below is = grind (arith, get_or-set_same, get_or-set_other)

pub entered_some : (passed f : ℕ) (a : List Mark) (m : Mark) → f < length a → ((h : ℕ) → h < length a → (mark_at a h).since ≤ passed) → HasMoved passed 0 1 (mark_at a f) m → HaveMoved passed [] (Some f ∷ []) a (set a f m)
entered_some passed f a m inside since one = record {
  same = length-set a f m;
  moved = λ g below. moved_at passed f g 0 (places_in (Some f ∷ []) g) a m inside since below (by g (one_place g f));
}
  where
    by : (g : ℕ) → ((f ≡ g) × (place_in g (Some f) ≡ 1)) ⊎ ((f ≡ g → ⊥) × (place_in g (Some f) ≡ 0)) → ((f ≡ g) × HasMoved passed 0 (places_in (Some f ∷ []) g) (mark_at a f) m) ⊎ ((f ≡ g → ⊥) × (0 ≡ places_in (Some f ∷ []) g))
    by g this = grind arith

pub left_some : (passed f : ℕ) (a : List Mark) (m : Mark) → f < length a → ((h : ℕ) → h < length a → (mark_at a h).since ≤ passed) → HasMoved passed 1 0 (mark_at a f) m → HaveMoved passed (Some f ∷ []) [] a (set a f m)
left_some passed f a m inside since one = record {
  same = length-set a f m;
  moved = λ g below. moved_at passed f g (places_in (Some f ∷ []) g) 0 a m inside since below (by g (one_place g f));
}
  where
    by : (g : ℕ) → ((f ≡ g) × (place_in g (Some f) ≡ 1)) ⊎ ((f ≡ g → ⊥) × (place_in g (Some f) ≡ 0)) → ((f ≡ g) × HasMoved passed (places_in (Some f ∷ []) g) 0 (mark_at a f) m) ⊎ ((f ≡ g → ⊥) × (places_in (Some f ∷ []) g ≡ 0))
    by g this = grind arith

-- ---- one function of a list more

pub more_places : (functions : Stack) (i g : ℕ) → i < length functions → places_in (take (i + 1) functions) g ≡ places_in (take i functions) g + place_in g (get_or functions i None)
more_places functions i g inside = sum_by_more (place_in g) functions i None inside

entered_more : (passed i : ℕ) (functions : Stack) (a b c : List Mark) → i < length functions → HaveMoved passed [] (take i functions) a b → HaveMoved passed [] (get_or functions i None ∷ []) b c → HaveMoved passed [] (take (i + 1) functions) a c
entered_more passed i functions a b c inside one two = grind (arith, more_places)

left_more : (passed i : ℕ) (functions : Stack) (a b c : List Mark) → i < length functions → HaveMoved passed (take i functions) [] a b → HaveMoved passed (get_or functions i None ∷ []) [] b c → HaveMoved passed (take (i + 1) functions) [] a c
left_more passed i functions a b c inside one two = grind (arith, more_places)

all_since : (passed : ℕ) (off on : Stack) (a b : List Mark) → HaveMoved passed off on a b → (g : ℕ) → g < length b → (mark_at b g).since ≤ passed
all_since passed off on a b moved g below = (moved.moved g (omega (arith, below, moved.same))).since

pub some_below : (i n f : ℕ) (stack : Stack) → AreBelow n stack → i < length stack → get_or stack i None ≡ Some f → f < n
some_below i n f stack below inside is = subst (λ (o : Option ℕ). IfSome o (λ g. g < n)) is (below i None inside)

pub enters_some : (passed i f : ℕ) (functions : Stack) (a b c : List Mark) (m : Mark) → i < length functions → AreBelow (length a) functions → HaveMoved passed [] (take i functions) a b → get_or functions i None ≡ Some f → HasMoved passed 0 1 (mark_at b f) m → c ≡ set b f m
    → HaveMoved passed [] (take (i + 1) functions) a c
enters_some passed i f functions a b c m inside below was is one made =
    let fits : f < length b = omega (arith, some_below i (length a) f functions below inside is, was.same) in
    let step = entered_some passed f b m fits (all_since passed [] (take i functions) a b was) one in
    let here : HaveMoved passed [] (get_or functions i None ∷ []) b (set b f m) = subst (λ (o : Option ℕ). HaveMoved passed [] (o ∷ []) b (set b f m)) (sym is) step in
    subst (λ (x : List Mark). HaveMoved passed [] (take (i + 1) functions) a x) (sym made) (entered_more passed i functions a b (set b f m) inside was here)

pub enters_none : (passed i : ℕ) (functions : Stack) (a b c : List Mark) → i < length functions → HaveMoved passed [] (take i functions) a b → get_or functions i None ≡ None → c ≡ b → HaveMoved passed [] (take (i + 1) functions) a c
enters_none passed i functions a b c inside was is made =
    let step = still passed [] (None ∷ []) b (all_since passed [] (take i functions) a b was) (λ g. omega arith) in
    let here : HaveMoved passed [] (get_or functions i None ∷ []) b b = subst (λ (o : Option ℕ). HaveMoved passed [] (o ∷ []) b b) (sym is) step in
    subst (λ (x : List Mark). HaveMoved passed [] (take (i + 1) functions) a x) (sym made) (entered_more passed i functions a b b inside was here)

pub leaves_some : (passed i f : ℕ) (functions : Stack) (a b c : List Mark) (m : Mark) → i < length functions → AreBelow (length a) functions → HaveMoved passed (take i functions) [] a b → get_or functions i None ≡ Some f → HasMoved passed 1 0 (mark_at b f) m → c ≡ set b f m
    → HaveMoved passed (take (i + 1) functions) [] a c
leaves_some passed i f functions a b c m inside below was is one made =
    let fits : f < length b = omega (arith, some_below i (length a) f functions below inside is, was.same) in
    let step = left_some passed f b m fits (all_since passed (take i functions) [] a b was) one in
    let here : HaveMoved passed (get_or functions i None ∷ []) [] b (set b f m) = subst (λ (o : Option ℕ). HaveMoved passed (o ∷ []) [] b (set b f m)) (sym is) step in
    subst (λ (x : List Mark). HaveMoved passed (take (i + 1) functions) [] a x) (sym made) (left_more passed i functions a b (set b f m) inside was here)

pub leaves_none : (passed i : ℕ) (functions : Stack) (a b c : List Mark) → i < length functions → HaveMoved passed (take i functions) [] a b → get_or functions i None ≡ None → c ≡ b → HaveMoved passed (take (i + 1) functions) [] a c
leaves_none passed i functions a b c inside was is made =
    let step = still passed (None ∷ []) [] b (all_since passed (take i functions) [] a b was) (λ g. omega arith) in
    let here : HaveMoved passed (get_or functions i None ∷ []) [] b b = subst (λ (o : Option ℕ). HaveMoved passed (o ∷ []) [] b b) (sym is) step in
    subst (λ (x : List Mark). HaveMoved passed (take (i + 1) functions) [] a x) (sym made) (left_more passed i functions a b b inside was here)

cons_places : (f : Option ℕ) (stack : Stack) (g : ℕ) → places_in (f ∷ stack) g ≡ place_in g f + places_in stack g
cons_places f stack g =
    let none : 0 + place_in g f ≡ place_in g f = omega arith in
    sum_by-append (place_in g) (f ∷ []) stack ∙ ap {B = ℕ} (λ (n : ℕ). n + places_in stack g) none

places_le : (stack : Stack) (g : ℕ) → places_in stack g ≤ length stack
places_le [] g = omega arith
places_le (f ∷ stack) g = omega (arith, cons_places f stack g, by (is_function g f) (places_in stack g) (length stack) (places_le stack g))
  where
    by : (b : Bool) (n most : ℕ) → n ≤ most → cond b 1 0 + n ≤ suc most
    by b n most le = grind arith

-- a function that comes had few places, and one that leaves has some
pub enters_few : (passed i f : ℕ) (functions : Stack) (a b : List Mark) → i < length functions → AreBelow (length a) functions → length functions ≤ 129 → All (λ (m : Mark). m.places ≤ 129) a → HaveMoved passed [] (take i functions) a b → get_or functions i None ≡ Some f
    → (mark_at b f).places + 1 < 2 ^ 32
enters_few passed i f functions a b inside below few places was is = grind (arith, places_le, length-take)

pub leaves_some_place : (passed i f : ℕ) (functions : Stack) (a b : List Mark) → i < length functions → AreBelow (length a) functions → ((g : ℕ) → g < length a → places_in functions g ≤ (mark_at a g).places) → HaveMoved passed (take i functions) [] a b → get_or functions i None ≡ Some f
    → 0 < (mark_at b f).places
leaves_some_place passed i f functions a b inside below places was is = grind (arith, sum_by_more_le)

-- ---- from one stack to another

split_places : (stack : Stack) (n g : ℕ) → places_in stack g ≡ places_in (take n stack) g + places_in (drop n stack) g
split_places stack n g = ap {B = ℕ} (λ (s : Stack). places_in s g) (sym (take-append-drop n stack)) ∙ sum_by-append (place_in g) (take n stack) (drop n stack)

pub moved_over : (passed n : ℕ) (old new : Stack) (a b c : List Mark) → take n old ≡ take n new → HaveMoved passed (drop n old) [] a b → HaveMoved passed [] (drop n new) b c → HaveMoved passed old new a c
moved_over passed n old new a b c same one two =
    moved_then passed (drop n old) [] [] (drop n new) old new a b c one two (λ g. omega (arith, split_places old n g, split_places new n g, ap {B = ℕ} (λ (s : Stack). places_in s g) same))

-- ---- the lines so far

later : (passed n : ℕ) (m : Mark) → m.since ≤ passed → counted_by (passed + n) m ≡ counted_by passed m + cond (eqb m.places 0) 0 n
later passed n m le = by (eqb m.places 0)
  where
    by : (b : Bool) → m.count + cond b 0 (passed + n - m.since) ≡ (m.count + cond b 0 (passed - m.since)) + cond b 0 n
    by b = grind arith

no_places : (stack : Stack) (g : ℕ) → eqb (places_in stack g) 0 ≡ not (has_function g stack)
no_places [] g = refl
no_places (f ∷ stack) g = ap {B = Bool} (λ (k : ℕ). eqb k 0) (cons_places f stack g) ∙ by (is_function g f) (no_places stack g)
  where
    by : (b : Bool) → eqb (places_in stack g) 0 ≡ not (has_function g stack) → eqb (cond b 1 0 + places_in stack g) 0 ≡ not (b || has_function g stack)
    by b is = grind arith

pub record MarksOf (lines : Lines) (functions i passed : ℕ) (stack : Stack) (marks : List Mark) : Type 0 where
  pub passed_is : passed ≡ samples_of_lines any_stack (take i lines)
  pub long : length marks ≡ functions
  pub places : (g : ℕ) → g < functions → (mark_at marks g).places ≡ places_in stack g
  pub since : (g : ℕ) → g < functions → (mark_at marks g).since ≤ passed
  pub counts : (g : ℕ) → g < functions → counted_by passed (mark_at marks g) ≡ samples_of_lines (has_function g) (take i lines)

pub marks_first : (lines : Lines) (functions : ℕ) (p : Path) (marks : List Mark) → p ≡ first_path → marks ≡ replicate functions blank → MarksOf lines functions 0 0 (functions_of p) marks
marks_first lines functions p marks empty is = record {
  passed_is = refl;
  long = ap {B = ℕ} (λ (x : List Mark). length x) is ∙ length-replicate functions blank;
  places = λ g below. ap {B = ℕ} (λ (m : Mark). m.places) (at g below) ∙ sym (ap {B = ℕ} (λ (x : Path). places_in (functions_of x) g) empty);
  since = λ g below. omega (arith, ap {B = ℕ} (λ (m : Mark). m.since) (at g below));
  counts = λ g below. ap {B = ℕ} (λ (m : Mark). counted_by 0 m) (at g below);
}
  where
    at : (g : ℕ) → g < functions → mark_at marks g ≡ blank
    at g below = ap {B = Mark} (λ (x : List Mark). mark_at x g) is ∙ get_or-replicate functions g blank blank below

pub passed_few : (lines : Lines) (functions i passed : ℕ) (stack : Stack) (marks : List Mark) → i < length lines → MarksOf lines functions i passed stack marks → passed + (get_or lines i ([], 0)).1 ≤ samples_of_lines any_stack lines
passed_few lines functions i passed stack marks inside was = omega (arith, was.passed_is, sum_by_more_le (weight any_stack) lines i ([], 0) inside)

pub marks_on : (lines : Lines) (functions i passed : ℕ) (stack : Stack) (marks : List Mark) → MarksOf lines functions i passed stack marks → samples_of_lines any_stack lines < 2 ^ 62 → AreOn passed stack marks
marks_on lines functions i passed stack marks was few = grind (arith, front_few)

pub marks_next : (lines : Lines) (functions i passed : ℕ) (stack : Stack) (marks new : List Mark) (l : Stack × ℕ) → i < length lines → get_or lines i ([], 0) ≡ l → MarksOf lines functions i passed stack marks → HaveMoved passed stack l.0 marks new
    → MarksOf lines functions (i + 1) (passed + l.1) l.0 new
marks_next lines functions i passed stack marks new l inside here was moved = record {
  passed_is = (λ t. was.passed_is t + l.1) ∙ ap {B = ℕ} (λ (x : Stack × ℕ). samples_of_lines any_stack (take i lines) + weight any_stack x) (sym here) ∙ sym (sum_by_more (weight any_stack) lines i ([], 0) inside);
  long = moved.same ∙ was.long;
  places = λ g below. (let one = moved.moved g (omega (arith, below, was.long)) in omega (arith, one.places, was.places g below));
  since = λ g below. (let one = moved.moved g (omega (arith, below, was.long)) in omega (arith, one.since));
  counts = λ g below. (
      let one = moved.moved g (omega (arith, below, was.long)) in
      let m = mark_at new g in
      let places : m.places ≡ places_in l.0 g = omega (arith, one.places, was.places g below) in
      later passed l.1 m one.since
      ∙ (λ t. (one.counted ∙ was.counts g below) t + cond (eqb (places t) 0) 0 l.1)
      ∙ ap {B = ℕ} (λ (b : Bool). samples_of_lines (has_function g) (take i lines) + cond b 0 l.1) (no_places l.0 g)
      ∙ turned (has_function g l.0) (samples_of_lines (has_function g) (take i lines)) l.1
      ∙ ap {B = ℕ} (λ (x : Stack × ℕ). samples_of_lines (has_function g) (take i lines) + weight (has_function g) x) (sym here)
      ∙ sym (sum_by_more (weight (has_function g)) lines i ([], 0) inside)
      );
}
  where
    turned : (b : Bool) (before n : ℕ) → before + cond (not b) 0 n ≡ before + cond b n 0
    turned b before n = grind arith

-- once all functions have left the stack
pub marks_all : (lines : Lines) (functions i passed : ℕ) (stack : Stack) (marks new : List Mark) → length lines ≤ i → MarksOf lines functions i passed stack marks → HaveMoved passed stack [] marks new
    → (g : ℕ) → g < functions → (mark_at new g).count ≡ samples_of_lines (has_function g) lines
marks_all lines functions i passed stack marks new all was moved g below = grind (arith, take_all)

pub since_all : (passed : ℕ) (stack : Stack) (marks : List Mark) → AreOn passed stack marks → All (λ (m : Mark). m.since ≤ passed) marks
since_all passed stack marks on = All-from_get_or (λ (m : Mark). m.since ≤ passed) marks blank on.since

pub few_all : (passed : ℕ) (stack : Stack) (marks : List Mark) → AreOn passed stack marks → All (λ (m : Mark). counted_by passed m < 2 ^ 62) marks
few_all passed stack marks on = All-from_get_or (λ (m : Mark). counted_by passed m < 2 ^ 62) marks blank on.few

pub places_rest : (passed n : ℕ) (stack : Stack) (marks : List Mark) → AreOn passed stack marks → (g : ℕ) → g < length marks → places_in (drop n stack) g ≤ (mark_at marks g).places
places_rest passed n stack marks on g below = omega (arith, on.places g below, split_places stack n g)

pub places_few : (passed n : ℕ) (stack : Stack) (marks new : List Mark) → AreOn passed stack marks → length stack ≤ 129 → HaveMoved passed (drop n stack) [] marks new → All (λ (m : Mark). m.places ≤ 129) new
places_few passed n stack marks new on short moved = All-from_get_or (λ (m : Mark). m.places ≤ 129) new blank (λ g inside. omega (arith, (moved.moved g (omega (arith, inside, moved.same))).places, on.places g (omega (arith, inside, moved.same)), places_le stack g, short))

pub since_moved : (passed : ℕ) (off on : Stack) (marks new : List Mark) → HaveMoved passed off on marks new → All (λ (m : Mark). m.since ≤ passed) new
since_moved passed off on marks new moved = All-from_get_or (λ (m : Mark). m.since ≤ passed) new blank (all_since passed off on marks new moved)

-- ---- a slice from a place on

pub part_is : (n : ℕ) (stack whole : Stack) → whole ≡ stack → take (length whole - n) (drop n whole) ≡ drop n stack
part_is n stack whole is = take_rest whole n ∙ ap (λ (s : Stack). drop n s) is

pub path_below : (t : Tree) → (p : Path) → IsPath t.nodes.items p → AreBelow t.functions (functions_of p)
path_below t p path = grind (arith, length_stacks)

pub part_below : (t : Tree) → (p : Path) → IsPath t.nodes.items p → (n count : ℕ) (whole : Stack) → whole ≡ functions_of p → count ≡ t.functions → AreBelow count (take (length whole - n) (drop n whole))
part_below t p path n count whole same functions = grind (arith, path_below, part_is, length-drop, get_or-drop)
