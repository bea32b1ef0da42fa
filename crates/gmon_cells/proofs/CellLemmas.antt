-- A text is cut into cells one by one, and however it is divided.
use Rattle.std.proofs.Common.{◌≡◌, ℕ, zero, suc, ◌+◌, ◌-◌, ◌*◌, ◌/◌, ◌<◌, ◌≤◌, List, [], ◌∷◌, ◌++◌, length, take, drop, length-take, length-drop, length-append, refl, sym, ap, ◌∙◌, append_assoc, arith}
use Rattle.std.proofs.Math.Nat.{div-mul-le_self}
use Rattle.std.proofs.lemmas.Nat.{div-add-mod', div-mul-add, le-div}
use Rattle.std.proofs.lemmas.List.{take_at, drop_at, take_all, take-append-drop, drop-drop}
use Rattle.gp_base.specs.Bytes.{items_of_text, IsBytes}
use Rattle.gp_base.proofs.LittleEndian.{IsBytes-rest}
use Rattle.gmon_cells.specs.Cells.{cells_of, torn_of, StandsFor}

-- ---- how many cells there are

pub div_less : (n w : ℕ) → n < w → n / w ≡ 0
div_less n w less = let start : 0 * w + n ≡ n = omega arith in ap (λ (k : ℕ). k / w) (sym start) ∙ div-mul-add 0 w n less

pub div_more : (n w : ℕ) → 0 < w → w ≤ n → n / w ≡ suc ((n - w) / w)
div_more n w some more = grind arith

-- ---- a text that is shorter than a cell

pub cells_none : {X : Type 0} (w : ℕ) (cell : List ℕ → X) (bs : List ℕ) → length bs < w → cells_of w cell bs ≡ []
cells_none w cell bs less = ap (λ (n : ℕ). items_of_text w cell n bs) (div_less (length bs) w less)

pub torn_whole : (w : ℕ) (bs : List ℕ) → length bs < w → torn_of w bs ≡ bs
torn_whole w bs less = grind (arith, div_less)

-- ---- a cell in front of a text

count_then : (w : ℕ) (first rest : List ℕ) → 0 < w → length first ≡ w → length (first ++ rest) / w ≡ suc (length rest / w)
count_then w first rest some whole = grind (arith, length-append)

pub cells_then : {X : Type 0} (w : ℕ) (cell : List ℕ → X) (first rest : List ℕ) → 0 < w → length first ≡ w → cells_of w cell (first ++ rest) ≡ cell first ∷ cells_of w cell rest
cells_then {X} w cell first rest some whole = search (count_then, take_at, drop_at)

pub torn_then : (w : ℕ) (first rest : List ℕ) → 0 < w → length first ≡ w → torn_of w (first ++ rest) ≡ torn_of w rest
torn_then w first rest some whole =
    let m = length rest / w in
    let count : length (first ++ rest) / w * w ≡ w + m * w = ap (λ (n : ℕ). n * w) (count_then w first rest some whole) ∙ omega arith in
    ap (λ (n : ℕ). drop n (first ++ rest)) count ∙ sym (drop-drop (m * w) w (first ++ rest)) ∙ ap (drop (m * w)) (drop_at first rest w whole)

-- ---- what is left over is less than a cell

pub torn_short : (w : ℕ) (bs : List ℕ) → 0 < w → length (torn_of w bs) < w
torn_short w bs some = grind (arith, length-drop)

-- ---- a text in two parts

first_of : (w : ℕ) (bs : List ℕ) → w ≤ length bs → length (take w bs) ≡ w
first_of w bs long = omega (arith, length-take w bs)

in_parts : (w : ℕ) (bs more : List ℕ) → take w bs ++ (drop w bs ++ more) ≡ bs ++ more
in_parts w bs more = sym (append_assoc (take w bs) (drop w bs) more) ∙ ap (λ (v : List ℕ). v ++ more) (take-append-drop w bs)

long_of : (n w : ℕ) (bs : List ℕ) → length bs / w ≡ suc n → w ≤ length bs
long_of n w bs is = let d = div-add-mod' (length bs) w in let e : length bs / w * w ≡ suc n * w = ap (λ (k : ℕ). k * w) is in omega (arith, d, e)

left_of : (n w : ℕ) (bs : List ℕ) → 0 < w → length bs / w ≡ suc n → length (drop w bs) / w ≡ n
left_of n w bs some is = grind (arith, length-drop)

none_of : (w : ℕ) (bs : List ℕ) → 0 < w → length bs / w ≡ 0 → length bs < w
none_of w bs some is = grind arith

cells_counted : {X : Type 0} (w : ℕ) (cell : List ℕ → X) (n : ℕ) (bs more : List ℕ) → 0 < w → length bs / w ≡ n → cells_of w cell (bs ++ more) ≡ cells_of w cell bs ++ cells_of w cell (torn_of w bs ++ more)
cells_counted w cell zero bs more some is = search (none_of, cells_none, torn_whole)
cells_counted {X} w cell (suc n) bs more some is =
    let first = first_of w bs (long_of n w bs is) in
    let rest = drop w bs in
    let whole : bs ≡ take w bs ++ rest = sym (take-append-drop w bs) in
    let tail = cells_counted w cell n rest more some (left_of n w bs some is) in
    ap (cells_of w cell) (sym (in_parts w bs more))
    ∙ cells_then w cell (take w bs) (rest ++ more) some first
    ∙ ap (λ (v : List X). cell (take w bs) ∷ v) tail
    ∙ ap (λ (v : List X). v ++ cells_of w cell (torn_of w rest ++ more)) (sym (ap (cells_of w cell) whole ∙ cells_then w cell (take w bs) rest some first))
    ∙ ap (λ (v : List ℕ). cells_of w cell bs ++ cells_of w cell (v ++ more)) (sym (ap (torn_of w) whole ∙ torn_then w (take w bs) rest some first))

torn_counted : (w n : ℕ) (bs more : List ℕ) → 0 < w → length bs / w ≡ n → torn_of w (bs ++ more) ≡ torn_of w (torn_of w bs ++ more)
torn_counted w zero bs more some is = ap (λ (v : List ℕ). torn_of w (v ++ more)) (sym (torn_whole w bs (none_of w bs some is)))
torn_counted w (suc n) bs more some is =
    let first = first_of w bs (long_of n w bs is) in
    let rest = drop w bs in
    let whole : bs ≡ take w bs ++ rest = sym (take-append-drop w bs) in
    ap (torn_of w) (sym (in_parts w bs more))
    ∙ torn_then w (take w bs) (rest ++ more) some first
    ∙ torn_counted w n rest more some (left_of n w bs some is)
    ∙ ap (λ (v : List ℕ). torn_of w (v ++ more)) (sym (ap (torn_of w) whole ∙ torn_then w (take w bs) rest some first))

pub cells_more : {X : Type 0} (w : ℕ) (cell : List ℕ → X) (bs more : List ℕ) → 0 < w → cells_of w cell (bs ++ more) ≡ cells_of w cell bs ++ cells_of w cell (torn_of w bs ++ more)
cells_more w cell bs more some = cells_counted w cell (length bs / w) bs more some refl

pub torn_more : (w : ℕ) (bs more : List ℕ) → 0 < w → torn_of w (bs ++ more) ≡ torn_of w (torn_of w bs ++ more)
torn_more w bs more some = torn_counted w (length bs / w) bs more some refl

-- ---- one cell more is taken from the front

pub take_cell : {X : Type 0} (w : ℕ) (cell : List ℕ → X) (front all : List X) (x : X) (bs first after : List ℕ) → 0 < w → w ≤ length bs → first ≡ take w bs → after ≡ drop w bs → x ≡ cell first
    → front ++ cells_of w cell bs ≡ all → (front ++ x ∷ []) ++ cells_of w cell after ≡ all
take_cell {X} w cell front all x bs first after some long first_is after_is x_is so_far =
    append_assoc front (x ∷ []) (cells_of w cell after)
    ∙ ap (λ (v : X). front ++ v ∷ cells_of w cell after) (x_is ∙ ap cell first_is)
    ∙ ap (λ (v : List ℕ). front ++ cell (take w bs) ∷ cells_of w cell v) after_is
    ∙ ap (λ (v : List X). front ++ v) (sym (ap (cells_of w cell) (sym (take-append-drop w bs)) ∙ cells_then w cell (take w bs) (drop w bs) some (first_of w bs long)))
    ∙ so_far

pub take_torn : (w : ℕ) (bs after all : List ℕ) → 0 < w → w ≤ length bs → after ≡ drop w bs → torn_of w bs ≡ all → torn_of w after ≡ all
take_torn w bs after all some long after_is so_far =
    ap (torn_of w) after_is ∙ sym (ap (torn_of w) (sym (take-append-drop w bs)) ∙ torn_then w (take w bs) (drop w bs) some (first_of w bs long)) ∙ so_far

pub take_count : (w : ℕ) (bs after : List ℕ) → 0 < w → w ≤ length bs → after ≡ drop w bs → length bs / w ≡ suc (length after / w)
take_count w bs after some long after_is = grind (arith, length-drop)

-- ---- a cell that isn't whole is completed from the next piece

pub filled_whole : (w : ℕ) (t t1 p rest : List ℕ) → t1 ≡ t ++ take (w - length t) p → rest ≡ drop (w - length t) p → t1 ++ rest ≡ t ++ p
filled_whole w t t1 p rest t1_is rest_is = grind (arith, append_assoc, take-append-drop)

pub filled_long : (w : ℕ) (t t1 p : List ℕ) → length t ≤ w → t1 ≡ t ++ take (w - length t) p → w ≤ length t1 → length t1 ≡ w
filled_long w t t1 p within t1_is long = grind (arith, length-append, length-take)

pub filled_short : (w : ℕ) (t t1 p : List ℕ) → t1 ≡ t ++ take (w - length t) p → length t1 < w → t1 ≡ t ++ p
filled_short w t t1 p t1_is short = grind (arith, take_all, length-append, length-take)

-- how far it is taken before the whole cells of the rest
pub record Completed {X : Type 0} (w : ℕ) (cell : List ℕ → X) (before now : List X) (torn piece torn_now rest : List ℕ) : Type 0 where
  pub none : torn_now ≡ []
  pub cells : now ++ cells_of w cell rest ≡ before ++ cells_of w cell (torn ++ piece)
  pub left : torn_of w rest ≡ torn_of w (torn ++ piece)

pub completed_empty : {X : Type 0} (w : ℕ) (cell : List ℕ → X) (before now : List X) (torn piece torn_now rest : List ℕ) → length torn ≤ 0 → torn_now ≡ torn → now ≡ before → rest ≡ piece → Completed w cell before now torn piece torn_now rest
completed_empty {X} w cell before now (t ∷ ts) piece torn_now rest empty torn_is now_is rest_is = absurd (let f : suc (length ts) ≤ 0 = empty in omega (arith, f))
completed_empty {X} w cell before now [] piece torn_now rest empty torn_is now_is rest_is = grind arith

pub completed_cell : {X : Type 0} (w : ℕ) (cell : List ℕ → X) (before now : List X) (x : X) (torn piece torn1 torn_now rest : List ℕ) → 0 < w → length torn ≤ w
    → torn1 ≡ torn ++ take (w - length torn) piece → rest ≡ drop (w - length torn) piece → w ≤ length torn1 → x ≡ cell torn1 → now ≡ before ++ x ∷ [] → torn_now ≡ []
    → Completed w cell before now torn piece torn_now rest
completed_cell {X} w cell before now x torn piece torn1 torn_now rest some within torn1_is rest_is long x_is now_is none_is =
    let whole = filled_long w torn torn1 piece within torn1_is long in
    let parts = filled_whole w torn torn1 piece rest torn1_is rest_is in
    record {
      none = none_is;
      cells = grind (arith, append_assoc, cells_then);
      left = sym (torn_then w torn1 rest some whole) ∙ ap (torn_of w) parts;
    }

-- ---- a text goes on

pub stands_more : {X : Type 0} (w : ℕ) (cell : List ℕ → X) (bytes piece : List ℕ) (cells cells1 : List X) (torn torn1 : List ℕ) → 0 < w
    → cells1 ≡ cells ++ cells_of w cell (torn ++ piece) → torn1 ≡ torn_of w (torn ++ piece) → StandsFor w cell bytes cells torn → StandsFor w cell (bytes ++ piece) cells1 torn1
stands_more {X} w cell bytes piece cells cells1 torn torn1 some cells_are torn_is s = grind (arith, cells_more, torn_more)

-- a text of bytes that goes on by bytes
pub IsBytes-append : (bs more : List ℕ) → IsBytes bs → IsBytes more → IsBytes (bs ++ more)
IsBytes-append [] more h m i = m i
IsBytes-append (b ∷ bs) more h m zero = h 0
IsBytes-append (b ∷ bs) more h m (suc i) = IsBytes-append bs more (IsBytes-rest b bs h) m i

-- ---- the cells that came whole, and those that the rest of a piece makes whole

torn_left : (w : ℕ) (bs : List ℕ) → length bs / w * w + length (torn_of w bs) ≡ length bs
torn_left w bs = omega (arith, length-drop (length bs / w * w) bs, div-mul-le_self (length bs) w)

pub room_left : (w n : ℕ) (torn mine torn1 : List ℕ) → 0 < w → torn1 ≡ torn_of w (torn ++ mine) → (length torn + length mine) / w + (length torn1 + n) / w ≤ (length torn + (length mine + n)) / w
room_left w n torn mine torn1 some is = grind (arith, length-append, torn_left, le-div)
