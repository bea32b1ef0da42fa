-- Bytes that are put to a side through what is pending, one after the other.
use Rattle.std.proofs.Common.{◌≡◌, ℕ, ◌+◌, ◌<◌, ◌≤◌, List, [], ◌∷◌, ◌++◌, length, take, drop, get_or, Result, Ok, Err, refl, sym, ap, subst, ◌∙◌, arith, length-append, append_assoc}
use Rattle.std.proofs.Math.Seq.{take-append-add}
use Rattle.std.proofs.lemmas.List.{take-append-le, append-nil, take_all, take_more, take-append-drop}
use Rattle.std.specs.List.{flat_map}
use Rattle.std.proofs.lemmas.List.Concat.{flat_map-append}
use Rattle.host_port.specs.Outside.{Outside, Did}
use Rattle.host_port.specs.Host.{act_of, Puts}
use Rattle.host_port.specs.declared.side.Side.{Side}
use Rattle.host_port.specs.Buffered.{Adds, IsReady}
use Rattle.host_port.proofs.Laws.{KeepsInput-same, KeepsInput-then}
use Rattle.host_port.proofs.Piecewise.{Did-join, Did-none}
use Rattle.host_port.proofs.SideLemmas.{side_piecewise, counts_same, counts_then, still_ready}

-- bytes stay pending
pub adds_kept : {T E : Type 0} (side : Side) (bytes before after : List ℕ) (x : Outside) (u : T) → after ≡ before ++ bytes → Adds {T = T} {E = E} side bytes before after x x (Ok u)
adds_kept {T} {E} side bytes before after x u is = record {
  went = ([], sym is, Did-none (act_of side) (side_piecewise side) x);
  part = tt;
  emptied = tt;
  input = KeepsInput-same x;
  counts = counts_same T E side x u;
  last = λ _. refl;
}

-- nothing was put
pub adds_nothing : {T E : Type 0} (side : Side) (pending : List ℕ) (x : Outside) (u : T) → Adds {T = T} {E = E} side [] pending pending x x (Ok u)
adds_nothing {T} {E} side pending x u = adds_kept {T = T} {E = E} side [] pending pending x u (sym (append-nil pending))

pending_then : (a b p q r gone more : List ℕ) → p ++ a ≡ gone ++ q → q ++ b ≡ more ++ r → p ++ (a ++ b) ≡ (gone ++ more) ++ r
pending_then a b p q r gone more first second = grind (arith, append_assoc)

part_then : (a b p q gone : List ℕ) (n : ℕ) → p ++ a ≡ gone ++ q → take (length gone + n) (p ++ (a ++ b)) ≡ gone ++ take n (q ++ b)
part_then a b p q gone n first = grind (arith, append_assoc, take-append-add)

part_below : (a b p q gone : List ℕ) (n : ℕ) → p ++ a ≡ gone ++ q → n < length (q ++ b) → length gone + n < length (p ++ (a ++ b))
part_below a b p q gone n first below =
    omega (arith, ap length first, length-append p a, length-append gone q, length-append q b, length-append p (a ++ b), length-append a b)

-- bytes, and then others, which may fail
pub adds_then : {T E : Type 0} (side : Side) (a b p q r : List ℕ) (x y z : Outside) (u : T) (result : Result T E) → Adds {T = T} {E = E} side a p q x y (Ok u) → Adds side b q r y z result → Adds side (a ++ b) p r x z result
adds_then {T} {E} side a b p q r x y z u (Ok v) first second = record {
  went = (
    first.went.0 ++ second.went.0,
    pending_then a b p q r first.went.0 second.went.0 first.went.1 second.went.1,
    Did-join (act_of side) (side_piecewise side) first.went.0 second.went.0 x y z first.went.2 second.went.2,
  );
  part = tt;
  emptied = tt;
  input = KeepsInput-then x y z first.input second.input;
  counts = counts_then {T = T} {E = E} side x y z u (Ok v) first.counts second.counts;
  last = λ is. second.last is ∙ first.last is;
}
adds_then {T} {E} side a b p q r x y z u (Err e) first second =
    let gone = first.went.0 in
    let n = second.part.0 in
    record {
      went = tt;
      part = (
        length gone + n,
        part_below a b p q gone n first.went.1 second.part.1,
        subst (λ (v : List ℕ). Did (act_of side v ∷ []) x z) (sym (part_then a b p q gone n first.went.1))
            (Did-join (act_of side) (side_piecewise side) gone (take n (q ++ b)) x y z first.went.2 second.part.2),
      );
      emptied = second.emptied;
      input = KeepsInput-then x y z first.input second.input;
      counts = counts_then {T = T} {E = E} side x y z u (Err e) first.counts second.counts;
      last = λ is. second.last is ∙ first.last is;
    }

-- what failed within a prefix failed within the whole
pub adds_front : {T E : Type 0} (side : Side) (a b p q : List ℕ) (x y : Outside) (e : E) → Adds {T = T} side a p q x y (Err e) → Adds {T = T} side (a ++ b) p q x y (Err e)
adds_front {T} {E} side a b p q x y e first = grind (arith, append_assoc, take-append-le, length-append)

-- where nothing is pending before and after, the bytes went to the side
pub adds_puts : {T E : Type 0} (side : Side) (text : List ℕ) (x y : Outside) (result : Result T E) (after : List ℕ) → after ≡ [] → Adds side text [] after x y result → Puts side text x y result
adds_puts {T} {E} side text x y (Ok u) after none adds = grind (arith, append-nil)
adds_puts {T} {E} side text x y (Err e) after none adds = record { takes = record { done = tt; part = adds.part; input = adds.input }; counts = adds.counts; last = adds.last }

-- what went to the side at once was put behind nothing
pub puts_adds : {T E : Type 0} (side : Side) (text : List ℕ) (x y : Outside) (result : Result T E) → Puts side text x y result → Adds side text [] [] x y result
puts_adds {T} {E} side text x y (Ok u) puts = record { went = (text, sym (append-nil text), puts.takes.done); part = tt; emptied = tt; input = puts.takes.input; counts = puts.counts; last = puts.last }
puts_adds {T} {E} side text x y (Err e) puts = record { went = tt; part = puts.takes.part; emptied = refl; input = puts.takes.input; counts = puts.counts; last = puts.last }

-- ---- a loop over items, each with a text of its own

-- the text of the items up to one more
pub one_more : {X : Type 0} (f : X → List ℕ) (xs : List X) (i : ℕ) (item : X) → i < length xs → item ≡ get_or xs i item → flat_map f (take (i + 1) xs) ≡ flat_map f (take i xs) ++ f item
one_more {X} f xs i item lt is =
    ap (flat_map f) (take_more xs i item lt ∙ ap (λ (x : X). take i xs ++ x ∷ []) (sym is))
    ∙ flat_map-append f (take i xs) (item ∷ []) ∙ ap (λ (t : List ℕ). flat_map f (take i xs) ++ t) (append-nil (f item))

pub adds_more : {X T E : Type 0} (side : Side) (f : X → List ℕ) (xs : List X) (i : ℕ) (item : X) (p q r : List ℕ) (a b c : Outside) (u v : T) → i < length xs → item ≡ get_or xs i item
    → Adds {T = T} {E = E} side (flat_map f (take i xs)) p q a b (Ok u) → Adds {T = T} {E = E} side (f item) q r b c (Ok v) → Adds {T = T} {E = E} side (flat_map f (take (i + 1) xs)) p r a c (Ok v)
adds_more {X} {T} {E} side f xs i item p q r a b c u v lt is so_far one =
    subst (λ (t : List ℕ). Adds {T = T} {E = E} side t p r a c (Ok v)) (sym (one_more f xs i item lt is)) (adds_then side (flat_map f (take i xs)) (f item) p q r a b c u (Ok v) so_far one)

pub adds_stop : {X T E : Type 0} (side : Side) (f : X → List ℕ) (xs : List X) (i : ℕ) (item : X) (p q r : List ℕ) (a b c : Outside) (u : T) (e : E) → i < length xs → item ≡ get_or xs i item
    → Adds {T = T} {E = E} side (flat_map f (take i xs)) p q a b (Ok u) → Adds {T = T} {E = E} side (f item) q r b c (Err e) → Adds {T = T} {E = E} side (flat_map f xs) p r a c (Err e)
adds_stop {X} {T} {E} side f xs i item p q r a b c u e lt is so_far one =
    let rest = flat_map f (drop (i + 1) xs) in
    let whole : flat_map f (take (i + 1) xs) ++ rest ≡ flat_map f xs = sym (flat_map-append f (take (i + 1) xs) (drop (i + 1) xs)) ∙ ap (flat_map f) (take-append-drop (i + 1) xs) in
    let front : Adds {T = T} side (flat_map f (take (i + 1) xs)) p r a c (Err e) =
    subst (λ (t : List ℕ). Adds {T = T} side t p r a c (Err e)) (sym (one_more f xs i item lt is)) (adds_then side (flat_map f (take i xs)) (f item) p q r a b c u (Err e) so_far one) in
    subst (λ (t : List ℕ). Adds {T = T} side t p r a c (Err e)) whole (adds_front side (flat_map f (take (i + 1) xs)) rest p r a c e front)

pub adds_all : {X T E : Type 0} (side : Side) (f : X → List ℕ) (xs : List X) (i : ℕ) (p q : List ℕ) (a b : Outside) (r : Result T E) → length xs ≤ i → Adds side (flat_map f (take i xs)) p q a b r → Adds side (flat_map f xs) p q a b r
adds_all side f xs i p q a b r le so_far = subst (λ (t : List ℕ). Adds side t p q a b r) (ap (flat_map f) (take_all i xs le)) so_far

-- what was pending went out, and then bytes at once
pub adds_flushed : {T E : Type 0} (side : Side) (bytes p q : List ℕ) (x y z : Outside) (u : T) (r : Result T E) → q ≡ [] → Adds {T = T} {E = E} side [] p q x y (Ok u) → Puts side bytes y z r → Adds side bytes p q x z r
adds_flushed {T} {E} side bytes p q x y z u r none first second =
    subst (λ (v : List ℕ). Adds side bytes p v x z r) (sym none)
    (adds_then side [] bytes p [] [] x y z u r (subst (λ (v : List ℕ). Adds {T = T} {E = E} side [] p v x y (Ok u)) none first) (puts_adds side bytes y z r second))

-- a text was put where nothing was pending, and then what was pending went out
pub flushed : {T E : Type 0} (side : Side) (text p q v : List ℕ) (x y z : Outside) (u : T) (r : Result T E) → p ≡ [] → v ≡ [] → Adds {T = T} {E = E} side text p q x y (Ok u) → Adds side [] q v y z r → Puts side text x z r
flushed {T} {E} side text p q v x y z u r start none put out =
    let all : Adds side text p v x z r = subst (λ (t : List ℕ). Adds side t p v x z r) (append-nil text) (adds_then side text [] p q v x y z u r put out) in
    adds_puts side text x z r v none (subst (λ (w : List ℕ). Adds side text w v x z r) start all)

-- a text was put where nothing was pending, and a call failed
pub stopped : {T E : Type 0} (side : Side) (text p q : List ℕ) (x y : Outside) (e : E) → p ≡ [] → Adds {T = T} side text p q x y (Err e) → Puts {T = T} side text x y (Err e)
stopped {T} {E} side text p q x y e start put = adds_puts {T = T} side text x y (Err e) q put.emptied (subst (λ (w : List ℕ). Adds {T = T} side text w q x y (Err e)) start put)

-- ---- a loop over an iterator, each item with a text of its own

pub adds_item : {X T E : Type 0} (side : Side) (f : X → List ℕ) (items : List X) (item : X) (p q r : List ℕ) (x y z : Outside) (u v : T)
    → Adds {T = T} {E = E} side (flat_map f items) p q x y (Ok u) → Adds {T = T} {E = E} side (f item) q r y z (Ok v) → Adds {T = T} {E = E} side (flat_map f (items ++ item ∷ [])) p r x z (Ok v)
adds_item {X} {T} {E} side f items item p q r x y z u v so_far one = search (append-nil, flat_map-append, adds_then)

pub adds_until : {X T E : Type 0} (side : Side) (f : X → List ℕ) (items : List X) (item : X) (rest all : List X) (p q r : List ℕ) (x y z : Outside) (u : T) (e : E) → items ++ item ∷ rest ≡ all
    → Adds {T = T} {E = E} side (flat_map f items) p q x y (Ok u) → Adds {T = T} {E = E} side (f item) q r y z (Err e) → Adds {T = T} {E = E} side (flat_map f all) p r x z (Err e)
adds_until {X} {T} {E} side f items item rest all p q r x y z u e is so_far one =
    let text : flat_map f items ++ (f item ++ flat_map f rest) ≡ flat_map f all = sym (flat_map-append f items (item ∷ rest)) ∙ ap (flat_map f) is in
    subst (λ (t : List ℕ). Adds {T = T} {E = E} side t p r x z (Err e)) text
    (adds_then side (flat_map f items) (f item ++ flat_map f rest) p q r x y z u (Err e) so_far (adds_front side (f item) (flat_map f rest) q r y z e one))

-- a side to which bytes were put is as ready as before
pub adds_ready : {T E : Type 0} (side : Side) (bytes p q : List ℕ) (x y : Outside) (u : T) → Adds {T = T} {E = E} side bytes p q x y (Ok u) → IsReady side x → IsReady side y
adds_ready side bytes p q x y u adds ready = still_ready side adds.went.0 x y adds.went.2 ready
