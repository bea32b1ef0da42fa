-- A loop that puts a text for each item to the file that is being written.
use Rattle.std.proofs.Common.{◌≡◌, ℕ, ◌+◌, ◌<◌, ◌≤◌, true, List, length, take, slice_get, Some, Ok, Err, sym, ◌∙◌, ap, arith}
use Rattle.std.specs.Bool.{⊤}
use Rattle.std.specs.List.{flat_map, range_with_len}
use Rattle.std.proofs.lemmas.List.FromFn.{length-range_with_len, get_or-range_with_len}
use Rattle.std.proofs.lemmas.Option.{get_or_from_slice_get, slice_get-get_or, slice_get_within}
use Rattle.host_port.specs.Outside.{Outside}
use Rattle.host_port.specs.Buffered.{Adds}
use Rattle.host_port.specs.declared.host.Failed.{Failed}
use Rattle.host_port.specs.declared.side.Side.TheVariants.{File}
use Rattle.host_port.proofs.BufferLemmas.{adds_nothing, adds_more, adds_stop, adds_all, adds_ready}

-- the texts of the first i items are put, and the file is still being written
pub record HasPut {X : Type 0} (f : X → List ℕ) (xs : List X) (i : ℕ) (p q : List ℕ) (x y : Outside) : Type 0 where
  pub put : Adds {E = Failed} File (flat_map f (take i xs)) p q x y (Ok (tt {0}))
  pub ready : y.is_writing ≡ true

pub put_none : {X : Type 0} {f : X → List ℕ} {xs : List X} {p : List ℕ} {x : Outside} → x.is_writing ≡ true → HasPut f xs 0 p p x x
put_none {X} {f} {xs} {p} {x} ready = record { put = adds_nothing File p x (tt {0}); ready = ready }

pub put_more : {X : Type 0} {f : X → List ℕ} {xs : List X} {i : ℕ} {item : X} {p q r : List ℕ} {x y z : Outside} → slice_get xs i ≡ Some item
    → HasPut f xs i p q x y → Adds {E = Failed} File (f item) q r y z (Ok (tt {0})) → HasPut f xs (i + 1) p r x z
put_more {X} {f} {xs} {i} {item} {p} {q} {r} {x} {y} {z} is so_far one = record {
  put = adds_more File f xs i item p q r x y z (tt {0}) (tt {0}) (slice_get_within xs i item is) (sym (get_or_from_slice_get xs i item item is)) so_far.put one;
  ready = adds_ready File (f item) q r y z (tt {0}) one so_far.ready;
}

-- putting the text of an item failed
pub put_stop : {X : Type 0} {f : X → List ℕ} {xs : List X} {i : ℕ} {item : X} {p q r : List ℕ} {x y z : Outside} {e : Failed} → slice_get xs i ≡ Some item
    → HasPut f xs i p q x y → Adds {T = ⊤} File (f item) q r y z (Err e) → Adds {T = ⊤} File (flat_map f xs) p r x z (Err e)
put_stop {X} {f} {xs} {i} {item} {p} {q} {r} {x} {y} {z} {e} is so_far one =
    adds_stop File f xs i item p q r x y z (tt {0}) e (slice_get_within xs i item is) (sym (get_or_from_slice_get xs i item item is)) so_far.put one

pub put_all : {X : Type 0} {f : X → List ℕ} {xs : List X} {i : ℕ} {p q : List ℕ} {x y : Outside} → length xs ≤ i → HasPut f xs i p q x y → Adds {E = Failed} File (flat_map f xs) p q x y (Ok (tt {0}))
put_all {X} {f} {xs} {i} {p} {q} {x} {y} le so_far = adds_all File f xs i p q x y (Ok (tt {0})) le so_far.put

-- number i of those from a on
pub counted : (a n i j : ℕ) → i < n → a + i ≡ j → slice_get (range_with_len a n) i ≡ Some j
counted a n i j below is =
    slice_get-get_or (range_with_len a n) i j (omega (arith, below, length-range_with_len a n)) ∙ ap Some (get_or-range_with_len a n i j below ∙ is)

pub from_zero : (n i : ℕ) → i < n → slice_get (range_with_len 0 n) i ≡ Some i
from_zero n i below = counted 0 n i i below (omega arith)
