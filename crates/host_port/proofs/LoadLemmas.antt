-- Reading a file piece by piece.
use Rattle.std.proofs.Common.{◌≡◌, ℕ, ◌+◌, ◌<◌, ◌≤◌, Bool, true, false, ◌&&◌, List, [], ◌++◌, length, take, drop, length-append, append_assoc, Option, Some, None, Ok, Err, refl, sym, ap, subst, ◌∙◌, arith}
use Rattle.std.specs.Prelude.{is_some, IfSome}
use Rattle.std.proofs.lemmas.List.{append-nil, take-append-drop}
use Rattle.host_port.specs.Act.{Disk, file_content}
use Rattle.host_port.specs.Outside.{Outside, IsConsistent, Becomes, Did, KeepsCounts, Rose, with_openings}
use Rattle.host_port.specs.Host.{Came, Moves, Opens, Reads}
use Rattle.host_port.specs.Load.{IsContent, IsRefused}
use Rattle.host_port.specs.declared.host.Failed.{Failed}
use Rattle.host_port.specs.declared.whole_file.LoadRefusal.TheVariants.{ReadFault, TooLarge, OutOfMemory}
use Rattle.host_port.proofs.Laws.{Did-then}

-- the bytes so far and what is left of the input are the whole file, as far as it is told
abbrev pub Joins : List ℕ → List ℕ → Option Disk → Option (List ℕ) → Type 0
Joins name bytes disk rest = IfSome disk (λ d. IfSome rest (λ r. bytes ++ r ≡ file_content name d.files))

-- how far a load has come
pub record Loading (name : List ℕ) (limit : ℕ) (bytes : List ℕ) (old now : Outside) : Type 0 where
  pub did : Did [] (with_openings 1 old) now
  pub counts : KeepsCounts old now
  pub is_open : now.is_open ≡ true
  pub going : now.at_end ≡ false
  pub within : length bytes ≤ limit
  pub joins : Joins name bytes now.disk now.rest

same_some : {A : Type 0} (x y : A) → Some x ≡ Some y → x ≡ y
same_some x y e = cc

-- ---- what the file is, by what is left of it

-- as many bytes are left as weren't taken
all_left : (name bytes : List ℕ) (bound : ℕ) (d : Option Disk) (r : Option (List ℕ)) → Joins name bytes d r → length bytes ≤ bound → IfSome d (λ d. IfSome r (λ rest. length (file_content name d.files) ≤ bound + length rest))
all_left name bytes bound None r joins few = tt
all_left name bytes bound (Some d) None joins few = tt
all_left name bytes bound (Some d) (Some r) joins few = let whole = ap length joins in omega (arith, whole, length-append bytes r, few)

longer : (name bytes : List ℕ) (limit : ℕ) (d : Option Disk) (r : Option (List ℕ)) → is_some r ≡ is_some d → Joins name bytes d r → limit < length bytes → IfSome d (λ d. limit < length (file_content name d.files))
longer name bytes limit None r told joins long = tt
longer name bytes limit (Some d) None told joins long = absurd cc
longer name bytes limit (Some d) (Some r) told joins long = let whole = ap length joins in omega (arith, whole, length-append bytes r, long)

all_taken : (name bytes : List ℕ) (d : Option Disk) (r : Option (List ℕ)) → is_some r ≡ is_some d → Joins name bytes d r → IfSome r (λ rest. rest ≡ []) → IfSome d (λ d. bytes ≡ file_content name d.files)
all_taken name bytes None r told joins none = tt
all_taken name bytes (Some d) None told joins none = absurd cc
all_taken name bytes (Some d) (Some r) told joins none = sym (append-nil bytes) ∙ ap (λ (v : List ℕ). bytes ++ v) (sym none) ∙ joins

none_told : (P : Disk → List ℕ → Type 0) (d : Option Disk) (r : Option (List ℕ)) → is_some r ≡ false → IfSome d (λ d. IfSome r (P d))
none_told P None r none = tt
none_told P (Some d) None none = tt
none_told P (Some d) (Some r) none = absurd cc

-- ---- one call more that reads

joins_kept : (name bytes : List ℕ) (d0 d1 : Option Disk) (r0 r1 : Option (List ℕ)) → Becomes (λ d. d) d0 d1 → Becomes (λ r. r) r0 r1 → Joins name bytes d0 r0 → Joins name bytes d1 r1
joins_kept name bytes d0 None r0 r1 disk rest joins = tt
joins_kept name bytes d0 (Some d) r0 None disk rest joins = tt
joins_kept name bytes None (Some d) r0 (Some r) disk rest joins = absurd cc
joins_kept name bytes (Some d') (Some d) None (Some r) disk rest joins = absurd cc
joins_kept name bytes (Some d') (Some d) (Some r') (Some r) disk rest joins = search same_some

joins_more : (name bytes buf : List ℕ) (n : ℕ) (d0 d1 : Option Disk) (r0 r1 : Option (List ℕ)) → Becomes (λ d. d) d0 d1 → Becomes (drop n) r0 r1 → IfSome r0 (λ rest. Came n rest buf) → Joins name bytes d0 r0
    → Joins name (bytes ++ take n buf) d1 r1
joins_more name bytes buf n d0 None r0 r1 disk rest came joins = tt
joins_more name bytes buf n d0 (Some d) r0 None disk rest came joins = tt
joins_more name bytes buf n None (Some d) r0 (Some r) disk rest came joins = absurd cc
joins_more name bytes buf n (Some d') (Some d) None (Some r) disk rest came joins = absurd cc
joins_more name bytes buf n (Some d') (Some d) (Some r') (Some r) disk rest came joins = grind (arith, append_assoc, take-append-drop)

-- what has come to its end has nothing left
ended : (buf : List ℕ) (n : ℕ) (r0 r1 : Option (List ℕ)) → n ≡ 0 → Becomes (drop n) r0 r1 → IfSome r0 (λ rest. Came n rest buf) → IfSome r1 (λ rest. rest ≡ [])
ended buf n r0 None none rest came = tt
ended buf n None (Some r) none rest came = absurd cc
ended buf n (Some r') (Some r) none rest came = sym (same_some (drop n r') r rest) ∙ (λ i. drop (none i) (came.ended.0 none i))

-- a told file has its rest told
rest_told : (o : Outside) → IsConsistent o → o.is_open ≡ true → is_some o.rest ≡ is_some o.disk
rest_told o consistent still = consistent.rest ∙ ap (λ (b : Bool). b && is_some o.disk) still

-- ---- how reading goes on from there, or ends

always : (d : Option Disk) → IfSome d (λ _. Unit {0})
always None = tt
always (Some d) = tt

-- the input couldn't be opened
pub not_opened : {T : Type 0} (name : List ℕ) (limit : ℕ) (old new : Outside) (e : Failed) → Opens {T = T} name old new (Err e) → Reads {T = T} old new (Err e) → IsConsistent new → IsRefused name limit old new ReadFault
not_opened name limit old new e opens reads consistent = grind arith

-- the input is open, and nothing was taken
pub opened : {T : Type 0} (name : List ℕ) (limit : ℕ) (old new : Outside) (t : T) → Opens {E = Failed} name old new (Ok t) → Reads {E = Failed} old new (Ok t) → Loading name limit [] old new
opened name limit old new t opens reads = record {
  did = opens.nothing_done;
  counts = record { read = reads.own; write = reads.write; err = reads.err };
  is_open = opens.opened;
  going = opens.from_start;
  within = omega arith;
  joins = whole new.disk new.rest opens.rest;
}
  where
    whole : (d : Option Disk) (r : Option (List ℕ)) → IfSome d (λ d. r ≡ Some (file_content name d.files)) → Joins name [] d r
    whole None r is = tt
    whole (Some d) None is = tt
    whole (Some d) (Some r) is = same_some r (file_content name d.files) is

-- the next piece couldn't be read
pub not_moved : (name : List ℕ) (limit : ℕ) (bytes before buf : List ℕ) (old mid new : Outside) (e : Failed) → Loading name limit bytes old mid → Moves before buf mid new (Err e) → Reads {T = ℕ} mid new (Err e) → IsRefused name limit old new ReadFault
not_moved name limit bytes before buf old mid new e far moves reads =
    record {
      nothing_done = Did-then [] [] (with_openings 1 old) mid new far.did moves.nothing_done;
      answer = always new.disk;
      left = all_left name bytes limit new.disk new.rest (joins_kept name bytes mid.disk new.disk mid.rest new.rest moves.nothing_done.disk moves.rest far.joins) far.within;
      going = λ not. absurd (not refl);
      counts = (subst (λ (k : ℕ). Rose k new.read_faults) far.counts.read reads.own, reads.write ∙ far.counts.write, reads.err ∙ far.counts.err, reads.last);
    }

-- n bytes have come to the front of a buffer
module _ (name : List ℕ) (limit n : ℕ) (bytes before buf : List ℕ) (old mid new : Outside) (far : Loading name limit bytes old mid) (moves : Moves {E = Failed} before buf mid new (Ok n)) (reads : Reads {T = ℕ} {E = Failed} mid new (Ok n))
    (front : length (take n buf) ≡ n) (consistent : IsConsistent new) where
  did : Did [] (with_openings 1 old) new
  did = Did-then [] [] (with_openings 1 old) mid new far.did moves.nothing_done

  counts : KeepsCounts old new
  counts = record { read = reads.own ∙ far.counts.read; write = reads.write ∙ far.counts.write; err = reads.err ∙ far.counts.err }

  told : is_some new.rest ≡ is_some new.disk
  told = rest_told new consistent moves.still_open

  long : length (bytes ++ take n buf) ≡ length bytes + n
  long = omega (arith, front, length-append bytes (take n buf))

  joins : Joins name (bytes ++ take n buf) new.disk new.rest
  joins = joins_more name bytes buf n mid.disk new.disk mid.rest new.rest moves.nothing_done.disk moves.rest moves.came far.joins

  -- the file was read to its end
  pub all_read : n ≡ 0 → IsContent name limit old new bytes
  all_read none = grind (arith, append-nil, ended, did, all_taken, told)

  -- it is too large
  pub too_large : limit < length bytes + n → length bytes + n ≤ limit + 1 → new.at_end ≡ false → IsRefused name limit old new TooLarge
  too_large more few going = record {
    nothing_done = did;
    answer = longer name (bytes ++ take n buf) limit new.disk new.rest told joins (omega (arith, long, more));
    left = all_left name (bytes ++ take n buf) (limit + 1) new.disk new.rest joins (omega (arith, long, few));
    going = λ _. going;
    counts = counts;
  }

  -- there was no memory for the piece
  pub not_taken : length bytes + n ≤ limit → new.at_end ≡ false → IsRefused name limit old new OutOfMemory
  not_taken few going = record {
    nothing_done = did;
    answer = always new.disk;
    left = all_left name (bytes ++ take n buf) limit new.disk new.rest joins (omega (arith, long, few));
    going = λ _. going;
    counts = counts;
  }

  -- the piece was taken
  pub taken : length bytes + n ≤ limit → new.at_end ≡ false → Loading name limit (bytes ++ take n buf) old new
  taken few going = record { did = did; counts = counts; is_open = moves.still_open; going = going; within = omega (arith, long, few); joins = joins }
