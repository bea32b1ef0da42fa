-- The calls of the host over a system, as they change what it shows.
use Rattle.std.proofs.Common.{◌≡◌, ℕ, ◌<◌, ◌≤◌, Bool, true, false, List, [], ◌∷◌, ◌++◌, length, take, drop, Option, Some, None, Ok, Err, refl, sym, ap, subst, ◌∙◌, append_assoc, arith}
use Rattle.std.specs.Prelude.{◌==◌, option_map, is_some, IfSome, if◌then◌else◌, bytes_eq, ⊤}
use Rattle.std.proofs.lemmas.List.{append-nil}
use Rattle.host_port.specs.declared.host.Failed.{Failed}
use Rattle.host_port.specs.Act.{Create, Write, Disk, File, disk_after, files_with, with_more, next_count}
use Rattle.host_port.specs.Outside.{Becomes}
use Rattle.host_port.specs.Host.{Came, Moves, Creates, Takes}
use Rattle.host_port.proofs.Laws.{Did-nothing, Becomes-same}
use Rattle.system_host.specs.Seen.{Seen, disk_with, writes_with, outside_of}
use Rattle.system_host.specs.Told.{Gave, Took, told_by}
use Rattle.system_host.proofs.Told.{shown, Gives, Grows, gives, grows, keeps, came, left_of, where_told, still}

-- ---- bytes that are written one after the other

twice_at : (name first more : List ℕ) (file : File) (files : List File) (is_it : Bool) → bytes_eq file.0 name ≡ is_it → with_more name more (with_more name first files) ≡ with_more name (first ++ more) files
    → with_more name more (with_more name first (file ∷ files)) ≡ with_more name (first ++ more) (file ∷ files)
twice_at name first more file files true is rest = rw is (rw is (ap (λ (bytes : List ℕ). (file.0, bytes) ∷ files) (append_assoc file.1 first more)))
twice_at name first more file files false is rest = rw is (rw is (ap (λ (fs : List File). file ∷ fs) rest))

pub with_more-twice : (name first more : List ℕ) (files : List File) → with_more name more (with_more name first files) ≡ with_more name (first ++ more) files
with_more-twice name first more [] = refl
with_more-twice name first more (file ∷ files) = twice_at name first more file files (bytes_eq file.0 name) refl (with_more-twice name first more files)

none_at : (name : List ℕ) (file : File) (files : List File) (is_it : Bool) → bytes_eq file.0 name ≡ is_it → with_more name [] files ≡ files → with_more name [] (file ∷ files) ≡ file ∷ files
none_at name file files true is rest = rw is (ap (λ (bytes : List ℕ). (file.0, bytes) ∷ files) (append-nil file.1))
none_at name file files false is rest = rw is (ap (λ (fs : List File). file ∷ fs) rest)

pub with_more-none : (name : List ℕ) (files : List File) → with_more name [] files ≡ files
with_more-none name [] = refl
with_more-none name (file ∷ files) = none_at name file files (bytes_eq file.0 name) refl (with_more-none name files)

written-twice : (first more : List ℕ) (writing : Option (List ℕ)) (files : List File) → files_with more writing (files_with first writing files) ≡ files_with (first ++ more) writing files
written-twice first more None files = refl
written-twice first more (Some name) files = with_more-twice name first more files

-- the open output holds more bytes
grown : (disk : Option Disk) (old new : Option (List ℕ)) (bytes : List ℕ) → is_some new ≡ is_some old → writes_with old disk ≡ true → IfSome disk (λ _. Grows old new bytes)
    → Becomes (disk_after (Write bytes ∷ [])) (option_map (disk_with old) disk) (option_map (disk_with new) disk)
grown None old new bytes same writes told = tt
grown (Some d) None new bytes same writes told = absurd cc
grown (Some d) (Some held) None bytes same writes told = absurd cc
grown (Some d) (Some held) (Some now) bytes same writes told = grind (arith, written-twice)

still_writes : (disk : Option Disk) (old new : Option (List ℕ)) → is_some new ≡ is_some old → writes_with new disk ≡ writes_with old disk
still_writes None old new same = same
still_writes (Some d) None None same = refl
still_writes (Some d) None (Some now) same = absurd cc
still_writes (Some d) (Some held) None same = absurd cc
still_writes (Some d) (Some held) (Some now) same = refl

-- ---- a call that writes

takes : (piece : List ℕ) (s : Seen) (output : Option (List ℕ)) (faults n : ℕ) (last : Bool) → 1 ≤ n → n ≤ length piece → is_some output ≡ is_some s.output → writes_with s.output s.disk ≡ true
    → IfSome s.disk (λ _. Grows s.output output (take n piece))
    → Takes {E = Failed} (λ bytes. Write bytes) piece (outside_of s) (outside_of (record s { output = output; write_faults = faults; last_failed = last })) (Ok n)
takes piece s output faults n last some fits same writes told =
    let nothing = Did-nothing (outside_of s) in
    record {
      done = record {
        disk = grown s.disk s.output output (take n piece) same writes told;
        out = nothing.out;
        err = nothing.err;
        writing = still_writes s.disk s.output output same;
        file_changes = refl;
        opened = refl;
      };
      some = some;
      fits = fits;
      failed = tt;
      input = record { open_stays = refl; end_stays = refl; rest_stays = Becomes-same (outside_of s).rest };
    }

open_output : (output : Option (List ℕ)) (disk : Option Disk) → writes_with output disk ≡ true → is_some output ≡ true
open_output output None is = is
open_output None (Some d) is = absurd cc
open_output (Some held) (Some d) is = refl

-- the files are told no more
takes_none : (piece : List ℕ) (s : Seen) (output : Option (List ℕ)) (faults : ℕ) (last : Bool) (failed : Failed) → is_some output ≡ is_some s.output → writes_with s.output s.disk ≡ true
    → Takes {E = Failed} (λ bytes. Write bytes) piece (outside_of s) (outside_of (record s { disk = None; output = output; write_faults = faults; last_failed = last })) (Err failed)
takes_none piece s output faults last failed same writes =
    let nothing = Did-nothing (outside_of s) in
    record {
      done = tt;
      some = tt;
      fits = tt;
      failed = record {
        disk = tt;
        out = nothing.out;
        err = nothing.err;
        writing = same ∙ open_output s.output s.disk writes ∙ sym writes;
        file_changes = refl;
        opened = refl;
      };
      input = record { open_stays = refl; end_stays = refl; rest_stays = tt };
    }

-- ---- a call that reads

moved_bytes : (disk : Option Disk) (old new : Option (List ℕ)) (buf : List ℕ) (n : ℕ) → n ≤ length buf → 0 < length buf → is_some new ≡ is_some old → IfSome disk (λ _. Gives old new buf n)
    → IfSome (if is_some disk then old else None) (λ rest. Came n rest buf)
moved_bytes None old new buf n fits room same told = tt
moved_bytes (Some d) None new buf n fits room same told = tt
moved_bytes (Some d) (Some rest) None buf n fits room same told = absurd told
moved_bytes (Some d) (Some rest) (Some left) buf n fits room same told = came buf rest left n fits room told.0 told.1

moved_rest : (disk : Option Disk) (old new : Option (List ℕ)) (buf : List ℕ) (n : ℕ) → n ≤ length buf → is_some new ≡ is_some old → IfSome disk (λ _. Gives old new buf n)
    → Becomes (drop n) (if is_some disk then old else None) (if is_some disk then new else None)
moved_rest None old new buf n fits same told = tt
moved_rest (Some d) old None buf n fits same told = tt
moved_rest (Some d) None (Some left) buf n fits same told = absurd cc
moved_rest (Some d) (Some rest) (Some left) buf n fits same told = ap (λ (bytes : List ℕ). Some bytes) (left_of buf rest left n fits told.0)

moves : (before after : List ℕ) (s : Seen) (input : Option (List ℕ)) (at_end : Bool) (faults n : ℕ) (last : Bool) → at_end ≡ (n == 0) → length after ≡ length before → n ≤ length after → 0 < length before → is_some s.input ≡ true → is_some input ≡ is_some s.input
    → IfSome s.disk (λ _. Gives s.input input after n)
    → Moves {E = Failed} before after (outside_of s) (outside_of (record s { input = input; at_end = at_end; read_faults = faults; last_failed = last })) (Ok n)
moves before after s input at_end faults n last ends len fits room is_open same told =
    let nothing = Did-nothing (outside_of s) in
    record {
      nothing_done = record { disk = nothing.disk; out = nothing.out; err = nothing.err; writing = refl; file_changes = refl; opened = refl };
      still_open = same ∙ is_open;
      at_end = ends;
      fits = omega (arith, len, fits);
      came = moved_bytes s.disk s.input input after n fits (omega (arith, len, room)) same told;
      rest = moved_rest s.disk s.input input after n fits same told;
    }

kept_rest : (disk : Option Disk) (old new : Option (List ℕ)) → IfSome disk (λ _. new ≡ old) → Becomes (λ rest. rest) (if is_some disk then old else None) (if is_some disk then new else None)
kept_rest None old new told = tt
kept_rest (Some d) old new told = subst (Becomes (λ rest. rest) old) (sym told) (Becomes-same old)

moves_none : (before after : List ℕ) (s : Seen) (input : Option (List ℕ)) (faults : ℕ) (last : Bool) (failed : Failed) → IfSome s.disk (λ _. input ≡ s.input)
    → Moves {E = Failed} before after (outside_of s) (outside_of (record s { input = input; read_faults = faults; last_failed = last })) (Err failed)
moves_none before after s input faults last failed told =
    let nothing = Did-nothing (outside_of s) in
    record {
      nothing_done = record { disk = nothing.disk; out = nothing.out; err = nothing.err; writing = refl; file_changes = refl; opened = refl };
      still_open = tt;
      at_end = refl;
      fits = tt;
      came = tt;
      rest = kept_rest s.disk s.input input told;
    }

-- ---- a call that creates a file

created : (name : List ℕ) (disk now : Option Disk) (output : Option (List ℕ)) (bytes : List ℕ) → writes_with output disk ≡ false → Becomes (disk_after (Create name ∷ [])) disk now → IfSome now (λ _. bytes ≡ [])
    → Becomes (disk_after (Create name ∷ [])) (option_map (disk_with output) disk) (option_map (disk_with (Some bytes)) now)
created name disk None output bytes none is empty = tt
created name None (Some n) output bytes none is empty = absurd cc
created name (Some d) (Some n) output bytes none is empty = grind (arith, with_more-none)

begins : (name : List ℕ) (disk now : Option Disk) (bytes : List ℕ) → Becomes (disk_after (Create name ∷ [])) disk now → writes_with (Some bytes) now ≡ true
begins name disk None bytes is = refl
begins name None (Some n) bytes is = absurd cc
begins name (Some d) (Some n) bytes is = ap (writes_with (Some bytes)) (sym is)

creates : (name : List ℕ) (s : Seen) (disk : Option Disk) (out err : Option (List ℕ)) (bytes : List ℕ) (changes : ℕ) (last : Bool) → writes_with s.output s.disk ≡ false
    → Becomes (disk_after (Create name ∷ [])) s.disk disk → IfSome disk (λ _. bytes ≡ []) → out ≡ s.out → err ≡ s.err → changes ≡ next_count s.file_changes
    → Creates {T = ⊤} {E = Failed} name (outside_of s) (outside_of (record s { disk = disk; out = out; err = err; input = None; output = Some bytes; file_changes = changes; last_failed = last })) (Ok tt)
creates name s disk out err bytes changes last none is empty same_out same_err counted =
    let nothing = Did-nothing (outside_of s) in
    record {
      done = record {
        disk = created name s.disk disk s.output bytes none is empty;
        out = subst (λ (o : Option (List ℕ)). Becomes (λ b. b ++ []) s.out o) (sym same_out) nothing.out;
        err = subst (λ (o : Option (List ℕ)). Becomes (λ b. b ++ []) s.err o) (sym same_err) nothing.err;
        writing = begins name s.disk disk bytes is;
        file_changes = counted;
        opened = refl;
      };
      failed = tt;
      closed_input = refl;
    }

-- ---- the calls at what the host shows, where its system tells of its files as it tells of the one that is open

pub moves_seen : {T : Type 0} {s v : Seen} (tells : T → Option (List ℕ)) (old new : Option T) (before after : List ℕ) (at_end : Bool) (faults n : ℕ) (last : Bool) → s ≡ v → s.input ≡ shown tells old → ((t : T) → is_some s.disk ≡ true → is_some (tells t) ≡ true)
    → is_some new ≡ is_some old → Gave (told_by tells old) (told_by tells new) after (Some n) → at_end ≡ (n == 0) → length after ≡ length before → n ≤ length after → 0 < length before → (outside_of v).is_open ≡ true
    → Moves {E = Failed} before after (outside_of v) (outside_of (record s { input = shown tells new; at_end = at_end; read_faults = faults; last_failed = last })) (Ok n)
moves_seen {s = s} tells old new before after at_end faults n last is_seen input_is law same gave ends len fits room is_open =
    let open_before : is_some s.input ≡ true = ap (λ (m : Seen). is_some m.input) is_seen ∙ is_open in
    let still_open : is_some (shown tells new) ≡ is_some s.input = still tells old new same ∙ ap (λ (i : Option (List ℕ)). is_some i) (sym input_is) in
    let told = where_told s.disk (Gives s.input (shown tells new) after n) (λ is. subst (λ (i : Option (List ℕ)). Gives i (shown tells new) after n) (sym input_is) (gives tells (is_some s.disk) old new after n law is same gave)) in
    rw (sym is_seen) (moves before after s (shown tells new) at_end faults n last ends len fits room open_before still_open told)

pub moves_none_seen : {T : Type 0} {s v : Seen} (tells : T → Option (List ℕ)) (old new : Option T) (before after : List ℕ) (faults : ℕ) (last : Bool) (failed : Failed) → s ≡ v → s.input ≡ shown tells old → ((t : T) → is_some s.disk ≡ true → is_some (tells t) ≡ true)
    → is_some new ≡ is_some old → Gave (told_by tells old) (told_by tells new) after None
    → Moves {E = Failed} before after (outside_of v) (outside_of (record s { input = shown tells new; read_faults = faults; last_failed = last })) (Err failed)
moves_none_seen {s = s} tells old new before after faults last failed is_seen input_is law same kept =
    let told = where_told s.disk (shown tells new ≡ s.input) (λ is. keeps tells (is_some s.disk) old new law is same kept ∙ sym input_is) in
    rw (sym is_seen) (moves_none before after s (shown tells new) faults last failed told)

pub takes_seen : {T : Type 0} {s v : Seen} (tells : T → Option (List ℕ)) (old new : Option T) (piece : List ℕ) (faults n : ℕ) (last : Bool) → s ≡ v → s.output ≡ shown tells old → ((t : T) → is_some s.disk ≡ true → is_some (tells t) ≡ true)
    → is_some new ≡ is_some old → Took (told_by tells old) (told_by tells new) piece (Some n) → 1 ≤ n → n ≤ length piece → (outside_of v).is_writing ≡ true
    → Takes {E = Failed} (λ bytes. Write bytes) piece (outside_of v) (outside_of (record s { output = shown tells new; write_faults = faults; last_failed = last })) (Ok n)
takes_seen {s = s} tells old new piece faults n last is_seen output_is law same took some fits is_writing =
    let writes : writes_with s.output s.disk ≡ true = ap (λ (m : Seen). writes_with m.output m.disk) is_seen ∙ is_writing in
    let still_open : is_some (shown tells new) ≡ is_some s.output = still tells old new same ∙ ap (λ (o : Option (List ℕ)). is_some o) (sym output_is) in
    let told = where_told s.disk (Grows s.output (shown tells new) (take n piece)) (λ is. subst (λ (o : Option (List ℕ)). Grows o (shown tells new) (take n piece)) (sym output_is) (grows tells (is_some s.disk) old new (take n piece) law is same took)) in
    rw (sym is_seen) (takes piece s (shown tells new) faults n last some fits still_open writes told)

pub takes_none_seen : {T : Type 0} {s v : Seen} (tells : T → Option (List ℕ)) (old new : Option T) (piece : List ℕ) (faults : ℕ) (last : Bool) (failed : Failed) → s ≡ v → s.output ≡ shown tells old
    → is_some new ≡ is_some old → (outside_of v).is_writing ≡ true
    → Takes {E = Failed} (λ bytes. Write bytes) piece (outside_of v) (outside_of (record s { disk = None; output = shown tells new; write_faults = faults; last_failed = last })) (Err failed)
takes_none_seen {s = s} tells old new piece faults last failed is_seen output_is same is_writing =
    let writes : writes_with s.output s.disk ≡ true = ap (λ (m : Seen). writes_with m.output m.disk) is_seen ∙ is_writing in
    let still_open : is_some (shown tells new) ≡ is_some s.output = still tells old new same ∙ ap (λ (o : Option (List ℕ)). is_some o) (sym output_is) in
    rw (sym is_seen) (takes_none piece s (shown tells new) faults last failed still_open writes)

-- ---- what a host tells that may have stopped

pub told_law : {T : Type 0} (tells : Bool) (disk : Option Disk) (told : T → Option (List ℕ)) → ((t : T) → is_some disk ≡ true → is_some (told t) ≡ true) → (t : T) → is_some (if tells then disk else None) ≡ true → is_some (told t) ≡ true
told_law true disk told law t is = law t is
told_law false disk told law t is = absurd (let e : false ≡ true = is in cc)

pub becomes_told : (f : Disk → Disk) (tells : Bool) (old new : Option Disk) → Becomes f old new → Becomes f (if tells then old else None) (if tells then new else None)
becomes_told f true old new is = is
becomes_told f false old new is = tt

pub empty_told : (tells : Bool) (disk : Option Disk) (P : Type 0) → IfSome disk (λ _. P) → IfSome (if tells then disk else None) (λ _. P)
empty_told true disk P is = is
empty_told false disk P is = tt

pub creates_seen : {s v : Seen} (name : List ℕ) (disk : Option Disk) (out err : Option (List ℕ)) (bytes : List ℕ) (changes : ℕ) (last : Bool) → s ≡ v → (outside_of v).is_writing ≡ false
    → Becomes (disk_after (Create name ∷ [])) s.disk disk → IfSome disk (λ _. bytes ≡ []) → out ≡ s.out → err ≡ s.err → changes ≡ next_count s.file_changes
    → Creates {T = ⊤} {E = Failed} name (outside_of v) (outside_of (record s { disk = disk; out = out; err = err; input = None; output = Some bytes; file_changes = changes; last_failed = last })) (Ok tt)
creates_seen {s = s} name disk out err bytes changes last is_seen not_writing_yet is empty same_out same_err counted =
    let none : writes_with s.output s.disk ≡ false = ap (λ (m : Seen). writes_with m.output m.disk) is_seen ∙ not_writing_yet in
    rw (sym is_seen) (creates name s disk out err bytes changes last none is empty same_out same_err counted)
