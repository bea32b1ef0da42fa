-- How what a system shows of its files follows its calls.
use Rattle.std.proofs.Common.{◌≡◌, ℕ, Bool, true, false, ◌&&◌, List, [], ◌∷◌, Option, Some, None, refl, sym, ap, ◌∙◌}
use Rattle.std.specs.Prelude.{bytes_eq, string_bytes, option_map, if◌then◌else◌}
use Rattle.host_port.specs.Act.{File, file_content, Disk, Create, Write, Close, disk_after, has_file, with_file, with_more}
use Rattle.host_port.specs.Outside.{Becomes}
use Rattle.folder_system.specs.declared.beside.Beside.{Beside}
use Rattle.folder_system.specs.declared.beside.Taken.TheVariants.{ByName}
use Rattle.folder_system.specs.declared.folder.Found.{Found}
use Rattle.folder_system.specs.declared.place.Place.{Place}
use Rattle.folder_system.specs.declared.place.Place.TheVariants.{Beside as StandsBeside, In}
use Rattle.folder_system.specs.Events.{Event, History, Answer, Transition, Follows, without, files_after, is_stored}
use Rattle.folder_system.specs.Place.{IsPlaced, IsTaken, Settling, Unopened, Settled, moving, is_beside}
use Rattle.folder_system.specs.Disk.{disk_shown}
use Rattle.folder_system.proofs.Follows.{the_same}
use Rattle.folder_system.proofs.Calls.{beside_alone}
use Rattle.folder_system.proofs.Files.{same_name, if_same, content_of_new, without_new, made_and_removed}

more_at : (name bytes : List ℕ) (f : File) (fs : List File) (b : Bool) → bytes_eq f.0 name ≡ b → with_more name bytes (with_file name [] fs) ≡ with_file name bytes fs → with_more name bytes (with_file name [] (f ∷ fs)) ≡ with_file name bytes (f ∷ fs)
more_at name bytes f fs true is rest = rw is (rw is refl)
more_at name bytes f fs false is rest = rw is (rw is (ap (λ (l : List File). f ∷ l) rest))

more_new : (name bytes : List ℕ) (fs : List File) → with_more name bytes (with_file name [] fs) ≡ with_file name bytes fs
more_new name bytes [] = ap (λ (b : Bool). if b then (name, bytes) ∷ [] else (name, []) ∷ []) (same_name name)
more_new name bytes (f ∷ fs) = more_at name bytes f fs (bytes_eq f.0 name) refl (more_new name bytes fs)

-- ---- an output that was begun

shown_begun : (name : List ℕ) (old : Option History) (t : History) (b : Beside) → Transition (IsPlaced name (StandsBeside b)) old t
    → Becomes (disk_after (Create name ∷ [])) (disk_shown None old) (disk_shown (Some (StandsBeside b)) (Some t))
shown_begun name None t b ran = absurd (let e : None ≡ Some ran.was = ran.told in cc)
shown_begun name (Some o) t b ran =
    let own = string_bytes b.own in
    let begun = beside_alone name own b.old b.takes ran.was.files ran.calls ran.so.1 in
    let was : o ≡ ran.was = the_same o ran.was ran.told in
    let files : t.files ≡ with_file own [] o.files = ap (λ (v : History). v.files) ran.is ∙ begun.files ∙ ap (λ (v : History). with_file own [] v.files) (sym was) in
    let fresh : has_file own o.files ≡ false = ap (λ (v : History). has_file own v.files) was ∙ begun.fresh in
    let hidden : without own t.files ≡ o.files = ap (without own) files ∙ made_and_removed own o.files fresh in
    λ i. Some (record { files = with_file (sym ran.so.0 i) [] (sym hidden i); writing = Some (sym ran.so.0 i) })

pub begun_shown : (name : List ℕ) (tells : Bool) (old new : Option History) (place : Place) → Follows (IsPlaced name place) old new
    → Becomes (disk_after (Create name ∷ [])) (if tells then disk_shown None old else None) (if (tells && is_beside place) then disk_shown (Some place) new else None)
begun_shown name false old new place did = tt
begun_shown name true old None (StandsBeside b) did = tt
begun_shown name true old (Some t) (StandsBeside b) did = shown_begun name old t b did
begun_shown name true old new (In held) did = tt

-- ---- an output that took the place

pub moved_files : (own name bytes : List ℕ) (f : Found) (s : Answer) (t : Settling) (fs : List File) → is_stored s ≡ true → files_after (moving own name bytes f s t) fs ≡ with_file name bytes (without own fs)
moved_files own name bytes f s (Unopened kind) fs stored = ap (λ (l : List File). with_file name (file_content own l) (without own l)) (if_same (is_stored s) (with_file own bytes fs) fs stored) ∙ (λ i. with_file name (content_of_new own bytes fs i) (without_new own bytes fs i))
moved_files own name bytes f s (Settled None) fs stored = ap (λ (l : List File). with_file name (file_content own l) (without own l)) (if_same (is_stored s) (with_file own bytes fs) fs stored) ∙ (λ i. with_file name (content_of_new own bytes fs i) (without_new own bytes fs i))
moved_files own name bytes f s (Settled (Some kind)) fs stored = ap (λ (l : List File). with_file name (file_content own l) (without own l)) (if_same (is_stored s) (with_file own bytes fs) fs stored) ∙ (λ i. with_file name (content_of_new own bytes fs i) (without_new own bytes fs i))

shown_taken : (bytes : List ℕ) (old : Option History) (t : History) (b : Beside) → Transition (IsTaken b.old b.takes (string_bytes b.own) (string_bytes b.name) bytes ByName) old t
    → Becomes (disk_after (Write bytes ∷ Close ∷ [])) (disk_shown (Some (StandsBeside b)) old) (disk_shown None (Some t))
shown_taken bytes None t b ran = absurd (let e : None ≡ Some ran.was = ran.told in cc)
shown_taken bytes (Some o) t b ran =
    let own = string_bytes b.own in
    let name = string_bytes b.name in
    let was : o ≡ ran.was = the_same o ran.was ran.told in
    let files : t.files ≡ with_file name bytes (without own o.files) =
    ap (λ (v : History). v.files) ran.is ∙ ap (λ (l : List Event). files_after l ran.was.files) ran.so.is ∙ moved_files own name bytes ran.so.seen ran.so.synced ran.so.how ran.was.files ran.so.stored ∙ ap (λ (v : History). with_file name bytes (without own v.files)) (sym was) in
    let grown : with_more name bytes (with_file name [] (without own o.files)) ≡ t.files = more_new name bytes (without own o.files) ∙ sym files in
    λ i. Some (record { files = grown i; writing = None })

pub taken_shown : (bytes : List ℕ) (tells : Bool) (old new : Option History) (b : Beside) → Follows (IsTaken b.old b.takes (string_bytes b.own) (string_bytes b.name) bytes ByName) old new
    → Becomes (disk_after (Write bytes ∷ Close ∷ [])) (if tells then disk_shown (Some (StandsBeside b)) old else None) (if tells then disk_shown None new else None)
taken_shown bytes false old new b did = tt
taken_shown bytes true old None b did = tt
taken_shown bytes true old (Some t) b did = shown_taken bytes old t b did

-- ---- an output that is let go

pub becomes_then : (f : Disk → Disk) (a b c : Option Disk) → Becomes (disk_after []) a b → Becomes f b c → Becomes f a c
becomes_then f a b None first second = tt
becomes_then f a None (Some c) first second = absurd cc
becomes_then f None (Some b) (Some c) first second = absurd cc
becomes_then f (Some a) (Some b) (Some c) first second = ap (option_map f) first ∙ second
