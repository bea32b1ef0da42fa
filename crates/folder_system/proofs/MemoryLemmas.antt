-- What a folder in memory tells, call by call.
use Rattle.std.proofs.Common.{◌≡◌, ℕ, ◌<◌, Bool, true, false, cond, not, List, [], ◌∷◌, ◌++◌, length, map, get_or, Option, Some, None, Result, Ok, Err, refl, sym, ap, subst, ◌∙◌}
use Rattle.std.specs.Prelude.{bytes_eq, filter, string_bytes, is_some, IfOk, IfSome, OnOk, OnErr}
use Rattle.std.specs.Global.{Vec}
use Rattle.std.specs.IoError.{error_kind}
use Rattle.std.specs.declared.io.Error.{Error}
use Rattle.std.specs.declared.io.ErrorKind.{ErrorKind}
use Rattle.std.proofs.Math.ListN.{set}
use Rattle.std.proofs.lemmas.List.{map-set, get_or-map, map_push}
use Rattle.std.proofs.lemmas.Slice.Eq.{bytes_eq-Decides}
use Rattle.host_port.specs.Act.{File, file_content, has_file, with_file}
use Rattle.host_port.specs.Entries.{place_of}
use Rattle.host_port.specs.Outside.{Becomes}
use Rattle.host_port.proofs.EntryLemmas.{found_at, missing}
use Rattle.folder_system.specs.declared.mem_folder.MemFile.{MemFile}
use Rattle.folder_system.specs.declared.mem_folder.Call.{Call}
use Rattle.folder_system.specs.Events.{Event, FolderOpened, NamesSynced, History, Answer, answer_of, after, files_after_event, without}
use Rattle.folder_system.specs.Memory.{file_of, files_of, event_of, told, Noted}

-- ---- the files

pub set_file : (files : List MemFile) (i : ℕ) (file : MemFile) → place_of (string_bytes file.name) (files_of files) ≡ Some i
    → files_of (set files i file) ≡ with_file (string_bytes file.name) file.bytes.items (files_of files)
set_file files i file is = map-set file_of files i file ∙ sym ((found_at (string_bytes file.name) (files_of files) i is).putting file.bytes.items)

pub push_file : (files : List MemFile) (file : MemFile) → place_of (string_bytes file.name) (files_of files) ≡ None
    → files_of (files ++ file ∷ []) ≡ with_file (string_bytes file.name) file.bytes.items (files_of files)
push_file files file is = map_push file_of files file ∙ sym ((missing (string_bytes file.name) (files_of files) is).putting file.bytes.items)

pub content_at : (name : List ℕ) (files : List MemFile) (i : ℕ) (f : MemFile) → place_of name (files_of files) ≡ Some i → i < length files → f ≡ get_or files i f → f.bytes.items ≡ file_content name (files_of files)
content_at name files i f is lt at =
    let found = found_at name (files_of files) i is in
    ap (λ (x : MemFile). x.bytes.items) at ∙ ap (λ (x : File). x.1) (sym (get_or-map file_of files i f (file_of f) lt)) ∙ found.item (file_of f) ∙ sym found.content

kept_by : (b : Bool) (f : MemFile) (xs : List MemFile) (ys : List File) → files_of xs ≡ ys → files_of (cond (not b) (f ∷ xs) xs) ≡ cond b ys (file_of f ∷ ys)
kept_by true f xs ys rest = rest
kept_by false f xs ys rest = ap (λ (l : List File). file_of f ∷ l) rest

pub kept_files : (name : List ℕ) (fs : List MemFile) → files_of (filter (λ x. not (bytes_eq (string_bytes x.name) name)) fs) ≡ without name (files_of fs)
kept_files name [] = refl
kept_files name (f ∷ fs) = kept_by (bytes_eq (string_bytes f.name) name) f (filter (λ x. not (bytes_eq (string_bytes x.name) name)) fs) (without name (files_of fs)) (kept_files name fs)

-- the bytes of a file that was found, as it was before
pub content_in : (name : List ℕ) (listed files old : List MemFile) (i : ℕ) (f : MemFile) → listed ≡ files → files ≡ old → Some i ≡ place_of name (files_of listed) → i < length listed → f ≡ get_or files i f → f.bytes.items ≡ file_content name (files_of old)
content_in name listed files old i f same also place within read =
    let all : listed ≡ old = same ∙ also in
    let at : place_of name (files_of old) ≡ Some i = ap (λ (l : List MemFile). place_of name (files_of l)) (sym all) ∙ sym place in
    let lt : i < length old = subst (λ (l : List MemFile). i < length l) all within in
    content_at name old i f at lt (read ∙ ap (λ (l : List MemFile). get_or l i f) also)

none_there : (name : List ℕ) (fs : List File) (r : Option ℕ) → is_some r ≡ false → r ≡ place_of name fs → has_file name fs ≡ false
none_there name fs None none is = (missing name fs (sym is)).not_there
none_there name fs (Some i) none is = absurd (let e : true ≡ false = none in cc)

pub none_of : (name : List ℕ) (listed old : List MemFile) → None ≡ place_of name (files_of listed) → listed ≡ old → has_file name (files_of old) ≡ false
none_of name listed old none same = none_there name (files_of old) None refl (none ∙ ap (λ (l : List MemFile). place_of name (files_of l)) same)

-- no file has a name that wasn't found
pub fresh_at : (name : List ℕ) (listed old : List MemFile) (r : Option ℕ) (b : Bool) → b ≡ is_some r → b ≡ false → r ≡ place_of name (files_of listed) → listed ≡ old → has_file name (files_of old) ≡ false
fresh_at name listed old r b is none place same =
    none_there name (files_of old) r (sym is ∙ none) (place ∙ ap (λ (l : List MemFile). place_of name (files_of l)) same)

other_at : (a b : List ℕ) (t : Bool) → bytes_eq b a ≡ t → bytes_eq a b ≡ false → t ≡ false
other_at a b true is other = absurd (let same : a ≡ b = sym ((bytes_eq-Decides b a).0 is) in let e : true ≡ false = sym ((bytes_eq-Decides a b).1 same) ∙ other in cc)
other_at a b false is other = refl

other_way : (a b : List ℕ) → bytes_eq a b ≡ false → bytes_eq b a ≡ false
other_way a b other = other_at a b (bytes_eq b a) refl other

module _ (from to bytes : List ℕ) (apart : bytes_eq to from ≡ false) where
  put_here : (f : File) (fs : List File) → bytes_eq f.0 to ≡ true → with_file to bytes (f ∷ fs) ≡ (f.0, bytes) ∷ fs
  put_here f fs is = ap (λ (t : Bool). cond t ((f.0, bytes) ∷ fs) (f ∷ with_file to bytes fs)) is

  put_later : (f : File) (fs : List File) → bytes_eq f.0 to ≡ false → with_file to bytes (f ∷ fs) ≡ f ∷ with_file to bytes fs
  put_later f fs is = ap (λ (t : Bool). cond t ((f.0, bytes) ∷ fs) (f ∷ with_file to bytes fs)) is

  keep_here : (f : File) (fs : List File) → bytes_eq f.0 from ≡ false → without from (f ∷ fs) ≡ f ∷ without from fs
  keep_here f fs is = ap (λ (t : Bool). cond t (without from fs) (f ∷ without from fs)) is

  drop_here : (f : File) (fs : List File) → bytes_eq f.0 from ≡ true → without from (f ∷ fs) ≡ without from fs
  drop_here f fs is = ap (λ (t : Bool). cond t (without from fs) (f ∷ without from fs)) is

  one_name : (name : List ℕ) → bytes_eq name to ≡ true → bytes_eq name from ≡ true → ⊥
  one_name name is also =
      absurd (let same : to ≡ from = sym ((bytes_eq-Decides name to).0 is) ∙ (bytes_eq-Decides name from).0 also in let e : true ≡ false = sym ((bytes_eq-Decides to from).1 same) ∙ apart in cc)

  without_at : (f : File) (fs : List File) (b c : Bool) → bytes_eq f.0 to ≡ b → bytes_eq f.0 from ≡ c → without from (with_file to bytes fs) ≡ with_file to bytes (without from fs)
      → without from (with_file to bytes (f ∷ fs)) ≡ with_file to bytes (without from (f ∷ fs))
  without_at f fs true true is also rest = absurd (one_name f.0 is also)
  without_at f fs true false is other rest = search (put_here, keep_here)
  without_at f fs false true other is rest = search (put_later, drop_here)
  without_at f fs false false other another rest = search (put_later, keep_here)

  -- another file's name is taken away before or behind
  pub without_other : (fs : List File) → without from (with_file to bytes fs) ≡ with_file to bytes (without from fs)
  without_other [] = keep_here (to, bytes) [] apart
  without_other (f ∷ fs) = without_at f fs (bytes_eq f.0 to) (bytes_eq f.0 from) refl refl (without_other fs)

-- a file that has another name
pub renamed_files : (from to bytes : List ℕ) (old put now : List File) → bytes_eq from to ≡ false → put ≡ with_file to bytes old → now ≡ without from put → bytes ≡ file_content from old → now ≡ with_file to (file_content from old) (without from old)
renamed_files from to bytes old put now other is gone content =
    gone ∙ ap (without from) is ∙ without_other from to bytes (other_way from to other) old ∙ ap (λ (b : List ℕ). with_file to b (without from old)) content

-- ---- what is told

-- a call that was noted, and did that to the files
told_at : {E : Type 0} (e : Event) (before now : List MemFile) (old new : Option (Vec Call)) (one : Result Call E) → IfOk one (λ c. event_of c ≡ e) → Noted old one new → files_of now ≡ files_after_event e (files_of before)
    → Becomes (after e) (told before old) (told now new)
told_at e before now old None one is noted files = tt
told_at e before now None (Some n) one is noted files = absurd noted
told_at e before now (Some o) (Some n) (Err x) is noted files = absurd noted
told_at e before now (Some o) (Some n) (Ok c) is noted files =
    let events : map event_of n.items ≡ map event_of o.items ++ e ∷ [] = ap (map event_of) noted ∙ map_push event_of o.items c ∙ ap (λ (v : Event). map event_of o.items ++ v ∷ []) is in
    λ i. Some (record { files = sym files i; events = sym events i })

pub told_after : {A E : Type 0} (e : A → Event) (given answer : A) (before now last : Vec MemFile) (old mid new : Option (Vec Call)) (one : Result Call E) → given ≡ answer → IfOk one (λ c. event_of c ≡ e given) → IfSome new (λ _. last ≡ now) → mid ≡ old → Noted mid one new
    → files_of now.items ≡ files_after_event (e answer) (files_of before.items) → Becomes (after (e answer)) (told before.items old) (told last.items new)
told_after {A = A} e given answer before now last old mid None one same is still kept noted files = tt
told_after {A = A} e given answer before now last old mid (Some new) one same is still kept noted files =
    told_at (e answer) before.items last.items old (Some new) one (subst (λ (a : A). IfOk one (λ c. event_of c ≡ e a)) same is) (subst (λ (o : Option (Vec Call)). Noted o one (Some new)) kept noted)
    (ap (λ (v : Vec MemFile). files_of v.items) still ∙ files)

-- nothing is told any more
pub untold : (f : History → History) (old : Option History) (files : List MemFile) (before now : Option (Vec Call)) (b : Bool) → is_some before ≡ not b → b ≡ true → now ≡ before → Becomes f old (told files now)
untold f old files before None b is none same = tt
untold f old files None (Some n) b is none same = absurd (let e : Some n ≡ None = same in cc)
untold f old files (Some o) (Some n) b is none same = absurd (let e : true ≡ false = is ∙ ap not none in cc)

-- what a call does that changes nothing where it fails
pub by_answer : {T : Type 0} (e : Answer → Event) (done : Result T Error) (before now : List File) → ((kind : ErrorKind) → files_after_event (e (Some kind)) before ≡ before)
    → OnOk done (now ≡ files_after_event (e None) before) → OnErr done (now ≡ before) → now ≡ files_after_event (e (answer_of done)) before
by_answer e (Ok x) before now fails ok err = ok
by_answer e (Err x) before now fails ok err = err ∙ sym (fails (error_kind x))

-- what a call does that changes nothing
pub by_kept : {T : Type 0} (e : Answer → Event) (done : Result T Error) (before now : List File) → ((answer : Answer) → files_after_event (e answer) before ≡ before) → now ≡ before → now ≡ files_after_event (e (answer_of done)) before
by_kept e done before now keeps same = same ∙ sym (keeps (answer_of done))

pub names_files : (name : List ℕ) (answer : Answer) (fs : List File) → files_after_event (NamesSynced name answer) fs ≡ fs
names_files name None fs = refl
names_files name (Some kind) fs = refl

pub folder_files : (name : List ℕ) (answer : Answer) (fs : List File) → files_after_event (FolderOpened name answer) fs ≡ fs
folder_files name None fs = refl
folder_files name (Some kind) fs = refl
