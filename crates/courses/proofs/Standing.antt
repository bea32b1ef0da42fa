-- How a command goes on along its course, and each way in which it ends.
use Rattle.std.proofs.Common.{◌≡◌, ℕ, suc, ◌+◌, ◌<◌, ◌≤◌, Bool, true, false, cond, eqb, List, [], ◌∷◌, ◌++◌, append_assoc, length, replicate, Option, Some, None, Result, Ok, Err, inl, inr, refl, sym, ap, subst, ◌∙◌, arith}
use Rattle.std.specs.Prelude.{IfSome, MatchOption, ⊤}
use Rattle.std.proofs.lemmas.Bool.{lt-ltb, le-ltb}
use Rattle.std.proofs.lemmas.Bool.Decides.{nat_tests}
use Rattle.std.proofs.lemmas.List.{append-nil, length-replicate}
use Rattle.host_port.specs.Act.{Act, Disk, File, file_content, writes_after, next_count}
use Rattle.host_port.specs.Outside.{Outside, Becomes, Did, Rose, KeepsCounts, with_openings}
use Rattle.host_port.specs.Load.{IsContent, Loads}
use Rattle.host_port.specs.declared.whole_file.LoadRefusal.{LoadRefusal}
use Rattle.host_port.specs.declared.whole_file.LoadRefusal.TheVariants as loads
use Rattle.host_port.proofs.Laws.{Did-nothing, Did-then, KeepsCounts-same, KeepsCounts-then}
use Rattle.courses.specs.declared.outcome.Done.{Done}
use Rattle.courses.specs.declared.outcome.Fault.{Fault}
use Rattle.courses.specs.declared.outcome.Fault.TheVariants.{Usage, BadElf, BadProfile, Unlike, TooWide, ProgramTooLarge, EntryOutside, ReadFault, WriteFault, OutOfMemory, TooLarge}
use Rattle.command_words.specs.declared.words.Command.{Command}
use Rattle.command_words.specs.Items.{nth_word}
use Rattle.command_words.specs.Words.{command_of}
use Rattle.courses.specs.Course.{Course, Ends, Input, Does, Knows, Reply, behind, must_refuse, one_by_one, takes_no_memory, unless, reply_to, inputs_of, AllKnown, ComesTo, MayStop}
use Rattle.courses.specs.Answer.{command_course, course_of, contents_of, load_fault_of}
use Rattle.host_port.specs.Performing.{FailedAt, Performs}
use Rattle.host_port.proofs.PerformingLemmas.{failed_behind, failed_before, failed_since}
use Rattle.courses.specs.Contract.{ReadingFailed, Owes, Owed, WhereTold, Acted}
use Rattle.courses.specs.Standing.{LeadsTo, MayStopHere, Stands}

-- what holds of the files before, where they are told at one moment and at another
abbrev Told : Option Disk → Option Disk → (List File → Type 0) → Type 0
Told a c P = MatchOption c ⊤ (λ _. IfSome a (λ d. P d.files))

pub everywhere : (a c : Option Disk) (P : List File → Type 0) → ((files : List File) → P files) → Told a c P
everywhere a None P h = tt
everywhere None (Some z) P h = tt
everywhere (Some x) (Some z) P h = h x.files

both : (a c : Option Disk) (P Q R : List File → Type 0) → ((files : List File) → P files → Q files → R files) → Told a c P → Told a c Q → Told a c R
both a None P Q R h p q = tt
both None (Some z) P Q R h p q = tt
both (Some x) (Some z) P Q R h p q = h x.files p q

pub weaker : (a c : Option Disk) (P R : List File → Type 0) → ((files : List File) → P files → R files) → Told a c P → Told a c R
weaker a c P R h p = both a c P P R (λ files x y. h files x) p p

-- a content that is told at a moment was told before
pub further : (f : Disk → Disk) (a b c : Option Disk) (P : List File → Type 0) → Becomes f b c → Told a b P → Told a c P
further f a b None P same h = tt
further f a None (Some z) P same h = absurd cc
further f a (Some y) (Some z) P same h = h

-- what holds of the files afterwards holds of those before, if they are the same
pub told_back : (a b : Option Disk) (P : List File → Type 0) → Becomes (λ d. d) a b → IfSome b (λ d. P d.files) → Told a b P
told_back a None P same h = tt
told_back None (Some y) P same h = absurd cc
told_back (Some x) (Some y) P same h = grind arith

-- the contents of the files that are told, and others where none are
choose : (words : List (List ℕ)) (a c : Option Disk) (P : (ℕ → List ℕ) → Type 0) (some : ℕ → List ℕ) → P some → Told a c (λ files. P (contents_of words files))
    → (contents : ℕ → List ℕ) × Told a c (λ files. contents ≡ contents_of words files) × P contents
choose words a None P some p q = (some, tt, p)
choose words None (Some z) P some p q = (some, tt, p)
choose words (Some x) (Some z) P some p q = (contents_of words x.files, refl, q)

owed_by : (words : List (List ℕ)) (old new : Outside) (opens : ℕ) (done : List Act) (result : Result Done Fault) (some : ℕ → List ℕ) → Owes words some old new opens done result
    → WhereTold old new (λ files. Owes words (contents_of words files) old new opens done result) → Owed words old new opens done result
owed_by words old new opens done result some p q =
    let h = choose words old.disk new.disk (λ contents. Owes words contents old new opens done result) some p q in
    record { contents = h.0; told = h.1; owes = h.2 }

-- a course leads to itself
itself : (contents : ℕ → List ℕ) (course : Course) → LeadsTo contents course 0 [] course
itself contents course = grind arith

-- a command begins
pub begun : (words : List (List ℕ)) (x : Outside) (command : Command) → command_of words ≡ Some command → x.is_writing ≡ false → Stands words x x 0 [] (command_course words (Some command))
begun words x command said idle =
    let leads : (contents : ℕ → List ℕ) → LeadsTo contents (course_of words) 0 [] (command_course words (Some command)) =
    λ contents. subst (λ (o : Option Command). LeadsTo contents (course_of words) 0 [] (command_course words o)) said (itself contents (course_of words)) in
    record {
      opens = 0;
      did = Did-nothing x;
      counts = KeepsCounts-same x;
      idle = idle;
      shut = idle;
      read = λ word. [];
      leads = λ contents agrees. leads contents;
      told = everywhere x.disk x.disk (λ files. LeadsTo (contents_of words files) (course_of words) 0 [] (command_course words (Some command))) (λ files. leads (contents_of words files));
    }

-- the words were not understood
pub not_understood : (words : List (List ℕ)) (x : Outside) → x.is_writing ≡ false → command_of words ≡ None → Acted words x x (Err Usage)
not_understood words x idle none =
    let owes : (contents : ℕ → List ℕ) → Owes words contents x x 0 [] (Err Usage) = λ contents. (none, refl, KeepsCounts-same x, refl) in
    record {
      done = [];
      opens = 0;
      did = Did-nothing x;
      owed = owed_by words x x 0 [] (Err Usage) (λ word. []) (owes (λ word. []))
          (everywhere x.disk x.disk (λ files. Owes words (contents_of words files) x x 0 [] (Err Usage)) (λ files. owes (contents_of words files)));
      shut = λ _. idle;
    }

-- one input more was opened
opened_more : (n : ℕ) (old mid new : Outside) → Did [] (with_openings n old) mid → Did [] (with_openings 1 mid) new → Did [] (with_openings (suc n) old) new
opened_more n old mid new p q =
    let before : Did [] (with_openings (suc n) old) (with_openings 1 mid) = record { disk = p.disk; out = p.out; err = p.err; writing = p.writing; file_changes = p.file_changes; opened = ap next_count p.opened } in
    Did-then [] [] (with_openings (suc n) old) (with_openings 1 mid) new before q

-- what was read, and one input more
abbrev with_read : ℕ → List ℕ → (ℕ → List ℕ) → ℕ → List ℕ
with_read word bytes read w = cond (eqb w word) bytes (read w)

same_eqb : (n : ℕ) → eqb n n ≡ true
same_eqb n = grind (arith, nat_tests)

less_eqb : (n m : ℕ) → n < m → eqb n m ≡ false
less_eqb n m less = grind (arith, nat_tests)

read_at : (word : ℕ) (bytes : List ℕ) (read : ℕ → List ℕ) → with_read word bytes read word ≡ bytes
read_at word bytes read = ap (λ (b : Bool). cond b bytes (read word)) (same_eqb word)

read_before : (word : ℕ) (bytes : List ℕ) (read : ℕ → List ℕ) (w : ℕ) → w < word → with_read word bytes read w ≡ read w
read_before word bytes read w less = ap (λ (b : Bool). cond b bytes (read w)) (less_eqb w word less)

-- an input was read, and isn't too large
input_read : (contents : ℕ → List ℕ) (whole : Course) (opens word limit : ℕ) (next : List ℕ → Course) (bytes : List ℕ) → LeadsTo contents whole opens [] (Input word limit next) → contents word ≡ bytes → length bytes ≤ limit
    → LeadsTo contents whole (suc opens) [] (next bytes)
input_read contents whole opens word limit next bytes l is short =
    let fits : length (contents word) ≤ limit = subst (λ (bs : List ℕ). length bs ≤ limit) (sym is) short in
    let more : inputs_of contents whole ≡ opens + suc (inputs_of contents (next bytes)) =
    l.inputs ∙ ap (λ (b : Bool). opens + suc (cond b 0 (inputs_of contents (next (contents word))))) (le-ltb limit (length (contents word)) fits)
    ∙ ap (λ (bs : List ℕ). opens + suc (inputs_of contents (next bs))) is in
    record {
      reply = l.reply ∙ ap (λ (b : Bool). cond b (record { ending = Err (TooLarge word limit); acts = [] }) (reply_to contents (next (contents word)))) (le-ltb limit (length (contents word)) fits)
          ∙ ap (λ (bs : List ℕ). reply_to contents (next bs)) is;
      inputs = omega (arith, more);
      comes = λ n w h. (let later : opens + suc n ≡ suc opens + n = omega arith in
          subst (λ (k : ℕ). ComesTo contents whole k w) later (l.comes (suc n) w (fits, subst (λ (bs : List ℕ). ComesTo contents (next bs) n w) (sym is) h)));
      may_stop = λ more h. l.may_stop more (inr (fits, subst (λ (bs : List ℕ). MayStop contents (next bs) more) (sym is) h));
      known = λ h. l.known (λ _. subst (λ (bs : List ℕ). AllKnown contents (next bs)) (sym is) h);
      undecided = λ n h. (let later : opens + suc n ≡ suc opens + n = omega arith in
          let here : must_refuse contents (Input word limit next) (suc n) ≡ false =
          ap (λ (b : Bool). cond b false (must_refuse contents (next (contents word)) n)) (le-ltb limit (length (contents word)) fits)
          ∙ subst (λ (bs : List ℕ). must_refuse contents (next bs) n ≡ false) (sym is) h in
          subst (λ (k : ℕ). must_refuse contents whole k ≡ false) later (l.undecided (suc n) here));
    }

pub loaded : (words : List (List ℕ)) (old mid new : Outside) (below word limit : ℕ) (next : List ℕ → Course) (bytes : List ℕ) → Stands words old mid below [] (Input word limit next) → below ≤ word
    → IsContent (nth_word words word) limit mid new bytes → Stands words old new (word + 1) [] (next bytes)
loaded words old mid new below word limit next bytes s later loads =
    let did = opened_more s.opens old mid new s.did loads.nothing_done in
    record {
      opens = suc s.opens;
      did = did;
      counts = KeepsCounts-then old mid new s.counts loads.counts;
      idle = s.idle;
      shut = loads.nothing_done.writing ∙ s.shut;
      read = with_read word bytes s.read;
      leads = λ contents agrees.
          input_read contents (course_of words) s.opens word limit next bytes
          (s.leads contents (λ w less. agrees w (omega arith) ∙ read_before word bytes s.read w (omega arith)))
          (agrees word (omega arith) ∙ read_at word bytes s.read) loads.within;
      told = both old.disk new.disk (λ files. LeadsTo (contents_of words files) (course_of words) s.opens [] (Input word limit next)) (λ files. bytes ≡ file_content (nth_word words word) files)
          (λ files. LeadsTo (contents_of words files) (course_of words) (suc s.opens) [] (next bytes))
          (λ files l is. input_read (contents_of words files) (course_of words) s.opens word limit next bytes l (sym is) loads.within)
          (further (λ d. d) old.disk mid.disk new.disk (λ files. LeadsTo (contents_of words files) (course_of words) s.opens [] (Input word limit next)) loads.nothing_done.disk s.told)
          (told_back old.disk new.disk (λ files. bytes ≡ file_content (nth_word words word) files) did.disk loads.answer);
    }

too_large : (words : List (List ℕ)) (contents : ℕ → List ℕ) (old new : Outside) (opens word limit : ℕ) (next : List ℕ → Course) → LeadsTo contents (course_of words) opens [] (Input word limit next) → limit < length (contents word)
    → KeepsCounts old new → Owes words contents old new (suc opens) [] (Err (TooLarge word limit))
too_large words contents old new opens word limit next l long nothing = grind (arith, lt-ltb)

-- there was no memory for what comes next, where so many inputs were opened
memory_out : (words : List (List ℕ)) (old new : Outside) (opens opened : ℕ) (done : List Act) (rest : Course) (read : ℕ → List ℕ) → Did done (with_openings opened old) new → KeepsCounts old new → new.is_writing ≡ false
    → LeadsTo read (course_of words) opens done rest → WhereTold old new (λ files. LeadsTo (contents_of words files) (course_of words) opens done rest) → ((contents : ℕ → List ℕ) → MayStop contents rest []) → (new.at_end ≡ true → (contents : ℕ → List ℕ) → LeadsTo contents (course_of words) opens done rest → must_refuse contents (course_of words) opened ≡ false)
    → Acted words old new (Err OutOfMemory)
memory_out words old new opens opened done rest read did counts shut leads told may undecided =
    let owes : (contents : ℕ → List ℕ) → LeadsTo contents (course_of words) opens done rest → Owes words contents old new opened done (Err OutOfMemory) =
    λ contents l. (subst (λ (acts : List Act). MayStop contents (course_of words) acts) (append-nil done) (l.may_stop [] (may contents)), counts, λ ended. undecided ended contents l) in
    record {
      done = done;
      opens = opened;
      did = did;
      owed = owed_by words old new opened done (Err OutOfMemory) read (owes read leads)
          (weaker old.disk new.disk (λ files. LeadsTo (contents_of words files) (course_of words) opens done rest) (λ files. Owes words (contents_of words files) old new opened done (Err OutOfMemory))
          (λ files. owes (contents_of words files)) told);
      shut = λ _. shut;
    }

-- there was none for what comes next
pub no_memory : (words : List (List ℕ)) (old new : Outside) (below : ℕ) (done : List Act) (rest : Course) → Stands words old new below done rest → ((contents : ℕ → List ℕ) → MayStopHere contents rest)
    → Acted words old new (Err OutOfMemory)
no_memory words old new below done rest s may =
    memory_out words old new s.opens s.opens done rest s.read s.did s.counts s.shut (s.leads s.read (λ w less. refl)) s.told (λ contents. (may contents).0)
    (λ ended contents l. (let same : s.opens + 0 ≡ s.opens = omega arith in subst (λ (k : ℕ). must_refuse contents (course_of words) k ≡ false) same (l.undecided 0 (may contents).1)))

-- there was none while the next input was read
pub no_memory_opened : (words : List (List ℕ)) (old mid new : Outside) (below : ℕ) (rest : Course) → Stands words old mid below [] rest → Did [] (with_openings 1 mid) new → KeepsCounts mid new → new.at_end ≡ false → ((contents : ℕ → List ℕ) → MayStop contents rest [])
    → Acted words old new (Err OutOfMemory)
no_memory_opened words old mid new below rest s did counts going may =
    memory_out words old new s.opens (suc s.opens) [] rest s.read (opened_more s.opens old mid new s.did did) (KeepsCounts-then old mid new s.counts counts) (did.writing ∙ s.shut) (s.leads s.read (λ w less. refl))
    (further (λ d. d) old.disk mid.disk new.disk (λ files. LeadsTo (contents_of words files) (course_of words) s.opens [] rest) did.disk s.told) may (λ ended contents l. absurd cc)

-- the next input is the one behind those that were opened
comes_next : (contents : ℕ → List ℕ) (whole : Course) (opens word limit : ℕ) (next : List ℕ → Course) → LeadsTo contents whole opens [] (Input word limit next) → ComesTo contents whole opens word
comes_next contents whole opens word limit next l =
    let same : opens + 0 ≡ opens = omega arith in
    subst (λ (k : ℕ). ComesTo contents whole k word) same (l.comes 0 word refl)

-- the input couldn't be loaded
pub not_loaded : (words : List (List ℕ)) (old mid new : Outside) (below word limit : ℕ) (next : List ℕ → Course) (refusal : LoadRefusal) → Stands words old mid below [] (Input word limit next) → below ≤ word
    → Loads (nth_word words word) limit mid new (Err refusal) → Acted words old new (Err (load_fault_of refusal word limit))
not_loaded words old mid new below word limit next loads.ReadFault s later loads =
    let failed : ReadingFailed old new = record {
      read = subst (λ (k : ℕ). Rose k new.read_faults) s.counts.read loads.counts.0;
      write = loads.counts.1 ∙ s.counts.write;
      complain = loads.counts.2 ∙ s.counts.err;
      last = loads.counts.3;
    } in
    let did = opened_more s.opens old mid new s.did loads.nothing_done in
    let comes : (contents : ℕ → List ℕ) → LeadsTo contents (course_of words) s.opens [] (Input word limit next) → Owes words contents old new (suc s.opens) [] (Err (ReadFault word)) =
    λ contents l. ((s.opens, refl, comes_next contents (course_of words) s.opens word limit next l), refl, failed) in
    record {
      done = [];
      opens = suc s.opens;
      did = did;
      owed = owed_by words old new (suc s.opens) [] (Err (ReadFault word)) s.read (comes s.read (s.leads s.read (λ w less. refl)))
          (weaker old.disk new.disk (λ files. LeadsTo (contents_of words files) (course_of words) s.opens [] (Input word limit next)) (λ files. Owes words (contents_of words files) old new (suc s.opens) [] (Err (ReadFault word)))
          (λ files. comes (contents_of words files))
          (further (λ d. d) old.disk mid.disk new.disk (λ files. LeadsTo (contents_of words files) (course_of words) s.opens [] (Input word limit next)) loads.nothing_done.disk s.told));
      shut = λ _. loads.nothing_done.writing ∙ s.shut;
    }
not_loaded words old mid new below word limit next loads.TooLarge s later loads =
    let did = opened_more s.opens old mid new s.did loads.nothing_done in
    let nothing = KeepsCounts-then old mid new s.counts loads.counts in
    let zeros : List ℕ = replicate (limit + 1) 0 in
    let some = with_read word zeros s.read in
    let long : limit < length (some word) = subst (λ (bs : List ℕ). limit < length bs) (sym (read_at word zeros s.read)) (subst (λ (n : ℕ). limit < n) (sym (length-replicate (limit + 1) 0)) (omega arith)) in
    record {
      done = [];
      opens = suc s.opens;
      did = did;
      owed = owed_by words old new (suc s.opens) [] (Err (TooLarge word limit)) some
          (too_large words some old new s.opens word limit next (s.leads some (λ w less. read_before word zeros s.read w (omega arith))) long nothing)
          (both old.disk new.disk (λ files. LeadsTo (contents_of words files) (course_of words) s.opens [] (Input word limit next)) (λ files. limit < length (file_content (nth_word words word) files))
          (λ files. Owes words (contents_of words files) old new (suc s.opens) [] (Err (TooLarge word limit)))
          (λ files l more. too_large words (contents_of words files) old new s.opens word limit next l more nothing)
          (further (λ d. d) old.disk mid.disk new.disk (λ files. LeadsTo (contents_of words files) (course_of words) s.opens [] (Input word limit next)) loads.nothing_done.disk s.told)
          (told_back old.disk new.disk (λ files. limit < length (file_content (nth_word words word) files)) did.disk loads.answer));
      shut = λ _. loads.nothing_done.writing ∙ s.shut;
    }
not_loaded words old mid new below word limit next loads.OutOfMemory s later short =
    no_memory_opened words old mid new below (Input word limit next) s short.nothing_done short.counts (short.going (λ (e : loads.OutOfMemory ≡ loads.ReadFault). absurd cc)) (λ contents. inl refl)

-- memory may be wanted before a refusal is found
pub may_stop_unless : {R : Type 0} (fault : R → Fault) (due : Option R) (next : Course) (contents : ℕ → List ℕ) → IfSome due (λ r. takes_no_memory (fault r) ≡ false) → MayStopHere contents next → MayStopHere contents (unless fault due next)
may_stop_unless fault None next contents takes h = h
may_stop_unless fault (Some refusal) next contents takes h = (refl, takes)

-- nothing is refused
pub goes_on : {R : Type 0} (words : List (List ℕ)) (old new : Outside) (below : ℕ) (done : List Act) (fault : R → Fault) (due : Option R) (next : Course) → Stands words old new below done (unless fault due next) → due ≡ None
    → Stands words old new below done next
goes_on {R} words old new below done fault due next s e = subst (λ (o : Option R). Stands words old new below done (unless fault o next)) e s

-- an answer that follows from words that are understood and from the contents of the inputs
abbrev pub IsAnswer : Result Done Fault → Type 0
IsAnswer (Err Usage) = ⊥
IsAnswer (Err (ReadFault word)) = ⊥
IsAnswer (Err WriteFault) = ⊥
IsAnswer (Err OutOfMemory) = ⊥
IsAnswer result = ⊤

answer_owed : (words : List (List ℕ)) (contents : ℕ → List ℕ) (old new : Outside) (opens : ℕ) (done : List Act) (result : Result Done Fault) → IsAnswer result
    → result ≡ (reply_to contents (course_of words)).ending → done ≡ (reply_to contents (course_of words)).acts → KeepsCounts old new → opens ≡ inputs_of contents (course_of words) → AllKnown contents (course_of words) → Owes words contents old new opens done result
answer_owed words contents old new opens done (Err Usage) is e a n o h = absurd is
answer_owed words contents old new opens done (Err (ReadFault word)) is e a n o h = absurd is
answer_owed words contents old new opens done (Err WriteFault) is e a n o h = absurd is
answer_owed words contents old new opens done (Err OutOfMemory) is e a n o h = absurd is
answer_owed words contents old new opens done (Ok carried) is e a n o h = record { ending = e; acts = a; counts = n; inputs = o; known = h }
answer_owed words contents old new opens done (Err (BadElf refusal)) is e a n o h = record { ending = e; acts = a; counts = n; inputs = o; known = h }
answer_owed words contents old new opens done (Err (BadProfile refusal word)) is e a n o h = record { ending = e; acts = a; counts = n; inputs = o; known = h }
answer_owed words contents old new opens done (Err (Unlike unlike word)) is e a n o h = record { ending = e; acts = a; counts = n; inputs = o; known = h }
answer_owed words contents old new opens done (Err (TooWide head arc)) is e a n o h = record { ending = e; acts = a; counts = n; inputs = o; known = h }
answer_owed words contents old new opens done (Err (TooLarge word limit)) is e a n o h = record { ending = e; acts = a; counts = n; inputs = o; known = h }
answer_owed words contents old new opens done (Err (ProgramTooLarge need end)) is e a n o h = record { ending = e; acts = a; counts = n; inputs = o; known = h }
answer_owed words contents old new opens done (Err (EntryOutside entry)) is e a n o h = record { ending = e; acts = a; counts = n; inputs = o; known = h }

-- it ends
pub ends : (words : List (List ℕ)) (old new : Outside) (below : ℕ) (done : List Act) (result : Result Done Fault) → Stands words old new below done (Ends result) → IsAnswer result → Acted words old new result
ends words old new below done result s is =
    let owes : (contents : ℕ → List ℕ) → LeadsTo contents (course_of words) s.opens done (Ends result) → Owes words contents old new s.opens done result =
    λ contents l. answer_owed words contents old new s.opens done result is
    (sym (ap (λ (r : Reply). r.ending) l.reply)) (sym (ap (λ (r : Reply). r.acts) l.reply ∙ append-nil done)) s.counts (omega (arith, l.inputs)) (l.known tt) in
    record {
      done = done;
      opens = s.opens;
      did = s.did;
      owed = owed_by words old new s.opens done result s.read (owes s.read (s.leads s.read (λ w less. refl)))
          (weaker old.disk new.disk (λ files. LeadsTo (contents_of words files) (course_of words) s.opens done (Ends result)) (λ files. Owes words (contents_of words files) old new s.opens done result)
          (λ files. owes (contents_of words files)) s.told);
      shut = λ _. s.shut;
    }

-- something is refused
pub refuses : {R : Type 0} (words : List (List ℕ)) (old new : Outside) (below : ℕ) (done : List Act) (fault : R → Fault) (due : Option R) (next : Course) (refusal : R) → Stands words old new below done (unless fault due next)
    → due ≡ Some refusal → IsAnswer (Err (fault refusal)) → Acted words old new (Err (fault refusal))
refuses {R} words old new below done fault due next refusal s e is =
    ends words old new below done (Err (fault refusal)) (subst (λ (o : Option R). Stands words old new below done (unless fault o next)) e s) is

-- what is known here is so
known_lead : (contents : ℕ → List ℕ) (whole : Course) (opens : ℕ) (done : List Act) (fact : Bool) (next : Course) → fact ≡ true → LeadsTo contents whole opens done (Knows fact next) → LeadsTo contents whole opens done next
known_lead contents whole opens done fact next is l = grind arith

pub known : (words : List (List ℕ)) (old new : Outside) (below : ℕ) (done : List Act) (fact : Bool) (next : Course) → fact ≡ true → Stands words old new below done (Knows fact next) → Stands words old new below done next
known words old new below done fact next is s = record {
  opens = s.opens;
  did = s.did;
  counts = s.counts;
  idle = s.idle;
  shut = s.shut;
  read = s.read;
  leads = λ contents agrees. known_lead contents (course_of words) s.opens done fact next is (s.leads contents agrees);
  told = weaker old.disk new.disk (λ files. LeadsTo (contents_of words files) (course_of words) s.opens done (Knows fact next)) (λ files. LeadsTo (contents_of words files) (course_of words) s.opens done next)
      (λ files. known_lead (contents_of words files) (course_of words) s.opens done fact next is) s.told;
}

-- acts were done
does_lead : (contents : ℕ → List ℕ) (whole : Course) (opens : ℕ) (done acts : List Act) (next : Course) → LeadsTo contents whole opens done (Does acts next) → LeadsTo contents whole opens (done ++ acts) next
does_lead contents whole opens done acts next l = grind (arith, append_assoc)

-- acts were done that lead from one course to another
pub does_by : {T E : Type 0} (words : List (List ℕ)) (old mid new : Outside) (below : ℕ) (done acts : List Act) (rest next : Course) (u : T)
    → ((contents : ℕ → List ℕ) (opens : ℕ) → LeadsTo contents (course_of words) opens done rest → LeadsTo contents (course_of words) opens (done ++ acts) next)
    → Stands words old mid below done rest → Performs {T = T} {E = E} acts mid new (Ok u) → writes_after acts false ≡ false → Stands words old new below (done ++ acts) next
does_by words old mid new below done acts rest next u leads s performs shut = record {
  opens = s.opens;
  did = Did-then done acts (with_openings s.opens old) mid new s.did performs.done;
  counts = KeepsCounts-then old mid new s.counts performs.kept;
  idle = s.idle;
  shut = performs.done.writing ∙ ap (writes_after acts) s.shut ∙ shut;
  read = s.read;
  leads = λ contents agrees. leads contents s.opens (s.leads contents agrees);
  told = weaker old.disk new.disk (λ files. LeadsTo (contents_of words files) (course_of words) s.opens done rest) (λ files. LeadsTo (contents_of words files) (course_of words) s.opens (done ++ acts) next)
      (λ files. leads (contents_of words files) s.opens)
      (further _ old.disk mid.disk new.disk (λ files. LeadsTo (contents_of words files) (course_of words) s.opens done rest) performs.done.disk s.told);
}

pub does : {T E : Type 0} (words : List (List ℕ)) (old mid new : Outside) (below : ℕ) (done acts : List Act) (next : Course) (u : T) → Stands words old mid below done (Does acts next)
    → Performs {T = T} {E = E} acts mid new (Ok u) → writes_after acts false ≡ false → Stands words old new below (done ++ acts) next
does {T} {E} words old mid new below done acts next u s performs shut = search (does_by, does_lead)

-- ---- acts one after the other

-- the first ones were done
one_by_one_lead : (contents : ℕ → List ℕ) (whole : Course) (opens : ℕ) (done acts more : List Act) (next : Course) → LeadsTo contents whole opens done (one_by_one (acts ++ more) next) → LeadsTo contents whole opens (done ++ acts) (one_by_one more next)
one_by_one_lead contents whole opens done [] more next l = subst (λ (d : List Act). LeadsTo contents whole opens d (one_by_one more next)) (sym (append-nil done)) l
one_by_one_lead contents whole opens done (act ∷ acts) more next l =
    grind (arith, append_assoc, one_by_one_lead contents whole opens (done ++ act ∷ []) acts more next)

pub does_first : {T E : Type 0} (words : List (List ℕ)) (old mid new : Outside) (below : ℕ) (done acts more : List Act) (next : Course) (u : T) → Stands words old mid below done (one_by_one (acts ++ more) next)
    → Performs {T = T} {E = E} acts mid new (Ok u) → writes_after acts false ≡ false → Stands words old new below (done ++ acts) (one_by_one more next)
does_first {T} {E} words old mid new below done acts more next u = search (does_by, one_by_one_lead)

one_by_one_reply : (contents : ℕ → List ℕ) (acts : List Act) (next : Course) → reply_to contents (one_by_one acts next) ≡ behind acts (reply_to contents next)
one_by_one_reply contents [] next = refl
one_by_one_reply contents (act ∷ acts) next = ap (λ (r : Reply). behind (act ∷ []) r) (one_by_one_reply contents acts next)

one_by_one_inputs : (contents : ℕ → List ℕ) (acts : List Act) (next : Course) → inputs_of contents (one_by_one acts next) ≡ inputs_of contents next
one_by_one_inputs contents [] next = refl
one_by_one_inputs contents (act ∷ acts) next = one_by_one_inputs contents acts next

one_by_one_comes : (contents : ℕ → List ℕ) (acts : List Act) (next : Course) (n word : ℕ) → ComesTo contents next n word → ComesTo contents (one_by_one acts next) n word
one_by_one_comes contents [] next n word h = h
one_by_one_comes contents (act ∷ acts) next n word h = one_by_one_comes contents acts next n word h

-- memory may be wanted between any two of them
pub one_by_one_stop : (contents : ℕ → List ℕ) (acts : List Act) (next : Course) → MayStopHere contents next → MayStopHere contents (one_by_one acts next)
one_by_one_stop contents [] next h = h
one_by_one_stop contents (act ∷ acts) next h = (inl refl, refl)

one_by_one_behind : (contents : ℕ → List ℕ) (acts more : List Act) (next : Course) → MayStop contents next more → MayStop contents (one_by_one acts next) (acts ++ more)
one_by_one_behind contents [] more next h = h
one_by_one_behind contents (act ∷ acts) more next h = inr (acts ++ more, refl, one_by_one_behind contents acts more next h)

one_by_one_known : (contents : ℕ → List ℕ) (acts : List Act) (next : Course) → AllKnown contents next → AllKnown contents (one_by_one acts next)
one_by_one_known contents [] next h = h
one_by_one_known contents (act ∷ acts) next h = one_by_one_known contents acts next h

one_by_one_undecided : (contents : ℕ → List ℕ) (acts : List Act) (next : Course) (n : ℕ) → must_refuse contents next n ≡ false → must_refuse contents (one_by_one acts next) n ≡ false
one_by_one_undecided contents [] next n h = h
one_by_one_undecided contents (act ∷ acts) next n h = refl

at_once_lead : (contents : ℕ → List ℕ) (whole : Course) (opens : ℕ) (done acts : List Act) (next : Course) → MayStop contents next [] → ((n : ℕ) → must_refuse contents next n ≡ false) → LeadsTo contents whole opens done (one_by_one acts next) → LeadsTo contents whole opens done (Does acts next)
at_once_lead contents whole opens done acts next may undecided l =
    grind (arith, one_by_one_reply, one_by_one_inputs, one_by_one_comes, one_by_one_stop, one_by_one_behind, one_by_one_known, one_by_one_undecided)

-- they are done at once where none of them fails but the last that is begun
pub at_once : (words : List (List ℕ)) (old new : Outside) (below : ℕ) (done acts : List Act) (next : Course) → ((contents : ℕ → List ℕ) → MayStop contents next []) → ((contents : ℕ → List ℕ) (n : ℕ) → must_refuse contents next n ≡ false) → Stands words old new below done (one_by_one acts next)
    → Stands words old new below done (Does acts next)
at_once words old new below done acts next may undecided s = record {
  opens = s.opens;
  did = s.did;
  counts = s.counts;
  idle = s.idle;
  shut = s.shut;
  read = s.read;
  leads = λ contents agrees. at_once_lead contents (course_of words) s.opens done acts next (may contents) (undecided contents) (s.leads contents agrees);
  told = weaker old.disk new.disk (λ files. LeadsTo (contents_of words files) (course_of words) s.opens done (one_by_one acts next)) (λ files. LeadsTo (contents_of words files) (course_of words) s.opens done (Does acts next))
      (λ files. at_once_lead (contents_of words files) (course_of words) s.opens done acts next (may (contents_of words files)) (undecided (contents_of words files))) s.told;
}

-- an act failed
pub fails : {T E : Type 0} (words : List (List ℕ)) (old mid new : Outside) (below : ℕ) (done acts : List Act) (next : Course) (e : E) → Stands words old mid below done (Does acts next)
    → Performs {T = T} {E = E} acts mid new (Err e) → Acted words old new (Err WriteFault)
fails words old mid new below done acts next e s performs =
    let part = performs.failed.0 in
    let act = performs.failed.1 in
    let owes : (contents : ℕ → List ℕ) → LeadsTo contents (course_of words) s.opens done (Does acts next) → Owes words contents old new s.opens (done ++ part) (Err WriteFault) =
    λ contents l. (
      act,
      subst (λ (r : Reply). FailedAt act (done ++ part) r.acts) (sym l.reply) (failed_behind act done part (acts ++ (reply_to contents next).acts) (failed_before act part acts (reply_to contents next).acts performs.failed.2)),
      failed_since act old mid new s.counts performs.failed.4,
    ) in
    record {
      done = done ++ part;
      opens = s.opens;
      did = Did-then done part (with_openings s.opens old) mid new s.did performs.failed.3;
      owed = owed_by words old new s.opens (done ++ part) (Err WriteFault) s.read (owes s.read (s.leads s.read (λ w less. refl)))
          (weaker old.disk new.disk (λ files. LeadsTo (contents_of words files) (course_of words) s.opens done (Does acts next)) (λ files. Owes words (contents_of words files) old new s.opens (done ++ part) (Err WriteFault))
          (λ files. owes (contents_of words files))
          (further _ old.disk mid.disk new.disk (λ files. LeadsTo (contents_of words files) (course_of words) s.opens done (Does acts next)) performs.failed.3.disk s.told));
      shut = λ other. absurd (other refl);
    }

-- the last acts of a command were done
pub last_acts : {T E : Type 0} (words : List (List ℕ)) (old mid new : Outside) (below : ℕ) (done acts : List Act) (d : Done) (u : T) → Stands words old mid below done (Does acts (Ends (Ok d)))
    → Performs {T = T} {E = E} acts mid new (Ok u) → writes_after acts false ≡ false → Acted words old new (Ok d)
last_acts {T} {E} words old mid new below done acts d u s performs shut =
    ends words old new below (done ++ acts) (Ok d) (does {T = T} {E = E} words old mid new below done acts (Ends (Ok d)) u s performs shut) tt
