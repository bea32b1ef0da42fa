-- How acts follow one another.
use Rattle.std.proofs.Common.{◌≡◌, ℕ, Bool, List, [], ◌∷◌, ◌++◌, Option, Some, None, refl, sym, ap, subst, ◌∙◌, append_assoc}
use Rattle.std.proofs.lemmas.List.{append-nil}
use Rattle.host_port.specs.Act.{Act, Create, Write, Close, Out, Err, Disk, disk_after_act, disk_after, print_of, complaint_of, writes_after_act, writes_after, file_changes_after_act, file_changes_after}
use Rattle.host_port.specs.Outside.{Outside, Becomes, Did, KeepsInput, KeepsCounts}

-- what is told at last was told in between
pub Becomes-then : {T : Type 0} (f g : T → T) (a b c : Option T) → Becomes f a b → Becomes g b c → Becomes (λ x. g (f x)) a c
Becomes-then f g a b None p q = tt
Becomes-then f g None None (Some z) p q = absurd cc
Becomes-then f g (Some x) None (Some z) p q = absurd cc
Becomes-then f g None (Some y) (Some z) p q = absurd cc
Becomes-then {T} f g (Some x) (Some y) (Some z) p q =
    let e : f x ≡ y = cc in
    ap (λ (v : T). Some (g v)) e ∙ q

pub Becomes-by : {T : Type 0} (f g : T → T) (a b : Option T) → ((x : T) → f x ≡ g x) → Becomes f a b → Becomes g a b
Becomes-by f g a None same p = tt
Becomes-by f g None (Some y) same p = p
Becomes-by {T} f g (Some x) (Some y) same p = ap (λ (v : T). Some v) (sym (same x)) ∙ p

pub Becomes-same : {T : Type 0} (a : Option T) → Becomes (λ x. x) a a
Becomes-same None = tt
Becomes-same (Some x) = refl

pub disk_after-append : (front back : List Act) (d : Disk) → disk_after (front ++ back) d ≡ disk_after back (disk_after front d)
disk_after-append [] back d = refl
disk_after-append (a ∷ front) back d = disk_after-append front back (disk_after_act a d)

pub printed-append : (front back : List Act) → print_of (front ++ back) ≡ print_of front ++ print_of back
printed-append [] back = refl
printed-append (Out x ∷ front) back = ap (λ (v : List ℕ). x ++ v) (printed-append front back) ∙ sym (append_assoc x (print_of front) (print_of back))
printed-append (Create x ∷ front) back = printed-append front back
printed-append (Write x ∷ front) back = printed-append front back
printed-append (Close ∷ front) back = printed-append front back
printed-append (Err x ∷ front) back = printed-append front back

pub complained-append : (front back : List Act) → complaint_of (front ++ back) ≡ complaint_of front ++ complaint_of back
complained-append [] back = refl
complained-append (Err x ∷ front) back = ap (λ (v : List ℕ). x ++ v) (complained-append front back) ∙ sym (append_assoc x (complaint_of front) (complaint_of back))
complained-append (Create x ∷ front) back = complained-append front back
complained-append (Write x ∷ front) back = complained-append front back
complained-append (Close ∷ front) back = complained-append front back
complained-append (Out x ∷ front) back = complained-append front back

pub writes_after-append : (front back : List Act) (w : Bool) → writes_after (front ++ back) w ≡ writes_after back (writes_after front w)
writes_after-append [] back w = refl
writes_after-append (a ∷ front) back w = writes_after-append front back (writes_after_act a w)

pub file_changes_after-append : (front back : List Act) (n : ℕ) → file_changes_after (front ++ back) n ≡ file_changes_after back (file_changes_after front n)
file_changes_after-append [] back n = refl
file_changes_after-append (a ∷ front) back n = file_changes_after-append front back (file_changes_after_act a n)

-- acts that leave the same, whatever was before them
pub record AreAlike (front back : List Act) : Type 0 where
  pub disk : (d : Disk) → disk_after front d ≡ disk_after back d
  pub out : print_of front ≡ print_of back
  pub err : complaint_of front ≡ complaint_of back
  pub writing : (w : Bool) → writes_after front w ≡ writes_after back w
  pub file_changes : (n : ℕ) → file_changes_after front n ≡ file_changes_after back n

pub Did-alike : (front back : List Act) (x y : Outside) → AreAlike front back → Did front x y → Did back x y
Did-alike front back x y same did = record {
  disk = Becomes-by (disk_after front) (disk_after back) x.disk y.disk same.disk did.disk;
  out = subst (λ (v : List ℕ). Becomes (λ b. b ++ v) x.out y.out) same.out did.out;
  err = subst (λ (v : List ℕ). Becomes (λ b. b ++ v) x.err y.err) same.err did.err;
  writing = did.writing ∙ same.writing x.is_writing;
  file_changes = did.file_changes ∙ same.file_changes x.file_changes;
  opened = did.opened;
}

-- first these acts, and then those
pub Did-then : (front back : List Act) (x y z : Outside) → Did front x y → Did back y z → Did (front ++ back) x z
Did-then front back x y z first second = record {
  disk = Becomes-by _ _ x.disk z.disk (λ d. sym (disk_after-append front back d)) (Becomes-then (disk_after front) (disk_after back) x.disk y.disk z.disk first.disk second.disk);
  out = Becomes-by _ _ x.out z.out (λ b. append_assoc b (print_of front) (print_of back) ∙ ap (λ (v : List ℕ). b ++ v) (sym (printed-append front back))) (Becomes-then (λ b. b ++ print_of front) (λ b. b ++ print_of back) x.out y.out z.out first.out second.out);
  err = Becomes-by _ _ x.err z.err (λ b. append_assoc b (complaint_of front) (complaint_of back) ∙ ap (λ (v : List ℕ). b ++ v) (sym (complained-append front back))) (Becomes-then (λ b. b ++ complaint_of front) (λ b. b ++ complaint_of back) x.err y.err z.err first.err second.err);
  writing = second.writing ∙ ap (writes_after back) first.writing ∙ sym (writes_after-append front back x.is_writing);
  file_changes = second.file_changes ∙ ap (file_changes_after back) first.file_changes ∙ sym (file_changes_after-append front back x.file_changes);
  opened = second.opened ∙ first.opened;
}

-- nothing was done between a moment and itself
pub Did-nothing : (x : Outside) → Did [] x x
Did-nothing x = record {
  disk = Becomes-same x.disk;
  out = Becomes-by _ _ x.out x.out (λ b. sym (append-nil b)) (Becomes-same x.out);
  err = Becomes-by _ _ x.err x.err (λ b. sym (append-nil b)) (Becomes-same x.err);
  writing = refl;
  file_changes = refl;
  opened = refl;
}

pub KeepsInput-same : (x : Outside) → KeepsInput x x
KeepsInput-same x = record { open_stays = refl; end_stays = refl; rest_stays = Becomes-same x.rest }

pub KeepsInput-then : (x y z : Outside) → KeepsInput x y → KeepsInput y z → KeepsInput x z
KeepsInput-then x y z p q = record {
  open_stays = q.open_stays ∙ p.open_stays;
  end_stays = q.end_stays ∙ p.end_stays;
  rest_stays = Becomes-then (λ r. r) (λ r. r) x.rest y.rest z.rest p.rest_stays q.rest_stays;
}

pub KeepsCounts-same : (x : Outside) → KeepsCounts x x
KeepsCounts-same x = record { read = refl; write = refl; err = refl }

pub KeepsCounts-then : (x y z : Outside) → KeepsCounts x y → KeepsCounts y z → KeepsCounts x z
KeepsCounts-then x y z p q = record { read = q.read ∙ p.read; write = q.write ∙ p.write; err = q.err ∙ p.err }
