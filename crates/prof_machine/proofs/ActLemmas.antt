-- What a run's prints leave on the outside.
use Rattle.std.proofs.Common.{◌+◌, ◌++◌, ◌<◌, Bool, List, [], ap, append_assoc, arith, eqb, false, refl, subst, sym, take, true, ℕ, ◌∙◌, ◌∷◌, ◌≡◌, ◌≤◌}
use Rattle.std.specs.Prelude.{Err, Result, ◌≢◌, ⊤}
use Rattle.std.proofs.lemmas.List.{append-nil}
use Rattle.host_port.proofs.Laws.{Did-nothing, Did-then}
use Rattle.host_port.specs.Act.{Act}
use Rattle.host_port.specs.Host.{CountsOf, Puts, act_of}
use Rattle.host_port.specs.declared.side.Side.{Side}
use Rattle.host_port.specs.declared.side.Side.TheVariants.{File}
use Rattle.host_port.specs.Outside.{Did, KeepsCounts, Outside}
use Rattle.rv_step.specs.Memory.{IsInside, Memory, read_at}
use Rattle.prof_machine.proofs.PrintLemmas.{prints_planned}
use Rattle.prof_machine.specs.Ecalls.{is_output, side_of, write_acts}
use Rattle.prof_machine.specs.Plan.{after_drive, most_turns, world_at}
use Rattle.prof_machine.specs.Prints.{ArePrinted, BreaksOff, IsCutShort}
use Rattle.prof_machine.specs.World.{World}
use Rattle.prof_machine.specs.declared.machine.Machine.{Machine}

-- what was printed is behind what had been printed
pub printed_as : (w u v : World) (x y : Outside) → v.prints ≡ u.prints → ArePrinted w u x y → ArePrinted w v x y
printed_as w u v x y same p = record { more = p.more; behind = same ∙ p.behind; did = p.did }

pub breaks_as : (w u v : World) (x y : Outside) → v.prints ≡ u.prints → BreaksOff w u x y → BreaksOff w v x y
breaks_as w u v x y same off = record { more = off.more; behind = same ∙ off.behind; cut = off.cut }

-- nothing was printed
pub nothing_printed : (w v : World) (x : Outside) → v.prints ≡ w.prints → ArePrinted w v x x
nothing_printed w v x same = record { more = []; behind = same ∙ sym (append-nil w.prints); did = Did-nothing x }

-- first these prints, and then those
pub printed_then : (u v w : World) (x y z : Outside) → ArePrinted u v x y → ArePrinted v w y z → ArePrinted u w x z
printed_then u v w x y z p q = record {
  more = p.more ++ q.more;
  behind = q.behind ∙ ap (λ (front : List Act). front ++ q.more) p.behind ∙ append_assoc u.prints p.more q.more;
  did = Did-then p.more q.more x y z p.did q.did;
}

-- ---- prints that fail

side_is : (d : ℕ) (b : Bool) → eqb d 1 ≡ b → side_of d ≢ File
side_is d b is = grind arith

own_count : (T E : Type 0) (side : Side) (old new : Outside) (e : E) → CountsOf {T = T} {E = E} side old new (Err e) → CountsOf {T = ⊤} {E = ⊤} side old new (Err tt)
own_count T E side old new e p = grind arith

-- one print, which failed
pub cut_short : {T E : Type 0} (result : Result T E) (e : E) (d : ℕ) (piece : List ℕ) (old new : Outside) → result ≡ Err e → Puts (side_of d) piece old new result → IsCutShort (act_of (side_of d) piece ∷ []) old new
cut_short {T} {E} result e d piece old new is puts =
    let P : Result T E → Type 0 = λ x. Puts (side_of d) piece old new x in
    let failed : Puts (side_of d) piece old new (Err e) = subst P is puts in
    let part = failed.takes.part in
    record {
      before = [];
      side = side_of d;
      piece = piece;
      last = refl;
      n = part.0;
      part = part.1;
      did = part.2;
      counts = own_count T E (side_of d) old new e failed.counts;
      no_file = side_is d (eqb d 1) refl;
    }

counts_after : (side : Side) (a b c : Outside) → KeepsCounts a b → CountsOf {T = ⊤} {E = ⊤} side b c (Err tt) → CountsOf {T = ⊤} {E = ⊤} side a c (Err tt)
counts_after side a b c keeps p = grind arith

cut_after : (front acts : List Act) (x y z : Outside) → Did front x y → KeepsCounts x y → IsCutShort acts y z → IsCutShort (front ++ acts) x z
cut_after front acts x y z did keeps cut =
    let whole = act_of cut.side cut.piece in
    let part = act_of cut.side (take cut.n cut.piece) in
    let D : List Act → Type 0 = λ acts. Did acts x z in
    record {
      before = front ++ cut.before;
      side = cut.side;
      piece = cut.piece;
      last = ap (λ (back : List Act). front ++ back) cut.last ∙ sym (append_assoc front cut.before (whole ∷ []));
      n = cut.n;
      part = cut.part;
      did = subst D (sym (append_assoc front cut.before (part ∷ []))) (Did-then front (cut.before ++ part ∷ []) x y z did cut.did);
      counts = counts_after cut.side x y z keeps cut.counts;
      no_file = cut.no_file;
    }

-- what was printed before it stands in front
pub breaks_after : (u v w : World) (x y z : Outside) → ArePrinted u v x y → KeepsCounts x y → BreaksOff v w y z → BreaksOff u w x z
breaks_after u v w x y z p keeps off = grind (arith, append_assoc, cut_after)

-- of all that the turns of the plan print, what was printed is the front, and the piece that was cut comes next
pub breaks_front : (m : Machine) (w : World) (k n : ℕ) (x y : Outside) → k ≤ n → (off : BreaksOff w (world_at m w k) x y)
    → (more : List Act) × ((world_at m w n).prints ≡ w.prints ++ (off.cut.before ++ act_of off.cut.side off.cut.piece ∷ more))
breaks_front m w k n x y le off =
    let p = prints_planned m w k n le in
    grind (arith, append_assoc)

-- The same of a run that was driven: a print failed in turn n of the plan, and this is what the whole run would
-- have printed.
pub driven_front : (m : Machine) (w : World) (n : ℕ) (x y : Outside) → n < most_turns m.setup → (off : BreaksOff w (world_at m w (n + 1)) x y)
    → (more : List Act) × ((after_drive m w).prints ≡ w.prints ++ (off.cut.before ++ act_of off.cut.side off.cut.piece ∷ more))
unfolding after_drive
driven_front m w n x y few off = breaks_front m w (n + 1) (most_turns m.setup) x y (omega (arith, few)) off

-- ---- what a write prints

-- bytes of memory, where it prints any
pub write_acts_are : (m : Memory) (d from n : ℕ) (bytes : List ℕ) → is_output d ≡ true → eqb n 0 ≡ false → IsInside m from n → bytes ≡ read_at m from n → write_acts m d from n ≡ act_of (side_of d) bytes ∷ []
write_acts_are m d from n bytes known some inside is = grind arith
