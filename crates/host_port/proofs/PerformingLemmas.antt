-- Acts that are done one after the other.
use Rattle.std.proofs.Common.{ℕ, ◌<◌, List, [], ◌∷◌, ◌++◌, length, take, Result, Ok, Err as Error, inl, inr, refl, subst, ◌∙◌}
use Rattle.host_port.specs.Act.{Act, Create, Write, Close, Err}
use Rattle.host_port.specs.Outside.{Outside, Rose, KeepsCounts}
use Rattle.host_port.specs.Host.{Creates, Closes, CountsOf, Puts, act_of, Writes}
use Rattle.host_port.specs.declared.side.Side.{Side}
use Rattle.host_port.specs.declared.side.Side.TheVariants.{File, Output, ErrorOutput}
use Rattle.host_port.specs.Performing.{FailedAt, FaultOf, ActFailed, Performs}
use Rattle.host_port.proofs.Laws.{Did-then, KeepsCounts-then}
use Rattle.host_port.proofs.SideLemmas.{kept_by}

-- acts that were done stand in front
pub failed_behind : (act : Act) (front part acts : List Act) → FailedAt act part acts → FailedAt act (front ++ part) (front ++ acts)
failed_behind act [] part acts h = h
failed_behind act (first ∷ front) part acts h = inl (refl, failed_behind act front part acts h)

-- and more are due behind
pub failed_before : (act : Act) (part acts more : List Act) → FailedAt act part acts → FailedAt act part (acts ++ more)
failed_before act part [] more h = absurd h
failed_before act [] (due ∷ acts) more h = h
failed_before act (first ∷ part) (due ∷ acts) more (inl h) = inl (h.0, failed_before act part acts more h.1)
failed_before act (first ∷ part) (due ∷ acts) more (inr h) = inr h

fault_since : (act : Act) (old mid new : Outside) → KeepsCounts old mid → FaultOf act mid new → FaultOf act old new
fault_since (Err bytes) old mid new k f = (subst (λ (n : ℕ). Rose n new.err_faults) k.err f.0, f.1 ∙ k.write)
fault_since act old mid new k f = (subst (λ (n : ℕ). Rose n new.write_faults) k.write f.0, f.1 ∙ k.err, f.2)

pub failed_since : (act : Act) (old mid new : Outside) → KeepsCounts old mid → ActFailed act mid new → ActFailed act old new
failed_since act old mid new k f = record { own = fault_since act old mid new k f.own; read = f.read ∙ k.read }

-- acts were done, and then others, or others failed
pub performs_then : {T U E : Type 0} (front back : List Act) (x y z : Outside) (u : T) (r : Result U E) → Performs {T = T} {E = E} front x y (Ok u) → Performs back y z r → Performs (front ++ back) x z r
performs_then front back x y z u (Ok v) p q = record {
  done = Did-then front back x y z p.done q.done;
  kept = KeepsCounts-then x y z p.kept q.kept;
  failed = tt;
}
performs_then front back x y z u (Error e) p q =
    let part = q.failed.0 in
    let act = q.failed.1 in
    record {
      done = tt;
      kept = tt;
      failed = (front ++ part, act, failed_behind act front part back q.failed.2, Did-then front part x y z p.done q.failed.3, failed_since act x y z p.kept q.failed.4);
    }

-- acts failed that others follow
pub performs_front : {T U E : Type 0} (front back : List Act) (x y : Outside) (e : E) → Performs {T = T} front x y (Error e) → Performs {T = U} (front ++ back) x y (Error e)
performs_front front back x y e p = search failed_before

-- one act: a text that goes to a side, a file that is created, one that is closed

-- a call that put a piece to a side failed
pub piece_failed : (T E : Type 0) (side : Side) (piece : List ℕ) (x y : Outside) (e : E) → CountsOf {T = T} {E = E} side x y (Error e) → ActFailed (act_of side piece) x y
piece_failed T E File piece x y e counts = record { own = (counts.own, counts.err, counts.last); read = counts.read }
piece_failed T E Output piece x y e counts = record { own = (counts.own, counts.err, counts.last); read = counts.read }
piece_failed T E ErrorOutput piece x y e counts = record { own = (counts.own, counts.write); read = counts.read }

-- where a part of it went out
pub piece_part : (side : Side) (piece : List ℕ) (n : ℕ) (more : List Act) → n < length piece → FailedAt (act_of side piece) (act_of side (take n piece) ∷ []) (act_of side piece ∷ more)
piece_part File piece n more below = inr ((n, below, refl), refl, refl)
piece_part Output piece n more below = inr ((n, below, refl), refl, refl)
piece_part ErrorOutput piece n more below = inr ((n, below, refl), refl, refl)

pub puts_performs : {T E : Type 0} (side : Side) (text : List ℕ) (x y : Outside) (r : Result T E) → Puts side text x y r → Performs (act_of side text ∷ []) x y r
puts_performs {T} {E} side text x y (Ok u) puts = record { done = puts.takes.done; kept = kept_by T E side x y u puts.counts; failed = tt }
puts_performs {T} {E} side text x y (Error e) puts =
    let n = puts.takes.part.0 in
    record {
      done = tt;
      kept = tt;
      failed = (act_of side (take n text) ∷ [], act_of side text, piece_part side text n [] puts.takes.part.1, puts.takes.part.2, piece_failed T E side text x y e puts.counts);
    }

pub create_performs : {T E : Type 0} (name : List ℕ) (x y : Outside) (r : Result T E) → Creates name x y r → Writes x y r → Performs (Create name ∷ []) x y r
create_performs name x y (Ok u) creates counts = record { done = creates.done; kept = record { read = counts.read; write = counts.own; err = counts.err }; failed = tt }
create_performs name x y (Error e) creates counts = record { done = tt; kept = tt; failed = ([], Create name, refl, creates.failed, record { own = (counts.own, counts.err, counts.last); read = counts.read }) }

pub close_performs : {T E : Type 0} (x y : Outside) (r : Result T E) → Closes x y → Writes x y r → Performs (Close ∷ []) x y r
close_performs x y (Ok u) closes counts = record { done = closes.done; kept = record { read = counts.read; write = counts.own; err = counts.err }; failed = tt }
close_performs x y (Error e) closes counts = record { done = tt; kept = tt; failed = (Close ∷ [], Close, inr (tt, refl, refl), closes.done, record { own = (counts.own, counts.err, counts.last); read = counts.read }) }

-- a file is created, a text written to it, and closed
pub create_failed : {T E : Type 0} (name text : List ℕ) (x y : Outside) (e : E) → Creates {T = T} name x y (Error e) → Writes {T = T} x y (Error e) → Performs {T = T} (Create name ∷ Write text ∷ Close ∷ []) x y (Error e)
create_failed {T} name text x y e creates counts = performs_front {T = T} (Create name ∷ []) (Write text ∷ Close ∷ []) x y e (create_performs {T = T} name x y (Error e) creates counts)

pub write_failed : {T E : Type 0} (name text : List ℕ) (x y z : Outside) (u : T) (e : E) → Creates {T = T} {E = E} name x y (Ok u) → Writes {T = T} {E = E} x y (Ok u) → Puts {T = T} File text y z (Error e)
    → Performs {T = T} (Create name ∷ Write text ∷ Close ∷ []) x z (Error e)
write_failed {T} {E} name text x y z u e creates counts puts =
    performs_then {T = T} {U = T} {E = E} (Create name ∷ []) (Write text ∷ Close ∷ []) x y z u (Error e) (create_performs {T = T} {E = E} name x y (Ok u) creates counts)
    (performs_front {T = T} (Write text ∷ []) (Close ∷ []) y z e (puts_performs {T = T} {E = E} File text y z (Error e) puts))

pub file_performs : {T E : Type 0} (name text : List ℕ) (x y z a : Outside) (u v : T) (r : Result T E) → Creates {T = T} {E = E} name x y (Ok u) → Writes {T = T} {E = E} x y (Ok u) → Puts {T = T} {E = E} File text y z (Ok v)
    → Closes z a → Writes z a r → Performs (Create name ∷ Write text ∷ Close ∷ []) x a r
file_performs {T} {E} name text x y z a u v r creates counts puts closes ends =
    performs_then {T = T} {U = T} {E = E} (Create name ∷ []) (Write text ∷ Close ∷ []) x y a u r (create_performs {T = T} {E = E} name x y (Ok u) creates counts)
    (performs_then {T = T} {U = T} {E = E} (Write text ∷ []) (Close ∷ []) y z a v r (puts_performs {T = T} {E = E} File text y z (Ok v) puts) (close_performs z a r closes ends))
