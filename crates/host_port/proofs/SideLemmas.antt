-- What a call counts, by the side that its bytes go to.
use Rattle.std.proofs.Common.{ℕ, List, [], ◌∷◌, Result, Ok, Err, refl, subst, ◌∙◌}
use Rattle.host_port.specs.Outside.{Outside, Did, Rose, KeepsCounts}
use Rattle.host_port.specs.Buffered.{IsReady}
use Rattle.host_port.specs.Host.{act_of, CountsOf}
use Rattle.host_port.specs.declared.side.Side.{Side}
use Rattle.host_port.specs.declared.side.Side.TheVariants.{File, Output, ErrorOutput}
use Rattle.host_port.proofs.Piecewise.{IsPiecewise, write_piecewise, out_piecewise, err_piecewise}

pub side_piecewise : (side : Side) → IsPiecewise (act_of side)
side_piecewise File = write_piecewise
side_piecewise Output = out_piecewise
side_piecewise ErrorOutput = err_piecewise

pub counts_same : (T E : Type 0) (side : Side) (x : Outside) (u : T) → CountsOf {T = T} {E = E} side x x (Ok u)
counts_same T E File x u = record { own = refl; last = tt; read = refl; err = refl }
counts_same T E Output x u = record { own = refl; last = tt; read = refl; err = refl }
counts_same T E ErrorOutput x u = record { own = refl; read = refl; write = refl }

pub counts_then : {T E : Type 0} (side : Side) (x y z : Outside) (u : T) (r : Result T E) → CountsOf {T = T} {E = E} side x y (Ok u) → CountsOf side y z r → CountsOf side x z r
counts_then File x y z u (Ok v) p q = record { own = q.own ∙ p.own; last = q.last; read = q.read ∙ p.read; err = q.err ∙ p.err }
counts_then File x y z u (Err e) p q = record { own = subst (λ (k : ℕ). Rose k z.write_faults) p.own q.own; last = q.last; read = q.read ∙ p.read; err = q.err ∙ p.err }
counts_then Output x y z u (Ok v) p q = record { own = q.own ∙ p.own; last = q.last; read = q.read ∙ p.read; err = q.err ∙ p.err }
counts_then Output x y z u (Err e) p q = record { own = subst (λ (k : ℕ). Rose k z.write_faults) p.own q.own; last = q.last; read = q.read ∙ p.read; err = q.err ∙ p.err }
counts_then ErrorOutput x y z u (Ok v) p q = record { own = q.own ∙ p.own; read = q.read ∙ p.read; write = q.write ∙ p.write }
counts_then ErrorOutput x y z u (Err e) p q = record { own = subst (λ (k : ℕ). Rose k z.err_faults) p.own q.own; read = q.read ∙ p.read; write = q.write ∙ p.write }

pub counts_kept : (T E : Type 0) (side : Side) (x y : Outside) (u : T) → KeepsCounts x y → CountsOf {T = T} {E = E} side x y (Ok u)
counts_kept T E File x y u k = record { own = k.write; last = tt; read = k.read; err = k.err }
counts_kept T E Output x y u k = record { own = k.write; last = tt; read = k.read; err = k.err }
counts_kept T E ErrorOutput x y u k = record { own = k.err; read = k.read; write = k.write }

-- how a failure counts does not depend on what the call would have answered
pub counts_fail : (S T E : Type 0) (side : Side) (x y : Outside) (e : E) → CountsOf {T = S} side x y (Err e) → CountsOf {T = T} side x y (Err e)
counts_fail S T E File x y e k = record { own = k.own; last = k.last; read = k.read; err = k.err }
counts_fail S T E Output x y e k = record { own = k.own; last = k.last; read = k.read; err = k.err }
counts_fail S T E ErrorOutput x y e k = record { own = k.own; read = k.read; write = k.write }

-- a call that didn't fail counted nothing
pub kept_by : (T E : Type 0) (side : Side) (x y : Outside) (u : T) → CountsOf {T = T} {E = E} side x y (Ok u) → KeepsCounts x y
kept_by T E File x y u k = record { read = k.read; write = k.own; err = k.err }
kept_by T E Output x y u k = record { read = k.read; write = k.own; err = k.err }
kept_by T E ErrorOutput x y u k = record { read = k.read; write = k.write; err = k.own }

-- a side to which bytes went is as ready as before
pub still_ready : (side : Side) (bytes : List ℕ) (x y : Outside) → Did (act_of side bytes ∷ []) x y → IsReady side x → IsReady side y
still_ready File bytes x y did ready = did.writing ∙ ready
still_ready Output bytes x y did ready = tt
still_ready ErrorOutput bytes x y did ready = tt
