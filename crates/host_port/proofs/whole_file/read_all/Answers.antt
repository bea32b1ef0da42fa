use Rattle.std.proofs.Common.{◌≡◌, ◌++◌, ◌∙◌, ℕ, false, List, length, take, length-take, length-append, sym, subst, arith}
use Rattle.std.proofs.lemmas.Bool.{ne_eqb}
use Rattle.std.proofs.lemmas.Result.{err_from_is_err_and}
use Rattle.host_port.proofs.LoadLemmas.{Loading, all_read, not_moved, not_taken, taken, too_large}
use Rattle.host_port.proofs.whole_file.read_all.Goals as goal

pub returns-in_err-open_input : goal.returns-in_err-open_input
returns-in_err-open_input g c = grind arith

pub loop-n-init : goal.loop-n-init
loop-n-init g c = grind arith

pub returns-in_err-n : goal.returns-in_err-n
returns-in_err-n g c =
    let p = err_from_is_err_and c.from_residual-in_err-n.result c.from_residual-in_err-n.ensures.1 in
    let far = c.loop-n.invariant.far in
    rw (p.1, p.2) (not_moved c.args.name.now c.args.limit far.0 c.loop-n.piece c.read_front.new.piece (g.H.Host.outside c.args.host.now) (g.H.Host.outside c.loop-n.host) (g.H.Host.outside c.read_front.new.host) c.in_err-n.field-0.0 far.1 c.in_err-n.ensures.moves c.in_err-n.ensures.counts)

pub returns-then-n-eq0 : goal.returns-then-n-eq0
returns-then-n-eq0 g c =
    let was = c.loop-n.invariant in
    let far = was.far in
    let n = c.in_ok-n.n in
    let buf = c.read_front.new.piece in
    let front : length (take n buf) ≡ n = omega (arith, length-take n buf, c.if-n-eq0.true) in (
      far.0,
      all_read c.args.name.now c.args.limit n far.0 c.loop-n.piece buf (g.H.Host.outside c.args.host.now) (g.H.Host.outside c.loop-n.host) (g.H.Host.outside c.read_front.new.host) far.1 c.in_ok-n.ensures.moves c.in_ok-n.ensures.counts
          front (g.met.H.Host.consistent c.read_front.new.host) c.if-n-eq0.true,
      far.2,
      far.3,
    )

pub returns-then-n-left : goal.returns-then-n-left
returns-then-n-left g c =
    let was = c.loop-n.invariant in
    let far = was.far in
    let n = c.in_ok-n.n in
    let buf = c.read_front.new.piece in
    let few = c.in_ok-n.ensures.few in
    let front : length (take n buf) ≡ n = omega (arith, length-take n buf, few, c.min.ensures, c.in_ok-n.ensures.room, was.room) in
    too_large c.args.name.now c.args.limit n far.0 c.loop-n.piece buf (g.H.Host.outside c.args.host.now) (g.H.Host.outside c.loop-n.host) (g.H.Host.outside c.read_front.new.host) far.1 c.in_ok-n.ensures.moves c.in_ok-n.ensures.counts
    front (g.met.H.Host.consistent c.read_front.new.host) (omega (arith, far.3, c.if-n-left.true, was.within)) (omega (arith, far.3, was.within, few, c.min.ensures)) (c.in_ok-n.ensures.moves.at_end ∙ ne_eqb n 0 c.if-n-eq0.false)

pub take-requires : goal.take-requires
take-requires g c = grind arith

pub returns-in_err-taker : goal.returns-in_err-taker
returns-in_err-taker g c = grind (arith, not_taken, ne_eqb)

pub loop-n-preserved : goal.loop-n-preserved
loop-n-preserved g c =
    let was = c.loop-n.invariant in
    let far = was.far in
    let n = c.in_ok-n.n in
    let buf = c.read_front.new.piece in
    let piece = c.split_at.result.0.now in
    let front : piece ≡ take n buf = c.split_at.ensures.front in
    let long : length (take n buf) ≡ n = omega (arith, length-take n buf, c.in_ok-n.ensures.few, c.min.ensures, c.in_ok-n.ensures.room, was.room) in
    let going : (g.H.Host.outside c.read_front.new.host).at_end ≡ false = c.in_ok-n.ensures.moves.at_end ∙ ne_eqb n 0 c.if-n-eq0.false in
    let more = taken c.args.name.now c.args.limit n far.0 c.loop-n.piece buf (g.H.Host.outside c.args.host.now) (g.H.Host.outside c.loop-n.host) (g.H.Host.outside c.read_front.new.host) far.1 c.in_ok-n.ensures.moves c.in_ok-n.ensures.counts
    long (g.met.H.Host.consistent c.read_front.new.host) (omega (arith, far.3, c.if-n-left.false, was.within)) going in
    record {
      far = (
        far.0 ++ piece,
        subst (λ (v : List ℕ). Loading c.args.name.now c.args.limit (far.0 ++ v) (g.H.Host.outside c.args.host.now) (g.H.Host.outside c.read_front.new.host)) (sym front) more,
        c.in_ok-taker.ensures far.0 far.2,
        omega (arith, far.3, c.split_at.ensures.front_len, length-append far.0 piece),
      );
      within = omega (arith, was.within, c.if-n-left.false);
      room = omega (arith, c.in_ok-n.ensures.room, was.room);
    }
