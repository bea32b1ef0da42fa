use Rattle.std.proofs.Common.{◌≡◌, ◌<◌, ◌≤◌, ◌++◌, ℕ, List, length, length-append, refl, sym, ap, subst, ◌∙◌, arith}
use Rattle.gmon_cells.proofs.CellLemmas.{filled_whole, filled_long}
use Rattle.gmon_gnu.specs.declared.state.Part.{Part}
use Rattle.gmon_gnu.specs.declared.state.Part.TheVariants as part
use Rattle.gp_base.specs.Bytes.{word_at}
use Rattle.gmon_gnu.specs.Going.{Between, Reads}
use Rattle.gmon_gnu.specs.Held.{recs_of, open_of, rest_of, IsPart}
use Rattle.gmon_gnu.proofs.StateLemmas.{goes_at, header_goes, header_stops, reads_rest}
use Rattle.gmon_gnu.proofs.TakingLemmas.{can_take_on}
use Rattle.gmon_gnu.specs.Taking.{CanTake}
use Rattle.gp_base.specs.declared.refusal.GmonRefusal.TheVariants.{Version}
use Rattle.gmon_gnu.proofs.state.State.take_header.Goals as goal
use Rattle.gmon_gnu.proofs.state.State.take_header.Goals.{then-version-eq-VERSION, else-version-eq-VERSION}

pub returns : goal.returns
returns c =
    let s = c.args.self.now in
    let piece = c.args.piece.now in
    let header = c.fill-rest.new.self in
    let rest = c.fill-rest.result.now in
    let all : 20 ≤ length header = omega (arith, c.if-len-lt-HEADER.false, c.len.ensures.len) in
    let part_is : length s.torn < 20 = subst (λ (q : Part). IsPart q (length s.counters.cells.items) (length s.pairs.cells.items) s.torn s.counters.torn s.pairs.torn) c.requires.part c.requires.can.held.at_part in
    let within : length s.torn ≤ 20 = omega (arith, part_is) in
    let twenty = filled_long 20 s.torn header piece within c.fill-rest.ensures.filled all in
    let taken = filled_whole 20 s.torn header piece rest c.fill-rest.ensures.filled c.fill-rest.ensures.rest in
    let less : length rest < length piece = omega (arith, ap length taken, twenty, length-append header rest, length-append s.torn piece, part_is) in
    let shorter : length rest ≤ length piece = omega (arith, less) in
    let torn = c.clear.new.self in
    let P : Part → Type 0 = λ q. CanTake c.args.total rest (record s { part = q; torn = torn }) in
    record {
      ready = elim c.if-version-eq-VERSION.branch [
        | then-version-eq-VERSION b ↦ subst P (sym b.self-is) (can_take_on c.args.total piece rest torn s part.Between c.requires.can shorter c.clear.ensures tt refl refl)
        | else-version-eq-VERSION b ↦ subst P (sym b.self-is) (can_take_on c.args.total piece rest torn s (part.Refused (Version c.word-version.result)) c.requires.can shorter c.clear.ensures tt refl refl)
      ];
      goes = λ whole long goes.
          let was = goes_at whole s piece part.Header c.requires.part goes in
          let number : c.word-version.result ≡ _ = c.word-version.ensures ∙ ap (λ (v : List ℕ). word_at v 4) c.as_slice.ensures in
          elim c.if-version-eq-VERSION.branch [
            | then-version-eq-VERSION b ↦
                let on = reads_rest whole (recs_of s) Between rest (torn ++ rest) (ap (λ (v : List ℕ). v ++ rest) (sym c.clear.ensures)) (header_goes whole (recs_of s) c.word-version.result header rest (s.torn ++ piece) twenty taken number b.if-version-eq-VERSION.true was) in
                subst (λ (q : Part). Reads whole (recs_of s) (open_of q s.counters.cells.items s.pairs.cells.items) (rest_of q torn s.counters.torn s.pairs.torn ++ rest)) (sym b.self-is) on
            | else-version-eq-VERSION b ↦
                let on = header_stops whole (recs_of s) c.word-version.result header rest (s.torn ++ piece) rest twenty taken number b.if-version-eq-VERSION.false was in
                subst (λ (q : Part). Reads whole (recs_of s) (open_of q s.counters.cells.items s.pairs.cells.items) (rest_of q torn s.counters.torn s.pairs.torn ++ rest)) (sym b.self-is) on
          ];
      less = less;
    }
