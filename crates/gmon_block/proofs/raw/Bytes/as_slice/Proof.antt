-- `as_slice` reads the pointer and the length through a `&`, and lends the bytes.
use Rattle.std.proofs.Common.{ℕ, ◌+◌, ◌*◌, ◌^◌, List, [], ◌∷◌, length, refl, ap, arith, w64}
use Rattle.std.proofs.raw_atomic.Walks.{proved}
use Rattle.std.proofs.Words.{word_in, word_out, pointer_in, pointer_out}
use Rattle.std.proofs.VecSteps.Shapes.{after}
use seplogic.Ra.Ura.{Ura}
use mir.Syntax.{named}
use mir.Val.{Val}
use base.Logic.{ent, sep}
use base.Fml.{Lft, Fml, ftrue, flft, fhide}
use prog.Wp.{Env}
use types.Logic.{Logic, sem}
use contract.Monad.{fact}
use contract.Running.{tables}
use types.Kit.{‵, raw, ◌⊛◌, at_ret, ◌$◌, ◌∵◌, !, qed, move, keep, use1, drop, split, join, fsplit, fjoin, feq_i, flt_i, suffices, frame, done}
use types.Part.{agg}
use types.Run.{look, stop, fld, load, no_more, and_then, of_opd, first, blocks, exec, returns, enter}
use types.ByLocal.{alloc_all, pass_all, free_all, look_at, get, through, sets, sets_last, env}
use denote.Builtin.{usize, RefOf}
use denote.Exit.{yes}
use denote.Memory.{hidden_shr}
use denote.Opens.{shr_dup, unhide, hide}
use denote.Plain.{uint_row_laws}
use denote.RattleType.{RattleType, RowLaws}
use denote.RawPtr.{RawPtr, InBlock, block_of, count_of, ptr_row_laws}
use denote.Ref.{ShrRef, shr_vals, shr_Tells}
use denote.Signature.{plain}
use denote.Slice.{slice_val}
use denote.Steps.{heard, nothing}
use denote.Struct.Struct.{Struct, Struct-row_laws}
use denote.Struct.Owning.{shape}
use denote.Struct.Lending.{in_block_says, lent_out}
use denote.Triple.Walked.{Stays, stay_dropped, walk_of, says, Goes-dropped, ends_at}
use Rattle.gmon_block.specs.declared.raw.Bytes.{Bytes}
use Rattle.gmon_block.specs.contracts.raw.Bytes as B
use Rattle.gmon_block.specs.contracts.raw.Bytes.as_slice as f
use Rattle.gmon_block.proofs.raw.Bytes.as_slice.Statement.{statement}
use Rattle.gmon_block.proofs.raw.Bytes.as_slice.Code as code

abbrev stayed : Stays f.ended.signature.params f.ended.kept
stayed = (stay_dropped (RefOf (0 ∷ []) tt (plain (λ _. B.the_row)) (λ _. tt)) yes, tt)

-- the two words of the struct
abbrev Words : RattleType
Words = Struct (shape B.the_type)

words_laws : RowLaws Words
words_laws = Struct-row_laws (shape B.the_type) (ptr_row_laws, (uint_row_laws w64, tt))

module _ {M : Type 1} {𝓤 : Ura M} (𝓛 : Logic 𝓤) (κ : Lft) (b o : ℕ) (d : Bytes) where
  abbrev S : Fml
  S = hidden_shr Words κ (d.start, (d.len, tt)) b o

  shows_start : ent 𝓤 (sem 𝓛 S) (sep 𝓤 (sem 𝓛 (hidden_shr RawPtr κ d.start b (o + 0))) (sem 𝓛 S))
  shows_start = qed 𝓛 (‵ S ∷ []) ∵ shr_dup ! Words words_laws (d.start, (d.len, tt)) b o κ $ unhide ! $ fsplit ! $ fsplit ! $ hide ! $ keep ! (0 ∷ 3 ∷ []) $ done !

  shows_len : ent 𝓤 (sem 𝓛 S) (sep 𝓤 (sem 𝓛 (hidden_shr usize κ d.len b (o + 8))) (sem 𝓛 S))
  shows_len = qed 𝓛 (‵ S ∷ []) ∵ shr_dup ! Words words_laws (d.start, (d.len, tt)) b o κ $ unhide ! $ fsplit ! $ fsplit ! $ drop ! $ fsplit ! $ hide ! $ keep ! (0 ∷ 3 ∷ []) $ done !

pub as_slice_spec : {M : Type 1} → statement M
as_slice_spec 𝓤 𝓛 𝓜 𝓡 wired =
    let c = f.clauses 𝓛 𝓜.mem 𝓡.returns in let W = walk_of 𝓛 f.ended stayed c in let 𝓣 = tables 𝓤 𝓛.H 𝓜 𝓡 𝓡.env in
    proved 𝓛 f.ended stayed c 𝓜 𝓡 (Goes-dropped 𝓛 1 (RefOf (0 ∷ []) tt (plain (λ _. B.the_row)) (λ _. tt)) yes (λ κs x w. refl), tt)
    f.Key.name code.function (code.unfolded 𝓤 𝓛.H 𝓜 𝓡 wired)
    (λ κs. (shr_vals, tt)) (λ κs. (shr_Tells (named 0) κs.0 B.the_row, tt)) (λ κs qs bounds a _ are.
    let κ = κs.0 in let q = qs.0 in let d = a.0.now in let b = a.0.ref_ptr.0 in let o = a.0.ref_ptr.1 in
    let y : W.Ghost = ((κs, qs, bounds, a, (shr_vals a.0, tt)), tt) in
    let at : ℕ × ℕ = (block_of d.start, count_of d.start) in
    qed 𝓛 (((‵ (flft κ q) ⊛ ‵ ftrue) ⊛ ‵ ((ShrRef (named 0) κ B.the_row).own_val a.0 (shr_vals a.0)) ⊛ ‵ ftrue) ∷ ‵ ftrue ∷ []) ∵
    split ! $ split ! $ move ! (2 ∷ []) $ split ! $ keep ! (0 ∷ 2 ∷ []) $ fsplit ! $ drop ! $
    use1 𝓛 (‵ (S 𝓛 κ b o d) ⊛ ‵ (fhide (B.the_lent d d.start κ))) (lent_out 𝓛 B.struct B.the_codes B.the_heap B.the_lent κ d b o) $ split ! $ move ! (1 ∷ []) $
    unhide ! $ fsplit ! $ use1 𝓛 (raw (fact 𝓤 (InBlock d.start))) (in_block_says 𝓛 d.start) $ heard ! (InBlock d.start) (λ inb. fsplit ! $ drop ! $ hide ! $ move ! (1 ∷ 2 ∷ 0 ∷ []) $
    -- [the two words; the token; the bytes]
    enter ! _ _ _ _ _ $ alloc_all ! (λ l. pass_all ! refl ((tt, tt), tt) $
    let En : Env 𝓤 𝓛.H = env code.Mir.locals l in
    first ! $ blocks ! $
    pointer_in ! tt d.start inb b (o + 0) (shows_start 𝓛 κ b o d) (λ q0.
    sets ! (of_opd ! (load ! (through ! refl (fld ! refl (stop !))) (look ! 1 refl))) refl (tt, tt) $
    pointer_out ! tt d.start inb b (o + 0) $ move ! (1 ∷ 0 ∷ []) $
    word_in ! tt d.len b (o + 8) (shows_len 𝓛 κ b o d) (λ q1 fn.
    sets ! (of_opd ! (load ! (through ! refl (fld ! refl (stop !))) (look ! 1 refl))) refl (tt, record { fits = fn }) $
    word_out ! tt d.len b (o + 8) fn $
    sets_last ! (agg ! (and_then ! (get ! refl) (and_then ! (get ! refl) (no_more !)))) refl (tt, (tt, (record { fits = fn }, tt))) $
    exec ! 𝓣.C 𝓣.Λ En (after 1 (code.function).body) (at_ret En (W.post y)) $
    sets ! (of_opd ! (get ! refl)) refl (tt, (tt, (record { fits = fn }, tt))) $
    -- [the token; the two words; the bytes]
    returns ! (look_at ! 0 refl) $ free_all ! refl $ keep ! (2 ∷ 0 ∷ []) $
    flt_i ! (length d.items * 1) (2 ^ 63) (omega (arith, d.ok.0, d.ok.1)) $ flt_i ! (length d.items) (2 ^ 64) (omega (arith, d.ok.0)) $ fjoin ! $
    feq_i ! (List Val) (slice_val at d.len ∷ []) (slice_val at (length d.items) ∷ []) (ap (λ (k : ℕ). slice_val at k ∷ []) d.ok.0) $ fjoin ! $ fjoin ! $
    suffices ! _ (ends_at 𝓛 f.ended stayed c y (slice_val at d.len) (record { ref_ptr = at; now = d.items }) (tt, tt) (tt, tt)) $ says ! refl $
    move ! (1 ∷ 0 ∷ []) $ nothing ! $ move ! (1 ∷ 0 ∷ []) $ join ! $ frame ! $ nothing ! $ nothing ! $ fjoin ! $ done !)))))
