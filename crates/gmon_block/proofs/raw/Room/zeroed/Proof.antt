-- `zeroed` writes a 0 into each byte of the room, from the first on.
use Rattle.std.proofs.Common.{◌≡◌, ℕ, suc, ◌+◌, ◌-◌, ◌^◌, ◌<◌, ◌≤◌, List, [], ◌∷◌, ◌++◌, length, replicate, refl, sym, ap, ◌∙◌, arith, lit<, ltb→lt, nltb→le, w8, w64}
use Rattle.std.proofs.lemmas.List.{length-replicate}
use Rattle.std.proofs.raw_atomic.Walks.{proved_at}
use Rattle.std.proofs.VecSteps.Shapes.{after}
use mathlib.Core.WellFounded.InvImage
use lib.WfN.{lt-wf_rel}
use seplogic.Ra.Ura.{Ura}
use base.Fraction.{full_share}
use mir.Syntax.{Body, ty_int, ty_array}
use mir.Val.{Val, vint, vptr}
use base.Logic.{SProp, ent, sep, never, id⊢}
use base.Fml.{Fml, ftrue, froom}
use prog.Wp.{Env, Out, Wp, Tables, WpFn, at_return, after_seq, after_block, after_turn}
use types.Logic.{Logic, sem}
use contract.Running.{tables, tables_of}
use types.Kit.{Item, Sq, any_q, runs, ‵, raw, ◌⊛◌, prop, at_ret, ◌$◌, ◌∵◌, !, qed, by, move, keep, drop, use1, use2, split, join, rewrite, regoal, fsplit, fjoin, feq_i, suffices, done}
use types.Part.{whole, sub, agg}
use types.Run.{stop, fld, lit, bin, of_opd, no_more, and_then, init, assigns_last, first, blocks, skips, jumps, branches, exec, returns, enter, loops, again, Below}
use types.ByLocal.{alloc_all, pass_all, free_all, look_at, get, get_in, through, sets, sets_last, env, holding, forget_but}
use denote.Array.{Array}
use denote.ArrayMemory.{Array-whole}
use denote.Builtin.{u8}
use denote.Exit.{yes}
use denote.Index.{row}
use denote.Memory.{part_at}
use denote.Plain.{uint_in}
use denote.RattleType.{owns}
use denote.RawPtr.{Ptr, block_ptr, in_a_block}
use denote.Signature.{plain, types_at}
use denote.Steps.{nothing}
use denote.Struct.Struct.{Struct}
use denote.Struct.Owning.{shape}
use denote.Triple.Entry.{alive}
use denote.Triple.Walked.{Stays, stay_dropped, walk_of, says, Goes-dropped, ends_at}
use Rattle.gmon_block.specs.Memory.{block_of, room_of, bytes_owned}
use Rattle.gmon_block.specs.contracts.raw.Bytes as B
use Rattle.gmon_block.specs.contracts.raw.Room as R
use Rattle.gmon_block.specs.contracts.raw.Room.zeroed as f
use Rattle.gmon_block.proofs.Cells.{sized_val, zeros_more}
use Rattle.gmon_block.proofs.raw.Room.TheLaws.{lowers}
use Rattle.gmon_block.proofs.raw.Room.zeroed.Statement.{statement}
use Rattle.gmon_block.proofs.raw.Room.zeroed.Code as code

abbrev stayed : Stays f.ended.signature.params f.ended.kept
stayed = (stay_dropped (plain (λ _. R.the_row)) yes, tt)

abbrev turn : Body
turn = code.Mir.turn-1

module _ {M : Type 1} {𝓤 : Ura M} (𝓛 : Logic 𝓤) (𝓣 : Tables 𝓤 𝓛.H) (Post : Val → SProp 𝓤) (Words : List Val → Fml) (b o n : ℕ) (fn : n < 2 ^ 64) where
  open 𝓛 use {H}

  -- the end, from the bytes and the two words
  module _ (ends : ent 𝓤 (sep 𝓤 (sem 𝓛 (row u8 full_share (replicate n 0) b o)) (sem 𝓛 (Words (sized_val (block_ptr b o) n ∷ [])))) (Post (sized_val (block_ptr b o) n))) (l : ℕ → ℕ) where
    -- how many bytes are written
    abbrev Written : Type 0
    Written = (i : ℕ) × (i ≤ n)

    abbrev Nearer : Written → Written → Type 0
    Nearer t u = n - t.0 < n - u.0

    abbrev En : Env 𝓤 H
    En = env (code.function).locals l

    abbrev Now : Written → List (Item 𝓤)
    Now t = ‵ (row u8 full_share (replicate t.0 0) b o) ∷ ‵ (froom (ty_array (ty_int w8) (n - t.0)) b (t.0 + o)) ∷ ‵ (Words (sized_val (block_ptr b o) n ∷ [])) ∷ holding 𝓛 En ((2, vptr b o) ∷ (3, vint w64 n) ∷ (4, vint w64 t.0) ∷ [])

    abbrev Turned : Written → Out → SProp 𝓤
    Turned t = after_turn 𝓤 H (Below 𝓛 Nearer Now t) (after_block 𝓤 H (after_seq 𝓤 H (Wp 𝓤 H 𝓣.C 𝓣.Λ En (after 4 (code.function).body) (at_return 𝓤 H En Post)) (at_return 𝓤 H En Post)))

    turns : (t : Written) → Sq 𝓛 (Now t) (runs 𝓣.C 𝓣.Λ En turn (any_q (Turned t)))
    unfolding after_turn
    turns t =
        let i : ℕ = t.0 in
        sets ! (bin ! (get ! refl) (get ! refl) tt) refl (tt, tt) $ first ! $ branches ! (get ! refl)
        (λ less. let h : i < n = ltb→lt i n less in let left : n - i ≡ suc (n - (i + 1)) = omega arith in let fj : i + 1 < 2 ^ 64 = omega arith in let place : i + o + 1 ≡ i + 1 + o = omega arith in
        skips ! $ exec ! 𝓣.C 𝓣.Λ En (after 2 turn) (any_q (Turned t)) $
        first ! $ blocks ! $
        sets ! (bin ! (get ! refl) (get ! refl) tt) refl (tt, tt) $
        move ! (1 ∷ []) $ rewrite ! 0 (λ (k : ℕ). ‵ (froom (ty_array (ty_int w8) k) b (i + o))) left refl $
        use1 𝓛 (‵ (froom (ty_int w8) b (i + o)) ⊛ ‵ (froom (ty_array (ty_int w8) (n - (i + 1))) b (i + o + 1))) (𝓛.laws.room_uncons (ty_int w8) (n - (i + 1)) b (i + o)) $ split ! $
        assigns_last ! (of_opd ! (lit ! tt)) (through ! refl (stop !)) (init ! 0 refl (tt, record { fits = lit< tt })) $
        exec ! 𝓣.C 𝓣.Λ En (after 3 turn) (any_q (Turned t)) $ sets_last ! (bin ! (get ! refl) (lit ! tt) (record { fits = fj })) refl (tt, record { fits = fj }) $
        use1 𝓛 (‵ (part_at u8 full_share 0 b (i + o))) (uint_in 𝓛 full_share w8 0 b (i + o)) $ move ! (2 ∷ 0 ∷ []) $
        use2 𝓛 (‵ (row u8 full_share (replicate (i + 1) 0) b o)) (zeros_more 𝓛 i b o) $
        rewrite ! 1 (λ (k : ℕ). ‵ (froom (ty_array (ty_int w8) (n - (i + 1))) b k)) place refl $
        forget_but ! En (2 ∷ 3 ∷ 4 ∷ []) refl $ again ! Nearer Now t (i + 1, omega arith) (omega arith))
        (λ over. let ge = nltb→le i n over in let all : i ≡ n = omega (arith, t.1) in
        jumps ! $ exec ! 𝓣.C 𝓣.Λ En (after 4 (code.function).body) (at_ret En Post) $ rewrite ! 0 (λ (k : ℕ). ‵ (row u8 full_share (replicate k 0) b o)) all refl $
        move ! (1 ∷ []) $ drop ! $
        sets ! (agg ! (and_then ! (get ! refl) (and_then ! (get ! refl) (no_more !)))) refl (tt, (tt, (record { fits = fn }, tt))) $
        returns ! (look_at ! 0 refl) $ free_all ! refl $ by ! ends)

  fills : (ends : ent 𝓤 (sep 𝓤 (sem 𝓛 (row u8 full_share (replicate n 0) b o)) (sem 𝓛 (Words (sized_val (block_ptr b o) n ∷ [])))) (Post (sized_val (block_ptr b o) n)))
      → ent 𝓤 (sep 𝓤 (sem 𝓛 (froom (block_of n) b o)) (sem 𝓛 (Words (sized_val (block_ptr b o) n ∷ [])))) (WpFn 𝓤 H 𝓣.C 𝓣.Λ code.function (sized_val (block_ptr b o) n ∷ []) Post)
  fills ends =
      let all : n ≡ n - 0 = omega arith in let start : o ≡ 0 + o = omega arith in
      qed 𝓛 (‵ (froom (block_of n) b o) ∷ ‵ (Words (sized_val (block_ptr b o) n ∷ [])) ∷ []) ∵
      use1 𝓛 (‵ (froom (ty_array (ty_int w8) n) b o)) (𝓛.laws.raw-room (ty_array (ty_int w8) n) b o) $
      rewrite ! 0 (λ (k : ℕ). ‵ (froom (ty_array (ty_int w8) k) b o)) all refl $ rewrite ! 0 (λ (k : ℕ). ‵ (froom (ty_array (ty_int w8) (n - 0)) b k)) start refl $ nothing ! $
      enter ! 𝓣.C 𝓣.Λ code.function (sized_val (block_ptr b o) n ∷ []) Post $ alloc_all ! (λ l. pass_all ! refl ((tt, (tt, (record { fits = fn }, tt))), tt) $
      sets ! (of_opd ! (get_in ! (fld ! refl (stop !)) (sub ! 0 refl (whole !)))) refl (tt, tt) $
      sets ! (of_opd ! (get_in ! (fld ! refl (stop !)) (sub ! 1 refl (whole !)))) refl (tt, record { fits = fn }) $
      sets ! (of_opd ! (lit ! tt)) refl (tt, record { fits = lit< tt }) $
      forget_but ! (env (code.function).locals l) (2 ∷ 3 ∷ 4 ∷ []) refl $
      first ! $ blocks ! $ loops ! 𝓣 (Nearer ends l) (InvImage.wf (λ (t : Written ends l). n - t.0) lt-wf_rel.wf) (Now ends l) (turns ends l) (0, omega arith))

pub zeroed_spec : {M : Type 1} → statement M
unfolding tables_of
zeroed_spec 𝓤 𝓛 𝓜 𝓡 wired =
    let c = f.clauses 𝓛 𝓜.mem 𝓡.returns in let W = walk_of 𝓛 f.ended stayed c in let 𝓣 = tables_of 𝓤 𝓛.H 𝓜 (tables 𝓤 𝓛.H 𝓜 𝓡 𝓡.env) in
    proved_at 𝓛 f.ended stayed c 𝓜 𝓡 (Goes-dropped 𝓛 0 (plain (λ _. R.the_row)) yes (λ κs x w. refl), tt)
    f.Key.name code.function (code.unfolded 𝓤 𝓛.H 𝓜 𝓡 wired) (λ z are.
    let x = z.0.3.0 in let n = x.len in let us = z.0.4.0 in let fn : n < 2 ^ 64 = omega (arith, x.small) in
    let zeros : List ℕ = replicate n 0 in let count : length zeros ≡ n = length-replicate {A = ℕ} n 0 in
    let r : (B.the_row).Denot = record { start = x.start; len = n; items = zeros; ok = (sym count, x.small) } in
    let Words : List Val → Fml = (Struct (shape B.the_type)).own_val (x.start, (n, tt)) in
    qed 𝓛 ((raw (alive 𝓛 f.ended.signature z.0.0 z.0.1) ⊛ ‵ (owns (types_at f.ended.signature.params z.0.0) z.0.3 z.0.4)) ∷ ‵ ftrue ∷ []) ∵
    split ! $ move ! (1 ∷ []) $ fsplit ! $ fsplit ! $ move ! (1 ∷ 0 ∷ []) $
    in_a_block ! x.start (λ p. room_of p n) (id⊢ 𝓤 (never 𝓤)) (λ b o e.
    let told : us ≡ sized_val (block_ptr b o) n ∷ [] = lowers.val_is x us are.0 ∙ ap (λ (p : Ptr). sized_val p n ∷ []) e in
    rewrite ! 1 (λ (vs : List Val). ‵ (Words vs)) told refl $ keep ! (0 ∷ 1 ∷ []) $
    regoal ! (λ (vs : List Val). prop (WpFn 𝓤 𝓛.H 𝓣.C 𝓣.Λ code.function vs (W.post z))) (λ i. told i ++ []) refl $
    by ! (fills 𝓛 𝓣 (W.post z) Words b o n fn
    (qed 𝓛 (‵ (row u8 full_share (replicate n 0) b o) ∷ ‵ (Words (sized_val (block_ptr b o) n ∷ [])) ∷ []) ∵
    feq_i ! ℕ (length zeros) n count $ fjoin ! $ use1 𝓛 (‵ (part_at (Array u8 n) full_share zeros b o)) (Array-whole 𝓛 u8 full_share n zeros b o) $
    rewrite ! 0 (λ (p : Ptr). ‵ (bytes_owned p n zeros)) (sym e) refl $ move ! (1 ∷ 0 ∷ []) $ fjoin ! $
    suffices ! _ (ends_at 𝓛 f.ended stayed c z (sized_val (block_ptr b o) n) r (tt, tt) (tt, tt)) $ says ! (refl, refl, refl) $
    nothing ! $ nothing ! $ join ! $ nothing ! $ done !))))
