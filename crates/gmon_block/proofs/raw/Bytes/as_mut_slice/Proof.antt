-- `as_mut_slice` lends the bytes, and the struct follows them.
use Rattle.std.proofs.Common.{◌≡◌, ℕ, ◌*◌, ◌^◌, ◌<◌, List, [], ◌∷◌, length, drop as drop_l, refl, sym, ap, ◌∙◌, arith, MutBor}
use Rattle.std.proofs.lemmas.List.{take_at}
use Rattle.std.proofs.raw_atomic.Walks.{proved}
use Rattle.std.proofs.VecSteps.Shapes.{after}
use Rattle.std.specs.List.{refill}
use seplogic.Ra.Ura.{Ura}
use base.Fraction.{full_share}
use mir.Syntax.{named}
use mir.Val.{Val}
use base.Logic.{ent, sep, id⊢}
use base.Fml.{GName, Fml, ftrue, fsep, feq, flft}
use prog.Wp.{Env}
use types.Logic.{Logic, sem}
use contract.Running.{tables}
use types.Kit.{‵, raw, ◌⊛◌, some, later, await, pick, at_ret, ◌$◌, ◌∵◌, !, qed, move, keep, use1, split, join, group, rewrite, fsplit, fsplit3, fjoin, fpack, feq_l, feq_i, suffices, frame, done}
use types.Part.{whole, sub, look_in, agg}
use types.Run.{stop, fld, load, of_opd, and_then, no_more, first, blocks, exec, returns, enter}
use types.ByLocal.{alloc_all, pass_all, free_all, look_at, get, through, sets, sets_last, env}
use types.SemTy.{cells}
use denote.Array.{Array}
use denote.ArrayMemory.{Array-apart, Array-whole}
use denote.Builtin.{u8}
use denote.Exit.{no}
use denote.Follow.{follows}
use denote.FollowSlice.{Elements, lends_Elements}
use denote.Index.{row, whole_in, whole_out}
use denote.Laws.{shows}
use denote.Memory.{mem, cell_at, part_at, part_of}
use denote.RattleType.{RattleType}
use denote.RawPtr.{Ptr, block_ptr, in_a_block}
use denote.Ref.{MutRef, mut_vals, mut_Tells}
use denote.Signature.{plain, mut_ref_to}
use denote.Slice.{MutSlice, slice_val}
use denote.Steps.{nothing, opens, peeks}
use denote.Struct.Struct.{Struct}
use denote.Struct.Owning.{shape}
use denote.Triple.Walked.{Stays, stay_dropped, walk_of, says, Goes-spent_ref, ends_at}
use Rattle.gmon_block.specs.declared.raw.Bytes.{Bytes}
use Rattle.gmon_block.specs.contracts.raw.Bytes as B
use Rattle.gmon_block.specs.Memory.{bytes_owned}
use Rattle.gmon_block.specs.Lends.{with_items}
use Rattle.gmon_block.specs.contracts.raw.Bytes.as_mut_slice as f
use Rattle.gmon_block.proofs.raw.Bytes.TheLaws.{lowers}
use Rattle.gmon_block.proofs.raw.Bytes.as_mut_slice.Statement.{statement}
use Rattle.gmon_block.proofs.raw.Bytes.as_mut_slice.Code as code

abbrev R : RattleType
R = B.the_row

abbrev stayed : Stays f.ended.signature.params f.ended.kept
stayed = (stay_dropped (mut_ref_to (0 ∷ []) tt (plain (λ _. R))) no, tt)

module _ {M : Type 1} {𝓤 : Ura M} (𝓛 : Logic 𝓤) (rb ro : ℕ) (h : Bytes) (us : List Val) (b o : ℕ) where
  -- all but the bytes: the two words, and the cell that holds them
  abbrev Words : Fml
  Words = (Struct (shape B.the_type)).own_val (h.start, (h.len, tt)) us

  abbrev Cell : List Val → Fml
  Cell ws = cell_at full_share R.mir ws rb ro

  abbrev Rest : Fml
  Rest = fsep Words (Cell us)

  -- the struct again, when other bytes stand there
  back : h.start ≡ block_ptr b o → (ws : List ℕ) → length ws ≡ length h.items
      → ent 𝓤 (sep 𝓤 (sem 𝓛 (cells (mem u8) ws b o)) (sem 𝓛 Rest)) (sem 𝓛 ((mem R).own_at (with_items h ws) rb ro))
  unfolding part_of
  back e ws same =
      let count : length ws ≡ h.len = same ∙ sym h.ok.0 in
      let all : refill h.len h.items ws ≡ ws = take_at ws (drop_l (length ws) h.items) h.len count in
      qed 𝓛 (‵ (cells (mem u8) ws b o) ∷ ‵ Rest ∷ []) ∵ use1 𝓛 (‵ (row u8 full_share ws b o)) (whole_out 𝓛 u8 ws b o) $
      feq_i ! ℕ (length ws) h.len count $ fjoin ! $ use1 𝓛 (‵ (part_at (Array u8 h.len) full_share ws b o)) (Array-whole 𝓛 u8 full_share h.len ws b o) $
      rewrite ! 0 (λ (zs : List ℕ). ‵ (part_at (Array u8 h.len) full_share zs b o)) (sym all) refl $
      rewrite ! 0 (λ (p : Ptr). ‵ (bytes_owned p h.len (refill h.len h.items ws))) (sym e) refl $
      move ! (1 ∷ []) $ fsplit ! $ move ! (0 ∷ 2 ∷ []) $ fjoin ! $ move ! (1 ∷ 0 ∷ []) $ fjoin ! $
      fpack ! (List Val) (λ vs. fsep (cell_at full_share R.mir vs rb ro) (R.own_val (with_items h ws) vs)) us $ done !

pub as_mut_slice_spec : {M : Type 1} → statement M
as_mut_slice_spec 𝓤 𝓛 𝓜 𝓡 wired =
    let c = f.clauses 𝓛 𝓜.mem 𝓡.returns in let W = walk_of 𝓛 f.ended stayed c in let 𝓣 = tables 𝓤 𝓛.H 𝓜 𝓡 𝓡.env in
    proved 𝓛 f.ended stayed c 𝓜 𝓡 (Goes-spent_ref 𝓛 1 (0 ∷ []) tt (plain (λ _. R)), tt)
    f.Key.name code.function (code.unfolded 𝓤 𝓛.H 𝓜 𝓡 wired)
    (λ κs. (mut_vals, tt)) (λ κs. (mut_Tells (named 0) κs.0 R, tt)) (λ κs qs bounds a _ are.
    let κ = κs.0 in let q = qs.0 in let rb = a.0.ref_ptr.0 in let ro = a.0.ref_ptr.1 in let γ = a.0.ghost_name in let h = a.0.now in let vs = mut_vals a.0 in
    let y : W.Ghost = ((κs, qs, bounds, a, (vs, tt)), tt) in
    let xs = h.items in let n = h.len in let fn : n < 2 ^ 64 = omega (arith, h.ok.1) in
    let roomy : length xs < 2 ^ 64 = omega (arith, h.ok.0) in let fitting : length xs * 1 < 2 ^ 63 = omega (arith, h.ok.0, h.ok.1) in
    qed 𝓛 (((‵ (flft κ q) ⊛ ‵ ftrue) ⊛ ‵ ((MutRef (named 0) κ R).own_val a.0 vs) ⊛ ‵ ftrue) ∷ ‵ ftrue ∷ []) ∵
    split ! $ split ! $ move ! (2 ∷ []) $ split ! $ keep ! (0 ∷ 2 ∷ []) $
    enter ! _ _ _ _ _ $ alloc_all ! (λ l. pass_all ! refl ((tt, tt), tt) $
    let En : Env 𝓤 𝓛.H = env code.Mir.locals l in
    fsplit3 ! $ move ! (1 ∷ 2 ∷ 3 ∷ []) $ opens ! tt R {h = h} rb ro (λ us.
    move ! (1 ∷ []) $ peeks ! R _ (shows 𝓛 R) h us (λ is. fsplit ! $ move ! (1 ∷ []) $
    in_a_block ! h.start (λ p. bytes_owned p n xs) (id⊢ 𝓤 _) (λ b o e.
    let word = lowers.val_is h us is ∙ ap (λ (p : Ptr). lowers.lowered (record h { start = p }) ∷ []) e in
    rewrite ! 2 (λ (ws : List Val). ‵ (Cell 𝓛 rb ro h us b o ws)) word refl $
    -- [the bytes; the two words; their cell; the open borrow, in three entries]
    first ! $ blocks ! $
    sets ! (of_opd ! (load ! (through ! refl (fld ! refl (stop !))) (look_in ! 2 (sub ! 0 refl (whole !))))) refl (tt, tt) $
    sets ! (of_opd ! (load ! (through ! refl (fld ! refl (stop !))) (look_in ! 2 (sub ! 1 refl (whole !))))) refl (tt, record { fits = fn }) $
    sets_last ! (agg ! (and_then ! (get ! refl) (and_then ! (get ! refl) (no_more !)))) refl (tt, (tt, (record { fits = fn }, tt))) $
    exec ! 𝓣.C 𝓣.Λ En (after 1 (code.function).body) (at_ret En (W.post y)) $
    sets ! (of_opd ! (get ! refl)) refl (tt, (tt, (record { fits = fn }, tt))) $
    rewrite ! 2 (λ (ws : List Val). ‵ (Cell 𝓛 rb ro h us b o ws)) (sym word) refl $
    use1 𝓛 (‵ (fsep (feq ℕ (length xs) n) (row u8 full_share xs b o))) (Array-apart 𝓛 u8 full_share tt n xs b o) $ fsplit ! $ feq_l ! (λ _.
    use1 𝓛 (‵ (cells (mem u8) xs b o)) (whole_in 𝓛 u8 xs b o) $
    move ! (1 ∷ 2 ∷ []) $ fjoin ! $ move ! (2 ∷ 3 ∷ 4 ∷ 1 ∷ 0 ∷ []) $ group ! 5 $
    use1 𝓛 (later (some (λ (δ : GName). raw (Elements 𝓛 R u8 (with_items h) (named 0) κ q rb ro b o γ xs (roomy, fitting) (sem 𝓛 (Rest 𝓛 rb ro h us b o)) (back 𝓛 rb ro h us b o e) δ))))
    (lends_Elements 𝓛 R u8 (with_items h) (named 0) κ q rb ro b o γ xs (roomy, fitting) (sem 𝓛 (Rest 𝓛 rb ro h us b o)) (back 𝓛 rb ro h us b o e) (R.coded.code h) (R.coded.code h)) $ await ! tt $ pick ! (λ δ.
    returns ! (look_at ! 0 refl) $ free_all ! refl $ keep ! (0 ∷ []) $
    let r : MutBor (List ℕ) = record { ref_ptr = (b, o); ghost_name = δ; now = xs } in
    use1 𝓛 (‵ ((MutSlice (named 0) κ u8).own_val r (slice_val (b, o) (length xs) ∷ [])) ⊛ ‵ (flft κ q) ⊛ ‵ (follows R (Array u8 0) γ δ (with_items h))) (id⊢ 𝓤 _) $ split ! $ move ! (1 ∷ []) $ split ! $ move ! (2 ∷ []) $
    rewrite ! 0 (λ (j : ℕ). ‵ ((MutSlice (named 0) κ u8).own_val r (slice_val (b, o) j ∷ []))) (sym h.ok.0) refl $
    suffices ! _ (ends_at 𝓛 f.ended stayed c y (slice_val (b, o) n) r (tt, tt) (tt, tt)) $
    nothing ! $ nothing ! $ fjoin ! $ join ! $ nothing ! $ move ! (2 ∷ 0 ∷ []) $ join ! $ join ! $ frame ! $ says ! refl $ done !)))))))
