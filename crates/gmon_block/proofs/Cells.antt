-- Bytes side by side in memory, and the machine values of the structs that point to them.
use Rattle.std.proofs.Common.{◌≡◌, ℕ, ◌+◌, ◌^◌, ◌<◌, List, [], ◌∷◌, ◌++◌, length, replicate, refl, ◌∙◌, arith, w64}
use Rattle.std.proofs.lemmas.List.{length-replicate, replicate_more}
use seplogic.Ra.Ura.{Ura}
use base.Fraction.{full_share}
use mir.Syntax.{ty_array, ty_int, w8}
use mir.Val.{Val, vint, vstruct, vcons, vnil, of_list}
use base.Logic.{ent, sep, emp}
use base.Fml.{Fml, ftrue, fsep, feq, fat, froom}
use types.Logic.{Logic, sem}
use prog.Memory.{size, align, capped}
use types.Kit.{‵, ◌$◌, ◌∵◌, !, qed, by, move, use1, use2, rewrite, fsplit, fjoin, fpack, feq_i, feq_l, done}
use denote.Array.{Array}
use denote.ArrayMemory.{Array-apart}
use denote.Builtin.{u8, usize}
use denote.Index.{row}
use denote.Memory.{part_at}
use denote.Plain.{uint_out}
use denote.RattleType.{RattleType, Valss}
use denote.RawPtr.{Ptr, RawPtr, ptr_val}
use denote.Shadow.{shadow, makes_shadow}
use denote.Steps.{nothing}
use denote.Struct.Declared.{shape}
use denote.Struct.Struct.{Struct, within}
use denote.Struct.Tuple.{Tuple, tuple_type}
use Rattle.gmon_block.specs.Memory.{block_of}

-- the layout of a block of n bytes
pub block_size : (n : ℕ) → n < 2 ^ 64 → capped (size (block_of n)) ≡ n
block_size n fits = grind arith

pub block_align : (n : ℕ) → capped (align (block_of n)) ≡ 1
block_align n = refl

-- a struct by its fields alone: what it owns does not read its name
abbrev pub plainly : List RattleType → RattleType
plainly Rs = Struct (record { name = []; args = []; types = []; fields = Rs })

-- a pointer and a length, as they lie in a struct
abbrev pub sized_val : Ptr → ℕ → Val
sized_val p n = vstruct (vcons (ptr_val p) (vcons (vint w64 n) vnil))

abbrev pub sized_own : Ptr → ℕ → List Val → Fml
sized_own p n = (plainly (RawPtr ∷ usize ∷ [])).own_val (p, (n, tt))

-- a struct of a field that takes no space
abbrev pub mark_val : Val
mark_val = vstruct (vcons (vstruct vnil) vnil)

abbrev pub mark_own : List Val → Fml
mark_own = (plainly (plainly [] ∷ [])).own_val (tt, tt)

pub mark_told : (vs : List Val) → shadow (mark_own vs) → vs ≡ mark_val ∷ []
mark_told vs s = s.1.0 ∙ (λ i. vstruct (of_list (s.1.1.0.1.0 i ++ [])) ∷ [])

-- a pair
abbrev pub pair_val : Val → Val → Val
pair_val u v = vstruct (vcons u (vcons v vnil))

module _ {M : Type 1} {𝓤 : Ura M} (𝓛 : Logic 𝓤) where
  pub sized_made : (p : Ptr) (n : ℕ) → n < 2 ^ 64 → ent 𝓤 (emp 𝓤) (sem 𝓛 (sized_own p n (sized_val p n ∷ [])))
  sized_made p n f = makes_shadow 𝓛 (sized_own p n (sized_val p n ∷ [])) (λ _. (tt, (tt, ((tt, tt), tt)))) ((ptr_val p ∷ [], (vint w64 n ∷ [], tt)), (refl, (refl, ((refl, f), tt))))

  pub mark_made : ent 𝓤 (emp 𝓤) (sem 𝓛 (mark_own (mark_val ∷ [])))
  mark_made = makes_shadow 𝓛 (mark_own (mark_val ∷ [])) (λ _. (tt, ((λ _. (tt, tt)), tt))) ((vstruct vnil ∷ [], tt), (refl, ((tt, (refl, tt)), tt)))

  pub pair_made : (R S : RattleType) (x : R.Denot) (y : S.Denot) (u v : Val)
      → ent 𝓤 (sep 𝓤 (sem 𝓛 (R.own_val x (u ∷ []))) (sem 𝓛 (S.own_val y (v ∷ [])))) (sem 𝓛 ((Tuple (R ∷ S ∷ [])).own_val (x, y) (pair_val u v ∷ [])))
  pair_made R S x y u v =
      qed 𝓛 (‵ (R.own_val x (u ∷ [])) ∷ ‵ (S.own_val y (v ∷ [])) ∷ []) ∵ nothing ! $ move ! (2 ∷ 0 ∷ []) $ fjoin ! $ move ! (1 ∷ 0 ∷ []) $ fjoin ! $ feq_i ! (List Val) (pair_val u v ∷ []) (pair_val u v ∷ []) refl $ fjoin ! $
      fpack ! (Valss (R ∷ S ∷ [])) (within (shape (tuple_type (R ∷ S ∷ []))) (x, (y, tt)) (pair_val u v ∷ [])) (u ∷ [], (v ∷ [], tt)) $ done !

  -- a byte after a row of them
  pub row_more : (xs : List ℕ) (x b o at : ℕ) → at ≡ o + length xs
      → ent 𝓤 (sep 𝓤 (sem 𝓛 (row u8 full_share xs b o)) (sem 𝓛 (part_at u8 full_share x b at))) (sem 𝓛 (row u8 full_share (xs ++ x ∷ []) b o))
  row_more [] x b o at e =
      let here : at ≡ o = omega arith in
      qed 𝓛 (‵ ftrue ∷ ‵ (part_at u8 full_share x b at) ∷ []) ∵ move ! (1 ∷ 0 ∷ []) $ rewrite ! 0 (λ (k : ℕ). ‵ (part_at u8 full_share x b k)) here refl $ fjoin ! $ done !
  row_more (y ∷ ys) x b o at e =
      let there : at ≡ o + 1 + length ys = omega arith in
      qed 𝓛 (‵ (row u8 full_share (y ∷ ys) b o) ∷ ‵ (part_at u8 full_share x b at) ∷ []) ∵ fsplit ! $ move ! (1 ∷ 2 ∷ []) $
      use2 𝓛 (‵ (row u8 full_share (ys ++ x ∷ []) b (o + 1))) (row_more ys x b (o + 1) at there) $ move ! (1 ∷ 0 ∷ []) $ fjoin ! $ done !

  -- one more zero
  pub zeros_more : (i b o : ℕ) → ent 𝓤 (sep 𝓤 (sem 𝓛 (row u8 full_share (replicate i 0) b o)) (sem 𝓛 (part_at u8 full_share 0 b (i + o)))) (sem 𝓛 (row u8 full_share (replicate (i + 1) 0) b o))
  zeros_more i b o =
      let place : i + o ≡ o + length (replicate i 0) = omega (arith, length-replicate {A = ℕ} i 0) in
      qed 𝓛 (‵ (row u8 full_share (replicate i 0) b o) ∷ ‵ (part_at u8 full_share 0 b (i + o)) ∷ []) ∵
      use2 𝓛 (‵ (row u8 full_share (replicate i 0 ++ 0 ∷ []) b o)) (row_more (replicate i 0) 0 b o (i + o) place) $
      rewrite ! 0 (λ (xs : List ℕ). ‵ (row u8 full_share xs b o)) (replicate_more i 0) refl $ done !

  -- the room that bytes leave
  row_room : (xs : List ℕ) (b o : ℕ) → ent 𝓤 (sem 𝓛 (row u8 full_share xs b o)) (sem 𝓛 (froom (ty_array (ty_int w8) (length xs)) b o))
  row_room [] b o = 𝓛.laws.room_nil (ty_int w8) b o
  row_room (x ∷ xs) b o =
      qed 𝓛 (‵ (row u8 full_share (x ∷ xs) b o) ∷ []) ∵ fsplit ! $ use1 𝓛 (‵ (fat full_share (ty_int w8) b o (vint w8 x))) (uint_out 𝓛 full_share w8 x b o) $
      use1 𝓛 (‵ (froom (ty_int w8) b o)) (𝓛.laws.at_room (ty_int w8) b o (vint w8 x)) $ move ! (1 ∷ []) $
      use1 𝓛 (‵ (froom (ty_array (ty_int w8) (length xs)) b (o + 1))) (row_room xs b (o + 1)) $ move ! (1 ∷ 0 ∷ []) $ by ! (𝓛.laws.room_cons (ty_int w8) (length xs) b o)

  pub block_room : (n : ℕ) (xs : List ℕ) (b o : ℕ) → ent 𝓤 (sem 𝓛 (part_at (Array u8 n) full_share xs b o)) (sem 𝓛 (froom (block_of n) b o))
  block_room n xs b o =
      qed 𝓛 (‵ (part_at (Array u8 n) full_share xs b o) ∷ []) ∵ use1 𝓛 (‵ (fsep (feq ℕ (length xs) n) (row u8 full_share xs b o))) (Array-apart 𝓛 u8 full_share tt n xs b o) $ fsplit ! $ feq_l ! (λ e.
      use1 𝓛 (‵ (froom (ty_array (ty_int w8) (length xs)) b o)) (row_room xs b o) $ rewrite ! 0 (λ (k : ℕ). ‵ (froom (ty_array (ty_int w8) k) b o)) e refl $
      by ! (𝓛.laws.room-raw (ty_array (ty_int w8) n) b o))
