-- The text that lines begin with, and the rest of a stack.
use Rattle.std.proofs.Common.{◌≡◌, ◌∙◌, ◌+◌, ◌-◌, ◌<◌, ◌≤◌, ◌++◌, ℕ, List, [], ◌∷◌, append_assoc, append-nil, ap, arith, drop, get_or, inl, inr, length, map, set, sym, take, Option, None}
use Rattle.std.specs.Prelude.{◌⊎◌, codes}
use Rattle.std.specs.List.{flat_map}
use Rattle.std.proofs.lemmas.List.{get_or-set_other, get_or-set_same, length-append, length-drop, length-set, length-take, length-take-le, length_push, take-append-drop, take-append-le, take-take, take_at, take_more, take_more_set, take_rest}
use Rattle.std.proofs.lemmas.List.Folds.{flat_map-map}
use Rattle.std.proofs.lemmas.List.Concat.{flat_map-append}
use Rattle.elf32_syms.specs.declared.image.Symbol.{Symbol}
use Rattle.folded.specs.Paths.{IsPrefix, caller_text, functions_of}
use Rattle.folded.specs.declared.path.Path.{Path}
use Rattle.folded.specs.Nodes.{line_of_node}
use Rattle.folded.specs.declared.tree.Tree.{Tree}
use Rattle.folded.specs.declared.prefix.Prefix.{Prefix}
use Rattle.folded.specs.Text.{callee_text, line_text, name_in, stack_text}

-- bytes with a piece written at a place, and one more behind it
pub written_text : (start : ℕ) (was part piece : List ℕ) (byte : ℕ) → start + length piece < length was → part ≡ piece
    → take (start + length piece + 1) (set (take start was ++ (part ++ drop (start + length piece - start) (drop start was))) (start + length piece) byte) ≡ take start was ++ (piece ++ byte ∷ [])
written_text start was part piece byte fits is =
    let n = start + length piece in
    let rest = drop (n - start) (drop start was) in
    let same : length part ≡ length piece = ap {B = ℕ} length is in
    let front : length (take start was) ≡ start = length-take-le start was (omega (arith, fits)) in
    let both : length (take start was ++ part) ≡ n = omega (arith, length-append (take start was) part, front, same) in
    grind (arith, length-append, length-drop, take_more_set, append_assoc, take_at)

module _ (symbols : List Symbol) where
  abbrev name : Option ℕ → List ℕ
  name f = name_in symbols f

  abbrev callers_text : List (Option ℕ) → List ℕ
  callers_text callers = flat_map (caller_text symbols) callers

  callees_end : (callers : List (Option ℕ)) (f : Option ℕ) → flat_map (callee_text symbols) (callers ++ f ∷ []) ≡ codes ";" ++ (callers_text callers ++ name f)
  callees_end [] f = append-nil (codes ";" ++ name f)
  callees_end (c ∷ callers) f = search (append_assoc, callees_end callers f)

  -- the names with `;` between them are those of the callers with `;` behind each, and the last one
  pub stack_end : (callers : List (Option ℕ)) (f : Option ℕ) → stack_text symbols (callers ++ f ∷ []) ≡ callers_text callers ++ name f
  stack_end [] f = append-nil (name f)
  stack_end (c ∷ callers) f = grind (arith, callees_end, append_assoc)

  pub split_callers : (callers : List (Option ℕ)) (n : ℕ) → callers_text callers ≡ callers_text (take n callers) ++ callers_text (drop n callers)
  split_callers callers n = ap callers_text (sym (take-append-drop n callers)) ∙ flat_map-append (caller_text symbols) (take n callers) (drop n callers)

  -- a stack by the text that is kept, the callers behind it and the last function
  pub stack_parts : (p : Prefix) (callers : List (Option ℕ)) (f : Option ℕ) (known : ℕ) → functions_of p.path ≡ callers ++ f ∷ [] → known ≤ length callers
      → stack_text symbols (functions_of p.path) ≡ (callers_text (take known p.path.functions) ++ callers_text (take (length callers - known) (drop known callers))) ++ name f
  stack_parts p callers f known whole within =
      let fits : known ≤ p.path.len = omega (arith, within, ap (λ (s : List (Option ℕ)). length s) whole, length-take p.path.len p.path.functions, length_push callers f) in
      let front : take known p.path.functions ≡ take known callers = sym (take-take known p.path.len p.path.functions fits) ∙ ap (take known) whole ∙ take-append-le known callers (f ∷ []) within in
      ap (stack_text symbols) whole ∙ stack_end callers f
      ∙ ap (λ (x : List ℕ). x ++ name f) (split_callers callers known)
      ∙ ap (λ (x : List (Option ℕ)). (callers_text x ++ callers_text (drop known callers)) ++ name f) (sym front)
      ∙ ap (λ (x : List (Option ℕ)). (callers_text (take known p.path.functions) ++ callers_text x) ++ name f) (sym (take_rest callers known))

  -- where another stack begins with the same callers
  pub prefix_moved : (p : Prefix) (path : Path) (shared n : ℕ) (stack : List (Option ℕ)) → IsPrefix symbols p → path.len ≤ 129 → length path.functions ≡ 129 → functions_of path ≡ stack → shared ≤ length stack → take shared p.path.functions ≡ take shared stack
      → n ≤ p.callers → n ≤ shared → IsPrefix symbols (record p { path = path; callers = n })
  prefix_moved p path shared n stack is short functions whole within same few fewer =
      let long : length stack ≡ path.len = sym (ap (λ (s : List (Option ℕ)). length s) whole) ∙ length-take-le path.len path.functions (omega (arith, short, functions)) in
      record {
        few = omega (arith, fewer, within, long);
        short = short;
        functions = functions;
        bytes = is.bytes;
        numbers = is.numbers;
        room = λ k le. is.room k (omega (arith, le, few));
        ascend = λ j k le le2. is.ascend j k le (omega (arith, le2, few));
        texts = λ k le. (
            let k_shared : k ≤ shared = omega (arith, le, fewer) in
            let k_len : k ≤ path.len = omega (arith, k_shared, within, long) in
            let front : take k p.path.functions ≡ take k path.functions =
            sym (take-take k shared p.path.functions k_shared) ∙ ap (take k) same ∙ take-take k shared stack k_shared ∙ ap (take k) (sym whole) ∙ take-take k path.len path.functions k_len in
            is.texts k (omega (arith, le, few)) ∙ ap callers_text front
            );
      }

  -- one caller more
  pub prefix_more : (p : Prefix) (bytes text : List ℕ) (end : ℕ) → IsPrefix symbols p → p.callers < p.path.len → length bytes ≡ length p.bytes → end ≤ 8192 → get_or p.ends p.callers 0 ≤ end
      → text ≡ caller_text symbols (get_or p.path.functions p.callers None) → take end bytes ≡ take (get_or p.ends p.callers 0) p.bytes ++ text
      → IsPrefix symbols (record { path = p.path; bytes = bytes; ends = set p.ends (p.callers + 1) end; callers = p.callers + 1 })
  prefix_more p bytes text end is some same fits later here written =
      let n = p.callers in
      let start = get_or p.ends n 0 in
      let inside : n < length p.path.functions = omega (arith, some, is.short, is.functions) in
      let there : n + 1 < length p.ends = omega (arith, some, is.short, is.numbers) in
      let last : get_or (set p.ends (n + 1) end) (n + 1) 0 ≡ end = get_or-set_same p.ends (n + 1) end 0 there in
      let before : (k : ℕ) → k ≤ n → get_or (set p.ends (n + 1) end) k 0 ≡ get_or p.ends k 0 = λ k le. get_or-set_other p.ends (n + 1) k end 0 (λ e. absurd (omega (arith, e, le))) in
      let low : (k : ℕ) → k ≤ n → get_or p.ends k 0 ≤ start = λ k le. is.ascend k n le (omega arith) in
      record {
        few = omega (arith, some);
        short = is.short;
        functions = is.functions;
        bytes = same ∙ is.bytes;
        numbers = length-set p.ends (n + 1) end ∙ is.numbers;
        room = λ k le. room_at k (either k n le) before last;
        ascend = λ j k le le2. ascend_at j k le (either k n le2) (either j n (omega (arith, le, le2))) before last low;
        texts = λ k le. texts_at k (either k n le) before last low inside;
      }
    where
      either : (k n : ℕ) → k ≤ n + 1 → (k ≤ n) ⊎ (k ≡ n + 1)
      either k n le = grind (arith, le)

      room_at : (k : ℕ) → (k ≤ p.callers) ⊎ (k ≡ p.callers + 1) → ((j : ℕ) → j ≤ p.callers → get_or (set p.ends (p.callers + 1) end) j 0 ≡ get_or p.ends j 0) → get_or (set p.ends (p.callers + 1) end) (p.callers + 1) 0 ≡ end
          → get_or (set p.ends (p.callers + 1) end) k 0 ≤ 8192
      room_at k this before last = grind arith

      ascend_at : (j k : ℕ) → j ≤ k → (k ≤ p.callers) ⊎ (k ≡ p.callers + 1) → (j ≤ p.callers) ⊎ (j ≡ p.callers + 1) → ((i : ℕ) → i ≤ p.callers → get_or (set p.ends (p.callers + 1) end) i 0 ≡ get_or p.ends i 0)
          → get_or (set p.ends (p.callers + 1) end) (p.callers + 1) 0 ≡ end → ((i : ℕ) → i ≤ p.callers → get_or p.ends i 0 ≤ get_or p.ends p.callers 0)
          → get_or (set p.ends (p.callers + 1) end) j 0 ≤ get_or (set p.ends (p.callers + 1) end) k 0
      ascend_at j k le this given before last low = grind arith

      texts_at : (k : ℕ) → (k ≤ p.callers) ⊎ (k ≡ p.callers + 1) → ((i : ℕ) → i ≤ p.callers → get_or (set p.ends (p.callers + 1) end) i 0 ≡ get_or p.ends i 0)
          → get_or (set p.ends (p.callers + 1) end) (p.callers + 1) 0 ≡ end → ((i : ℕ) → i ≤ p.callers → get_or p.ends i 0 ≤ get_or p.ends p.callers 0) → p.callers < length p.path.functions
          → take (get_or (set p.ends (p.callers + 1) end) k 0) bytes ≡ callers_text (take k p.path.functions)
      texts_at k (inl le) before last low inside =
          let e = get_or p.ends k 0 in
          let start = get_or p.ends p.callers 0 in
          let small : e ≤ start = low k le in
          let long : length (take start p.bytes) ≡ start = length-take-le start p.bytes (omega (arith, is.room p.callers (omega arith), is.bytes)) in
          ap (λ (j : ℕ). take j bytes) (before k le)
          ∙ sym (take-take e end bytes (omega (arith, small, later)))
          ∙ ap (take e) written
          ∙ take-append-le e (take start p.bytes) text (omega (arith, small, long))
          ∙ take-take e start p.bytes small
          ∙ is.texts k le
      texts_at k (inr k_is) before last low inside =
          let n = p.callers in
          ap (λ (j : ℕ). take (get_or (set p.ends (n + 1) end) j 0) bytes) k_is
          ∙ ap (λ (j : ℕ). take j bytes) last ∙ written
          ∙ (λ i. is.texts n (omega arith) i ++ here i)
          ∙ ap (λ (x : List ℕ). callers_text (take n p.path.functions) ++ x) (sym (append-nil (caller_text symbols (get_or p.path.functions n None))))
          ∙ sym (flat_map-append (caller_text symbols) (take n p.path.functions) (get_or p.path.functions n None ∷ []))
          ∙ ap callers_text (sym (take_more p.path.functions n None inside))
          ∙ ap (λ (j : ℕ). callers_text (take j p.path.functions)) (sym k_is)

-- ---- the lines of nodes

abbrev pub node_line : List Symbol → Tree → ℕ → List ℕ
node_line symbols t n = line_text symbols (line_of_node t n)

pub lines_whole : (symbols : List Symbol) (t : Tree) (order : List ℕ) (lines : List (List (Option ℕ) × ℕ)) → lines ≡ map (line_of_node t) order → flat_map (node_line symbols t) order ≡ flat_map (line_text symbols) lines
lines_whole symbols t order lines is = sym (ap (λ (x : List (List (Option ℕ) × ℕ)). flat_map (line_text symbols) x) is ∙ flat_map-map (line_text symbols) (line_of_node t) order)
