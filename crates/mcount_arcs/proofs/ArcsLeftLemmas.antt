-- The arcs that are left to be given, one after another.
use Rattle.std.proofs.Common.{All, zero, slice_index_or, ◌≡◌, ℕ, suc, ◌<◌, ◌≤◌, List, [], ◌∷◌, ◌++◌, length, Some, refl, sym, ap, ◌∙◌, arith, ◌+◌, subst, ◌-◌, map, slice_index}
use Rattle.std.specs.List.{slice_get, flat_map, range_with_len}
use Rattle.gmon_block.specs.declared.entry.Tos.{Tos}
use Rattle.mcount_arcs.specs.Log.{distinct_count, LogEntry, entered_calls, kept_calls}
use Rattle.mcount_arcs.specs.Arcs.{chain_in}
use Rattle.mcount_arcs.specs.Image.{index_at, entries_in}
use Rattle.mcount_arcs.specs.declared.sizes.Sizes.{Sizes}
use Rattle.mcount_arcs.specs.Sizes.{AreSizes, site_of}
use Rattle.mcount_arcs.specs.Held.{linked_entries, arc_read, slot_read, arcs_read}
use Rattle.mcount_arcs.specs.ArcsLeft.{AreZero, arcs_left, arcs_from, IsAmong}
use Rattle.mcount_arcs.specs.declared.arcs.Arcs.TheInside.{Inside}
use Rattle.mcount_arcs.specs.Value.{StandsFor, GmonValue}
use denote.Bor.{Bor}
use Rattle.mcount_arcs.specs.declared.gmon.Gmon.{Gmon}
use Rattle.mcount_arcs.proofs.EntryListLemmas.{read-front, length-entries_in}
use Rattle.mcount_arcs.proofs.LinkLemmas.{linked_zero, linked_more, skip_empty}
use Rattle.mcount_arcs.proofs.ChainLengths.{arcs_few}
use Rattle.mcount_arcs.proofs.IndexLemmas.{index_at_small}
use Rattle.mcount_arcs.proofs.LogLemmas.{entries_of-by, fronts_of-by, arcs_of-by}
use Rattle.mcount_arcs.proofs.KeptCallLemmas.{kept_calls-places}
use Rattle.std.proofs.lemmas.List.Elements.{All-nil, All-cons, All-append, All-map}
use Rattle.std.proofs.lemmas.List.{get_or_past}
use Rattle.gmon_block.specs.Layout.{EntryFits, no_entry}
use Rattle.mcount_arcs.specs.Arcs.{CallFits}

pub places : (z : Sizes) (log : List LogEntry) → AreSizes z → distinct_count (kept_calls z log) < z.tolimit
places z log are = omega (arith, kept_calls-places z log, are.least)

tos_is : (v : GmonValue) (log : List LogEntry) → StandsFor log v → v.tos ≡ entries_in v.sizes.tolimit (entered_calls v.sizes log) (kept_calls v.sizes log)
tos_is v log stands = stands.tos ∙ entries_of-by v.sizes log

pub front_is : (v : GmonValue) (log : List LogEntry) (slot : ℕ) → StandsFor log v → slot < v.sizes.slots → slice_index v.froms slot ≡ index_at (kept_calls v.sizes log) slot (slice_get (chain_in (kept_calls v.sizes log) slot) 0)
front_is v log slot stands within = grind (arith, fronts_of-by, read-front)

-- at first
pub left-start : (v : GmonValue) (next : ℕ) → 1 ≤ v.sizes.slots → next ≡ slice_index v.froms 0 → arcs_from v 0 next ≡ arcs_read v.sizes v.tos v.froms
left-start v next some is = grind arith

pub length-arcs : (v : GmonValue) (log : List LogEntry) → AreSizes v.sizes → StandsFor log v → length v.arcs < v.sizes.tolimit
length-arcs v log are stands = grind (arith, arcs_of-by, arcs_few, places)

-- an entry to be given
pub record IsReady (a b : Inside) : Type 0 where
  pub gmon : b.gmon ≡ a.gmon
  pub among : IsAmong b
  pub some : b.next ≡ 0 → ⊥
  pub left : arcs_left a ≡ arcs_left b

pub ready-here : (a b : Inside) → b ≡ a → IsAmong a → (a.next ≡ 0 → ⊥) → IsReady a b
ready-here a b same among some = grind arith

left-empty : (v : GmonValue) (slot to next : ℕ) → slot < v.sizes.slots → next ≡ 0 → slot + 1 ≤ to → to ≤ v.sizes.slots → AreZero v.froms (slot + 1) to
    → arcs_from v slot next ≡ flat_map (slot_read v.sizes v.tos v.froms) (range_with_len to (v.sizes.slots - to))
left-empty v slot to next within none after before zeros =
    let z = v.sizes in
    let m : ℕ = to - (slot + 1) in
    let n : ℕ = z.slots - to in
    let all : z.slots - (slot + 1) ≡ m + n = omega arith in
    grind (arith, linked_zero, skip_empty)

linked_on : (b : Inside) (e : Tos) → (among : IsAmong b) → (b.next ≡ 0 → ⊥) → slice_get b.gmon.now.tos b.next ≡ Some e
    → (linked_entries (length b.gmon.now.tos) b.gmon.now.tos b.next ≡ e ∷ linked_entries (length b.gmon.now.tos) b.gmon.now.tos e.link) × (e.link ≡ index_at (kept_calls b.gmon.now.sizes among.log) b.slot (slice_get (chain_in (kept_calls b.gmon.now.sizes among.log) b.slot) (suc among.given)))
linked_on b e among some read =
    let v = b.gmon.now in
    let z = v.sizes in
    let ps = kept_calls z among.log in
    let is = tos_is v among.log among.stands in
    let P : List Tos → Type 0 = λ es. slice_get es b.next ≡ Some e → (linked_entries (length es) es b.next ≡ e ∷ linked_entries (length es) es e.link) × (e.link ≡ index_at ps b.slot (slice_get (chain_in ps b.slot) (suc among.given))) in
    subst P (sym is) (linked_more z.tolimit (entered_calls z among.log) ps b.slot among.given b.next e (places z among.log among.sizes) among.next some) read

read_b : (a b : Inside) (e : Tos) → IsReady a b → slice_get a.gmon.now.tos b.next ≡ Some e → slice_get b.gmon.now.tos b.next ≡ Some e
read_b a b e ready read = ap (λ (g : Bor Gmon). slice_get g.now.tos b.next) ready.gmon ∙ read

pub given : (a b : Inside) (e : Tos) (site : ℕ) → IsReady a b → slice_get a.gmon.now.tos b.next ≡ Some e → site ≡ site_of a.gmon.now.sizes b.slot
    → arcs_left a ≡ record { from = site; to = e.selfpc; count = e.count } ∷ arcs_left (record b { next = e.link })
given a b e site ready read_a site_is_a =
    let read = read_b a b e ready read_a in
    let site_is : site ≡ site_of b.gmon.now.sizes b.slot = site_is_a ∙ ap (λ (g : Bor Gmon). site_of g.now.sizes b.slot) (sym ready.gmon) in
    let v = b.gmon.now in
    let z = v.sizes in
    let rest = flat_map (slot_read z v.tos v.froms) (range_with_len (b.slot + 1) (z.slots - (b.slot + 1))) in
    ready.left
    ∙ ap (λ (es : List Tos). map (arc_read (site_of z b.slot)) es ++ rest) (linked_on b e ready.among ready.some read).0
    ∙ ap (λ (s : ℕ). record { from = s; to = e.selfpc; count = e.count } ∷ (map (arc_read (site_of z b.slot)) (linked_entries (length v.tos) v.tos e.link) ++ rest)) (sym site_is)

pub ready-next : (a b : Inside) (slot first : ℕ) → b ≡ record a { slot = slot; next = first } → IsAmong a → a.next ≡ 0
    → a.slot + 1 ≤ slot → slot < a.gmon.now.sizes.slots → slice_index a.gmon.now.froms slot ≡ first → 0 < first → AreZero a.gmon.now.froms (a.slot + 1) slot → IsReady a b
ready-next a b slot first same among none after within is some zeros =
    let v = a.gmon.now in
    let z = v.sizes in
    let P : Inside → Type 0 = λ c. IsReady a c in
    let n : ℕ = z.slots - (slot + 1) in
    let rest : z.slots - slot ≡ suc n = omega arith in
    subst P (sym same) (record {
      gmon = refl;
      among = record {
        sizes = among.sizes;
        log = among.log;
        stands = among.stands;
        slot = within;
        given = 0;
        next = sym is ∙ front_is v among.log slot among.stands within;
      };
      some = λ zero_next. omega arith;
      left = left-empty v a.slot slot a.next among.slot none after (omega arith) zeros
          ∙ ap (λ (k : ℕ). flat_map (slot_read z v.tos v.froms) (range_with_len slot k)) rest
          ∙ ap (λ (i : ℕ). map (arc_read (site_of z slot)) (linked_entries (length v.tos) v.tos i) ++ flat_map (slot_read z v.tos v.froms) (range_with_len (slot + 1) n)) is;
    })

-- none is left
pub left-none : (a : Inside) → IsAmong a → a.next ≡ 0 → AreZero a.gmon.now.froms (a.slot + 1) a.gmon.now.sizes.slots → arcs_left a ≡ []
left-none a among none zeros =
    let v = a.gmon.now in
    let end : v.sizes.slots - v.sizes.slots ≡ 0 = omega arith in
    left-empty v a.slot v.sizes.slots a.next among.slot none (omega (arith, among.slot)) (omega arith) zeros
    ∙ ap (λ (k : ℕ). flat_map (slot_read v.sizes v.tos v.froms) (range_with_len v.sizes.slots k)) end

pub next_bound : (b : Inside) → IsAmong b → b.next < length b.gmon.now.tos
next_bound b among =
    let v = b.gmon.now in
    let z = v.sizes in
    let few = places z among.log among.sizes in
    omega (arith, among.next, index_at_small (kept_calls z among.log) b.slot among.given, few, ap length (tos_is v among.log among.stands), length-entries_in z.tolimit (entered_calls z among.log) (kept_calls z among.log) few)

pub bound_a : (a b : Inside) → IsReady a b → b.next < length a.gmon.now.tos
bound_a a b ready = let P : Bor Gmon → Type 0 = λ g. b.next < length g.now.tos in subst P ready.gmon (next_bound b ready.among)

pub among-given : (a b : Inside) (e : Tos) → IsReady a b → slice_get a.gmon.now.tos b.next ≡ Some e → IsAmong (record b { next = e.link })
among-given a b e ready read_a = let read = read_b a b e ready read_a in record {
  sizes = ready.among.sizes;
  log = ready.among.log;
  stands = ready.among.stands;
  slot = ready.among.slot;
  given = suc ready.among.given;
  next = (linked_on b e ready.among ready.some read).1;
}

-- ---- numbers of four bytes

read_fits : (tos : List Tos) (i : ℕ) → All EntryFits tos → EntryFits (slice_index_or tos i no_entry)
read_fits tos i all = grind (arith, get_or_past)

linked_fit : (n : ℕ) (tos : List Tos) (i : ℕ) → All EntryFits tos → All EntryFits (linked_entries n tos i)
linked_fit zero tos i all = All-nil EntryFits
linked_fit (suc n) tos zero all = All-nil EntryFits
linked_fit (suc n) tos (suc i) all =
    let e = slice_index_or tos (suc i) no_entry in
    All-cons EntryFits e (linked_entries n tos e.link) (read_fits tos (suc i) all) (linked_fit n tos e.link all)

slots_fit : (z : Sizes) (tos : List Tos) (froms : List ℕ) (a n : ℕ) → All EntryFits tos → All CallFits (flat_map (slot_read z tos froms) (range_with_len a n))
slots_fit z tos froms a zero all = All-nil CallFits
slots_fit z tos froms a (suc n) all =
    let es = linked_entries (length tos) tos (slice_index froms a) in
    let fit = linked_fit (length tos) tos (slice_index froms a) all in
    All-append CallFits (slot_read z tos froms a) (flat_map (slot_read z tos froms) (range_with_len (a + 1) n))
    (All-map CallFits (arc_read (site_of z a)) es (λ k d lt. let e = fit k d lt in record { to = e.selfpc; count = e.count }))
    (slots_fit z tos froms (a + 1) n all)

-- the arcs that are read in entries of twelve bytes
pub arcs_read-fit : (z : Sizes) (tos : List Tos) (froms : List ℕ) → All EntryFits tos → All CallFits (arcs_read z tos froms)
arcs_read-fit z tos froms all = slots_fit z tos froms 0 z.slots all
