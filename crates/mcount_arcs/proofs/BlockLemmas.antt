-- The block of some calls: what a walk reads in it, and what its last look writes.
use Rattle.std.proofs.Common.{◌≡◌, ℕ, zero, suc, ◌<◌, ◌≤◌, Bool, true, false, cond, ltb, List, length, Some, inl, inr, sym, ap, ◌∙◌, arith, ◌+◌, subst, set, slice_index, slice_index_or}
use Rattle.std.proofs.lemmas.Option.{slice_get_within, get_or_from_slice_get}
use Rattle.std.specs.List.{slice_get}
use Rattle.std.proofs.lemmas.Bool.{lt-ltb}
use Rattle.gmon_block.specs.declared.entry.Tos.{Tos}
use Rattle.mcount_arcs.specs.Log.{Pair, same_pair, distinct_count}
use Rattle.mcount_arcs.specs.Arcs.{chain_in, looks_in}
use Rattle.mcount_arcs.specs.Image.{index_in, index_at, entry_in, front_in, first_entry, entries_in, fronts_in}
use Rattle.gmon_block.specs.Layout.{no_entry, Parts}
use Rattle.mcount_arcs.specs.BlockChanges.{entry_at, index_after, index_before, with_entry_moved, with_call_found, with_next_index, with_new_front, with_call_added}
use Rattle.mcount_arcs.proofs.DistinctLemmas.{has}
use Rattle.mcount_arcs.proofs.ChainLemmas.{pair, pushed, chain-once, in_chain}
use Rattle.mcount_arcs.proofs.IndexLemmas.{index-old, index-new, at_place}
use Rattle.mcount_arcs.proofs.EntryLemmas.{first_at_zero, count_of, entry-at, tos}
use Rattle.mcount_arcs.proofs.EntryListLemmas.{entries-front, entries-back, fronts-front, entries-over, entries-new, fronts-own, read-entry, read-front}
use Rattle.mcount_arcs.proofs.LookLemmas.{looks-found}

-- the lists of a block are those of the calls
pub record IsBlockOf (limit slots : ℕ) (all ps : List Pair) (p : Parts) : Type 0 where
  pub tos : p.tos ≡ entries_in limit all ps
  pub froms : p.froms ≡ fronts_in slots ps

pub entry_read : (limit slots : ℕ) (all ps : List Pair) (p : Parts) (q : Pair) → IsBlockOf limit slots all ps p → has same_pair q ps ≡ true → entry_at p (index_in ps q) ≡ entry_in ps q
entry_read limit slots all ps p q is there = search (slice_index_or, get_or_from_slice_get, read-entry, is.tos)

pub front_read : (limit slots : ℕ) (all ps : List Pair) (p : Parts) (s : ℕ) → IsBlockOf limit slots all ps p → s < slots → slice_index p.froms s ≡ front_in ps s
front_read limit slots all ps p s is within = grind (arith, read-front)

-- so many links behind the front stands what stands there in the chain
pub index_after-is : (limit slots : ℕ) (all ps : List Pair) (p : Parts) (s to k : ℕ) → IsBlockOf limit slots all ps p → s < slots → suc k ≤ looks_in (chain_in ps s) to
    → index_after p.tos (slice_index p.froms s) k ≡ index_at ps s (slice_get (chain_in ps s) k)
index_after-is limit slots all ps p s to zero is within le =
    front_read limit slots all ps p s is within ∙ ap (index_at ps s) (first_at_zero (chain_in ps s))
index_after-is limit slots all ps p s to (suc k) is within le =
    grind (arith, at_place, entry_read, in_chain, entry-at, index_after-is limit slots all ps p s to k is within (omega arith))

pub with_call_found-first : (limit slots : ℕ) (ps : List Pair) (p : Parts) (s t : ℕ) → IsBlockOf limit slots ps ps p → slice_get (chain_in ps s) 0 ≡ Some t
    → IsBlockOf limit slots (pushed ps s t) (pushed ps s t) (with_call_found s 0 (index_in ps (pair s t)) p)
with_call_found-first limit slots ps p s t is at = grind (arith, in_chain, entry_read, entries-front, fronts-front)

pub with_call_found-behind : (limit slots : ℕ) (ps : List Pair) (p : Parts) (s t b i : ℕ) → IsBlockOf limit slots ps ps p → s < slots → slice_get (chain_in ps s) (suc i) ≡ Some t → slice_get (chain_in ps s) i ≡ Some b
    → IsBlockOf limit slots (pushed ps s t) (pushed ps s t) (with_entry_moved s (index_in ps (pair s b)) (index_in ps (pair s t)) p)
with_call_found-behind limit slots ps p s t b i is within at before =
    let there = in_chain ps s (suc i) t at in
    let there_b = in_chain ps s i b before in
    let read = entry_read limit slots ps ps p (pair s t) is there in
    let read_b = entry_read limit slots ps ps p (pair s b) is there_b in
    let front = front_read limit slots ps ps p s is within in
    let ib = index_in ps (pair s b) in
    let it = index_in ps (pair s t) in
    record {
      tos = ap (λ (e : Tos). set (set p.tos ib (record (entry_at p ib) { link = e.link })) it (record { selfpc = e.selfpc; count = e.count + 1; link = slice_index p.froms s })) read
          ∙ ap (λ (e : Tos). set (set p.tos ib (record e { link = (entry_in ps (pair s t)).link })) it (tos t (count_of ps s t + 1) (slice_index p.froms s))) read_b
          ∙ ap (λ (n : ℕ). set (set p.tos ib (record (entry_in ps (pair s b)) { link = (entry_in ps (pair s t)).link })) it (tos t (count_of ps s t + 1) n)) front
          ∙ ap (λ (es : List Tos). set (set es ib (record (entry_in ps (pair s b)) { link = (entry_in ps (pair s t)).link })) it (tos t (count_of ps s t + 1) (front_in ps s))) is.tos
          ∙ entries-back limit ps s t i b at before there there_b;
      froms = ap (λ (fs : List ℕ). set fs s it) is.froms
          ∙ ap (set (fronts_in slots ps) s) (sym (index-old ps s t (pair s t) there))
          ∙ fronts-own slots ps s t within;
    }

with_call_found-some : (s n at : ℕ) (p : Parts) → 0 < n → with_call_found s n at p ≡ with_entry_moved s n at p
with_call_found-some s n at p some = grind arith

-- by where the walk is
pub with_call_found-at : (limit slots : ℕ) (ps : List Pair) (p : Parts) (s t k before at : ℕ) → IsBlockOf limit slots ps ps p → s < slots → slice_get (chain_in ps s) k ≡ Some t
    → at ≡ index_after p.tos (slice_index p.froms s) k → before ≡ index_before p.tos (slice_index p.froms s) k
    → IsBlockOf limit slots (pushed ps s t) (pushed ps s t) (with_call_found s before at p)
with_call_found-at limit slots ps p s t zero before at is within here at_is before_is =
    let looks = looks-found (chain_in ps s) t 0 (chain-once ps s) here in
    let index : at ≡ index_in ps (pair s t) = at_is ∙ index_after-is limit slots ps ps p s t 0 is within (omega arith) ∙ ap (index_at ps s) here in
    let P : Parts → Type 0 = λ q. IsBlockOf limit slots (pushed ps s t) (pushed ps s t) q in
    subst P (ap (λ (i : ℕ). with_call_found s 0 i p) (sym index) ∙ ap (λ (b : ℕ). with_call_found s b at p) (sym before_is)) (with_call_found-first limit slots ps p s t is here)
with_call_found-at limit slots ps p s t (suc k) before at is within here at_is before_is =
    let looks = looks-found (chain_in ps s) t (suc k) (chain-once ps s) here in
    let index : at ≡ index_in ps (pair s t) = at_is ∙ index_after-is limit slots ps ps p s t (suc k) is within (omega arith) ∙ ap (index_at ps s) here in
    let P : Parts → Type 0 = λ q. IsBlockOf limit slots (pushed ps s t) (pushed ps s t) q in
    elim (at_place ps s k) [
      | inl past ↦ absurd (omega (arith, past.0, slice_get_within (chain_in ps s) (suc k) t here))
      | inr b ↦
          let last : before ≡ index_in ps (pair s b.0) = before_is ∙ index_after-is limit slots ps ps p s t k is within (omega arith) ∙ b.2 in
          subst P (sym (with_call_found-some s (index_in ps (pair s b.0)) (index_in ps (pair s t)) p b.3) ∙ ap (λ (i : ℕ). with_call_found s (index_in ps (pair s b.0)) i p) (sym index) ∙ ap (λ (n : ℕ). with_call_found s n at p) (sym last)) (with_call_found-behind limit slots ps p s t b.0 k is within here b.1)
    ]

head_read : (limit slots : ℕ) (all ps : List Pair) (p : Parts) → IsBlockOf limit slots all ps p → entry_at p 0 ≡ first_entry all
head_read limit slots all ps p is = ap (λ (es : List Tos). slice_index_or es 0 no_entry) is.tos

pub number_read : (limit slots : ℕ) (all ps : List Pair) (p : Parts) → IsBlockOf limit slots all ps p → (entry_at p 0).link ≡ distinct_count all
number_read limit slots all ps p is = ap (λ (e : Tos). e.link) (head_read limit slots all ps p is)

with_next_index-is : (limit slots : ℕ) (ps : List Pair) (p : Parts) → IsBlockOf limit slots ps ps p → (with_next_index p).tos ≡ set (entries_in limit ps ps) 0 (record { selfpc = 0; count = 0; link = suc (distinct_count ps) })
with_next_index-is limit slots ps p is = grind arith

pub with_call_added-full : (limit slots : ℕ) (ps : List Pair) (p : Parts) (s t : ℕ) → IsBlockOf limit slots ps ps p → length p.tos ≡ limit → has same_pair (pair s t) ps ≡ false → limit ≤ suc (distinct_count ps)
    → IsBlockOf limit slots (pushed ps s t) ps (with_call_added s t p)
with_call_added-full limit slots ps p s t is long absent full = grind (arith, entries-over)

pub with_call_added-new : (limit slots : ℕ) (ps : List Pair) (p : Parts) (s t : ℕ) → IsBlockOf limit slots ps ps p → s < slots → length p.tos ≡ limit → has same_pair (pair s t) ps ≡ false → suc (distinct_count ps) < limit
    → IsBlockOf limit slots (pushed ps s t) (pushed ps s t) (with_call_added s t p)
with_call_added-new limit slots ps p s t is within long absent room =
    let number = number_read limit slots ps ps p is in
    let i = (entry_at p 0).link + 1 in
    let n : i ≡ suc (distinct_count ps) = omega arith in
    let test : ltb i (length p.tos) ≡ true = lt-ltb i (length p.tos) (omega arith) in
    let same : with_new_front s t i (with_next_index p) ≡ with_call_added s t p = sym (ap (λ (b : Bool). cond b (with_new_front s t i (with_next_index p)) (with_next_index p)) test) in
    let front = front_read limit slots ps ps p s is within in
    let P : Parts → Type 0 = λ q. IsBlockOf limit slots (pushed ps s t) (pushed ps s t) q in
    subst P same (record {
      tos = ap (λ (k : ℕ). set (with_next_index p).tos k (tos t 1 (slice_index p.froms s))) n
          ∙ ap (λ (l : ℕ). set (with_next_index p).tos (suc (distinct_count ps)) (tos t 1 l)) front
          ∙ ap (λ (es : List Tos). set es (suc (distinct_count ps)) (tos t 1 (front_in ps s))) (with_next_index-is limit slots ps p is)
          ∙ entries-new limit ps s t absent room;
      froms = ap (λ (fs : List ℕ). set fs s i) is.froms
          ∙ ap (set (fronts_in slots ps) s) (n ∙ sym (index-new ps s t absent))
          ∙ fronts-own slots ps s t within;
    })
