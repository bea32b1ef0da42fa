-- Entries, added to the arcs or to the block counts of a profile.
use Rattle.std.proofs.Common.{◌≡◌, ℕ, ◌+◌, ◌^◌, ◌<◌, Bool, nat_eq, List, [], ◌∷◌, ◌++◌, map, None, Result, Ok, Err, OnOk, OnErr, refl, sym, ap, ◌∙◌, arith}
use Rattle.std.specs.List.{AllByRecursion, IsDistinct}
use Rattle.std.specs.Map.{keys_of}
use Rattle.std.specs.declared.alloc.AllocError.{AllocError}
use Rattle.std.proofs.lemmas.List.{append-nil, map-append}
use Rattle.gmon_data.specs.declared.refusal.AddRefusal.TheVariants.{OutOfMemory}
use Rattle.gmon_data.specs.Tally.{tally, tally_all, tally_total, IsTalliedPartly}
use Rattle.gmon_data.specs.Content.{Content, WideRec, WideArc, WideBlock, same_ends, with_record, with_records, record_conflict, conflict_of, IsProfile, IsStopped, IsWithin}
use Rattle.gmon_data.proofs.TallyLemmas.{next_fit, total-all}
use Rattle.gmon_data.proofs.RecordLemmas.{with_records-append, within_records}

-- the numbers that a content has for keys of one kind: read, written, and the record that counts for an entry
pub record IsTallyIn (K : Type 0) (same : K → K → Bool) (wide : K × ℕ → WideRec) (get : Content → List (K × ℕ)) (put : List (K × ℕ) → Content → Content) (Fits : K → Type 0) : Type 0 where
  pub more : (e : K × ℕ) (c : Content) → with_record (wide e) c ≡ put (tally same e.0 e.1 (get c)) c
  pub got : (es : List (K × ℕ)) (c : Content) → get (put es c) ≡ es
  pub again : (es before : List (K × ℕ)) (c : Content) → put es (put before c) ≡ put es c
  pub as_it_is : (c : Content) → put (get c) c ≡ c
  pub accepted : (e : K × ℕ) (c : Content) → record_conflict c (wide e) ≡ None
  pub few : (c : Content) → IsWithin c → tally_total (get c) < 2 ^ 59
  pub profile : (es : List (K × ℕ)) (c : Content) → IsProfile c → IsWithin (put es c) → AllByRecursion (λ e. Fits e.0) es → IsDistinct same (keys_of es) → IsProfile (put es c)

abbrev pub PairIsOf32 : ℕ × ℕ → Type 0
PairIsOf32 p = (p.0 < 2 ^ 32) × (p.1 < 2 ^ 32)

abbrev pub AddressIsOf32 : ℕ → Type 0
AddressIsOf32 address = address < 2 ^ 32

pub arcs_in : IsTallyIn (ℕ × ℕ) same_ends (λ e. WideArc e.0.0 e.0.1 e.1) (λ c. c.arcs) (λ es c. record c { arcs = es }) PairIsOf32
arcs_in = grind arith

pub blocks_in : IsTallyIn ℕ nat_eq (λ e. WideBlock e.0 e.1) (λ c. c.blocks) (λ es c. record c { blocks = es }) AddressIsOf32
blocks_in = grind arith

-- the records of a file are those of their entries
pub of_entries : {X K : Type 0} (wide : K × ℕ → WideRec) (entry : X → K × ℕ) (xs : List X) → map (λ x. wide (entry x)) xs ≡ map wide (map entry xs)
of_entries wide entry [] = refl
of_entries wide entry (x ∷ xs) = ap (λ (recs : List WideRec). wide (entry x) ∷ recs) (of_entries wide entry xs)

module _ {K : Type 0} {same : K → K → Bool} {wide : K × ℕ → WideRec} {get : Content → List (K × ℕ)} {put : List (K × ℕ) → Content → Content} {Fits : K → Type 0} (t : IsTallyIn K same wide get put Fits) where
  all_put : (es : List (K × ℕ)) (c : Content) → with_records (map wide es) c ≡ put (tally_all same es (get c)) c
  all_put [] c = sym (t.as_it_is c)
  all_put (e ∷ es) c =
      let first = tally same e.0 e.1 (get c) in
      ap (with_records (map wide es)) (t.more e c) ∙ all_put es (put first c)
      ∙ ap (λ (l : List (K × ℕ)). put (tally_all same es l) (put first c)) (t.got first c) ∙ t.again (tally_all same es first) first c

  all_accepted : (es : List (K × ℕ)) (c : Content) → conflict_of c (map wide es) ≡ None
  all_accepted [] c = refl
  all_accepted (e ∷ es) c = rw (t.accepted e c) (all_accepted es (with_record (wide e) c))

  -- entries that are added one after the other to a profile, which is seen as w
  module _ (v w : Content) (is : v ≡ w) (es : List (K × ℕ)) (recs : List WideRec) (are : recs ≡ map wide es) (within : IsWithin (with_records recs w)) where
    made : with_records recs w ≡ put (tally_all same es (get v)) v
    made = ap (λ (l : List WideRec). with_records l w) are ∙ ap (with_records (map wide es)) (sym is) ∙ all_put es v

    pub entries_fit : tally_total (get v) + tally_total es < 2 ^ 64
    entries_fit = grind (arith, made, total-all)

    -- of some first ones
    module _ (new done rest : List (K × ℕ)) (split : es ≡ done ++ rest) (tallied : new ≡ tally_all same done (get v)) where
      some_added : put new v ≡ with_records (map wide done) w
      some_added = ap (λ (l : List (K × ℕ)). put l v) tallied ∙ sym (all_put done v) ∙ ap (with_records (map wide done)) is

      some_split : recs ≡ map wide done ++ map wide rest
      some_split = are ∙ ap (map wide) split ∙ map-append wide done rest

      some_stay : IsProfile v → AllByRecursion (λ e. Fits e.0) new → IsDistinct same (keys_of new) → IsProfile (put new v)
      some_stay profile fit distinct = grind (arith, some_split, with_records-append, some_added, within_records)

    module _ (new : List (K × ℕ)) where
      pub entries_added : (r : Result (Unit {0}) AllocError) → OnOk r (new ≡ tally_all same es (get v)) → OnOk r (put new v ≡ with_records recs w)
      entries_added r added = grind (arith, made)

      pub entries_stopped : (r : Result (Unit {0}) AllocError) → OnErr r (IsTalliedPartly same es (get v) new) → OnErr r (IsStopped OutOfMemory recs w (put new v))
      entries_stopped (Ok u) p = p
      entries_stopped (Err e) p = record {
        done = map wide p.done;
        rest = map wide (p.next ∷ p.rest);
        split = some_split new p.done (p.next ∷ p.rest) p.split p.tallied;
        added = some_added new p.done (p.next ∷ p.rest) p.split p.tallied;
        accepted = all_accepted p.done w;
        refused = t.accepted p.next (put new v);
      }

      pub entries_stay : (r : Result (Unit {0}) AllocError) → OnOk r (new ≡ tally_all same es (get v)) → OnErr r (IsTalliedPartly same es (get v) new)
          → IsProfile v → AllByRecursion (λ e. Fits e.0) new → IsDistinct same (keys_of new) → IsProfile (put new v)
      entries_stay (Ok u) added p = some_stay new es [] (sym (append-nil es)) added
      entries_stay (Err e) added p = some_stay new p.done (p.next ∷ p.rest) p.split p.tallied

-- a single entry, which is added or not
module _ {K : Type 0} (same : K → K → Bool) (k : K) (n : ℕ) (es new : List (K × ℕ)) where
  pub one_fits : (P : K → Type 0) (r : Result (Unit {0}) AllocError) → OnOk r (new ≡ tally same k n es) → OnErr r (new ≡ es) → P k → AllByRecursion (λ e. P e.0) es → AllByRecursion (λ e. P e.0) new
  one_fits P r added p mine all = grind (arith, next_fit)
