-- A runtime after a look.
use Rattle.std.proofs.Common.{All, ◌≡◌, ℕ, suc, ◌<◌, ◌≤◌, Bool, true, false, List, length, Some, None, inl, inr, refl, sym, ap, ◌∙◌, arith, ◌+◌, Option, length-append, if◌then◌else◌, ◌⊎◌}
use Rattle.std.specs.List.{slice_get}
use Rattle.std.specs.Option.{option_map, IfSome}
use Rattle.gmon_block.specs.declared.entry.Tos.{Tos}
use Rattle.mcount_arcs.specs.Log.{Pair, same_pair, distinct_count, LogEntry, kept_calls, state_of, WalkDone}
use Rattle.mcount_arcs.specs.Arcs.{chain_in, arcs_in, looks_in, looks_of}
use Rattle.mcount_arcs.specs.Image.{entries_in, fronts_in}
use Rattle.mcount_arcs.specs.declared.state.State.{State}
use Rattle.mcount_arcs.specs.declared.state.State.TheVariants.{Busy, Error}
use Rattle.mcount_arcs.specs.Held.{arcs_read, flight, view_of, IsAt, IsHeld}
use Rattle.gmon_block.specs.Layout.{EntryFits, Parts}
use Rattle.mcount_arcs.specs.BlockChanges.{entry_at, with_call_found, with_call_added}
use Rattle.mcount_arcs.specs.declared.gmon.Gmon.TheInside.{Inside}
use Rattle.mcount_arcs.specs.declared.walk.Walk.{Walk}
use Rattle.mcount_arcs.specs.Value.{idle_state, StandsFor, call_of, GmonValue, next_of, is_full, Ends, Looks}
use Rattle.mcount_arcs.specs.declared.walk.Looked.{Looked}
use Rattle.mcount_arcs.specs.declared.walk.Looked.TheVariants.{More, Counted, Overflowed}
use Rattle.mcount_arcs.proofs.DistinctLemmas.{has}
use Rattle.mcount_arcs.proofs.ChainLemmas.{pair, pushed, chain-once, in_chain}
use Rattle.mcount_arcs.proofs.IndexLemmas.{index-at, index-absent, place_of, count-new, count-old}
use Rattle.mcount_arcs.proofs.LogLemmas.{IsLegal-push, more, is_on-same, buckets_of-same, entries_of-by, fronts_of-by, arcs_of-by}
use Rattle.mcount_arcs.proofs.ChainLengths.{chain_short}
use Rattle.mcount_arcs.proofs.EntryListLemmas.{length-entries_in, length-fronts}
use Rattle.mcount_arcs.proofs.LinkLemmas.{arcs_reads}
use Rattle.mcount_arcs.proofs.BlockLemmas.{IsBlockOf, with_call_found-at, number_read, with_call_added-full, with_call_added-new}
use Rattle.mcount_arcs.proofs.LookLemmas.{looks-found, looks_bounds}
use Rattle.mcount_arcs.proofs.CallLemmas.{is_busy-done, kept_calls-full, pending_call-idle, state_of-done, state_of-full}
use Rattle.mcount_arcs.proofs.HeldLemmas.{held_with}
use Rattle.mcount_arcs.proofs.WalkLemmas.{no_flight, not_busy, InFlight, in_flight, is_found, is_passed, IsNew, is_new_empty, is_new_last}
use Rattle.mcount_arcs.proofs.KeptCallLemmas.{kept_calls-all}

-- its call is counted
abbrev pub counted_as : Inside → Parts → Inside
counted_as a block = record a { block = block; state = idle_state a.sampling; calls = a.calls + 1 }

-- or there is no place for it
abbrev pub filled_as : Inside → Parts → Inside
filled_as a block = record a { block = block; state = Error }

nothing_placed : (o : Option Walk) (P : Walk → Type 0) → o ≡ None → IfSome o P
nothing_placed o P is = grind arith

-- the calls that are kept after an end
kept_more : (a : Inside) (w : Walk) (log : List LogEntry) → InFlight a w log → distinct_count (pushed (kept_calls a.sizes log) w.slot w.to) < a.sizes.tolimit → kept_calls a.sizes (more log WalkDone) ≡ pushed (kept_calls a.sizes log) w.slot w.to
kept_more a w log f places = grind (arith, kept_calls-all)

kept_same : (a : Inside) (w : Walk) (log : List LogEntry) → InFlight a w log → a.sizes.tolimit ≤ distinct_count (pushed (kept_calls a.sizes log) w.slot w.to) → kept_calls a.sizes (more log WalkDone) ≡ kept_calls a.sizes log
kept_same a w log f full = grind (arith, kept_calls-full)

-- an end leaves the block of the calls that are kept then, and no walk
stands_done : (a : Inside) (w : Walk) (log : List LogEntry) (block : Parts) (s : State) (n : ℕ) (ps : List Pair) → InFlight a w log → StandsFor log (view_of a)
    → IsBlockOf a.sizes.tolimit a.sizes.slots (pushed (kept_calls a.sizes log) w.slot w.to) ps block → block.counters ≡ a.block.counters
    → kept_calls a.sizes (more log WalkDone) ≡ ps → distinct_count ps < a.sizes.tolimit → s ≡ state_of a.sizes (more log WalkDone) → n ≡ length ps → flight s a.cursor ≡ None
    → StandsFor (more log WalkDone) (view_of (record a { block = block; state = s; calls = n }))
stands_done a w log block s n ps f stands is counters kept_is places state calls no_walk =
    let z = a.sizes in
    let all = pushed (kept_calls z log) w.slot w.to in
    let after = more log WalkDone in
    record {
      legal = IsLegal-push z log WalkDone stands.legal f.busy_log;
      tos = is.tos ∙ sym (entries_of-by z after ∙ ap (λ (qs : List Pair). entries_in z.tolimit qs (kept_calls z after)) f.next ∙ ap (entries_in z.tolimit all) kept_is);
      counters = counters ∙ stands.counters ∙ sym (buckets_of-same z log WalkDone (λ before. refl));
      froms = is.froms ∙ sym (fronts_of-by z after ∙ ap (fronts_in z.slots) kept_is);
      state = state;
      sampling = stands.sampling ∙ sym (is_on-same log WalkDone refl);
      calls = calls ∙ ap length (sym kept_is);
      arcs = ap (λ (es : List Tos). arcs_read z es block.froms) is.tos ∙ ap (arcs_read z (entries_in z.tolimit all ps)) is.froms ∙ arcs_reads z all ps places ∙ sym (arcs_of-by z after ∙ ap (arcs_in z) kept_is);
      walk = ap (option_map call_of) no_walk ∙ sym (pending_call-idle z after (is_busy-done log));
      place = nothing_placed (flight s a.cursor) (λ v. (1 ≤ v.place) × (v.place ≤ looks_of z after v.slot v.to)) no_walk;
    }

pub stands_counted : (a : Inside) (w : Walk) (log : List LogEntry) (block : Parts) → InFlight a w log → StandsFor log (view_of a)
    → IsBlockOf a.sizes.tolimit a.sizes.slots (pushed (kept_calls a.sizes log) w.slot w.to) (pushed (kept_calls a.sizes log) w.slot w.to) block → block.counters ≡ a.block.counters
    → distinct_count (pushed (kept_calls a.sizes log) w.slot w.to) < a.sizes.tolimit → StandsFor (more log WalkDone) (view_of (counted_as a block))
stands_counted a w log block f stands is counters places =
    search (arith, pushed, state_of-done, length-append, pair, stands_done, kept_more, no_flight, stands.sampling, f.next, a.calls, stands.calls, a.sampling, a.cursor)

pub stands_filled : (a : Inside) (w : Walk) (log : List LogEntry) (block : Parts) → InFlight a w log → StandsFor log (view_of a)
    → IsBlockOf a.sizes.tolimit a.sizes.slots (pushed (kept_calls a.sizes log) w.slot w.to) (kept_calls a.sizes log) block → block.counters ≡ a.block.counters
    → a.sizes.tolimit ≤ distinct_count (pushed (kept_calls a.sizes log) w.slot w.to) → StandsFor (more log WalkDone) (view_of (filled_as a block))
stands_filled a w log block f stands is counters full = search (state_of-full, stands_done, kept_same, f.next, a.calls, f.few, stands.calls)

test_full : (a : Inside) (w : Walk) (log : List LogEntry) (b : Bool) → is_full a.sizes log w ≡ b → (if is_full a.sizes log w then Overflowed else Counted) ≡ (if b then Overflowed else Counted)
test_full a w log b e = ap (λ (c : Bool). if c then Overflowed else Counted) e

pub full_found : (a : Inside) (w : Walk) (log : List LogEntry) → has same_pair (pair w.slot w.to) (kept_calls a.sizes log) ≡ true → is_full a.sizes log w ≡ false
full_found a w log there = grind (arith, place_of, index-at)

pub full_room : (a : Inside) (w : Walk) (log : List LogEntry) → suc (distinct_count (kept_calls a.sizes log)) < a.sizes.tolimit → is_full a.sizes log w ≡ false
full_room a w log room = grind arith

pub full_full : (a : Inside) (w : Walk) (log : List LogEntry) → has same_pair (pair w.slot w.to) (kept_calls a.sizes log) ≡ false → suc (distinct_count (kept_calls a.sizes log)) ≡ a.sizes.tolimit → is_full a.sizes log w ≡ true
full_full a w log absent full = grind (arith, index-absent)

-- a walk ends at its last look
pub ends : (log : List LogEntry) (w : Walk) (old new : GmonValue) (result : Looked) → looks_of old.sizes log w.slot w.to ≡ w.place → Ends log w old new result → Looks log w old new result
ends log w old new result last e = grind arith

held_done : (a : Inside) (w : Walk) (log : List LogEntry) (block : Parts) (s : State) (n : ℕ) (ps : List Pair) → IsHeld a
    → IsBlockOf a.sizes.tolimit a.sizes.slots (pushed (kept_calls a.sizes log) w.slot w.to) ps block → block.counters ≡ a.block.counters → All EntryFits block.tos → distinct_count ps < a.sizes.tolimit
    → StandsFor (more log WalkDone) (view_of (record a { block = block; state = s; calls = n })) → ((s ≡ Error → ⊥) → (entry_at block 0).link < a.sizes.tolimit) → (s ≡ Busy → ⊥)
    → IsHeld (record a { block = block; state = s; calls = n })
held_done a w log block s n ps held is counters fits places stands free idle = grind (arith, length-entries_in, length-fronts)

pub held_counted : (a : Inside) (w : Walk) (log : List LogEntry) (block : Parts) → IsHeld a → InFlight a w log → StandsFor log (view_of a)
    → IsBlockOf a.sizes.tolimit a.sizes.slots (pushed (kept_calls a.sizes log) w.slot w.to) (pushed (kept_calls a.sizes log) w.slot w.to) block → block.counters ≡ a.block.counters → All EntryFits block.tos
    → distinct_count (pushed (kept_calls a.sizes log) w.slot w.to) < a.sizes.tolimit → IsHeld (counted_as a block)
held_counted a w log block held f stands is counters fits places =
    let ps = pushed (kept_calls a.sizes log) w.slot w.to in
    held_done a w log block (idle_state a.sampling) (a.calls + 1) ps held is counters fits places (stands_counted a w log block f stands is counters places)
    (λ _. omega (arith, number_read a.sizes.tolimit a.sizes.slots ps ps block is)) (not_busy a.sampling)

pub held_filled : (a : Inside) (w : Walk) (log : List LogEntry) (block : Parts) → IsHeld a → InFlight a w log → StandsFor log (view_of a)
    → IsBlockOf a.sizes.tolimit a.sizes.slots (pushed (kept_calls a.sizes log) w.slot w.to) (kept_calls a.sizes log) block → block.counters ≡ a.block.counters → All EntryFits block.tos
    → a.sizes.tolimit ≤ distinct_count (pushed (kept_calls a.sizes log) w.slot w.to) → IsHeld (filled_as a block)
held_filled a w log block held f stands is counters fits full =
    held_done a w log block Error a.calls (kept_calls a.sizes log) held is counters fits f.few (stands_filled a w log block f stands is counters full) (λ other. absurd (other refl)) (λ busy. let e : Error ≡ Busy = busy in cc)

pub with_call_found-counters : (s b at : ℕ) (p : Parts) → (with_call_found s b at p).counters ≡ p.counters
with_call_found-counters s b at p = grind arith

pub record Sees (a : Inside) (w : Walk) (e : Tos) : Type 0 where
  pub some : a.cursor.at ≡ 0 → ⊥
  pub entry : entry_at a.block a.cursor.at ≡ e

found_block : (a : Inside) (w : Walk) (log : List LogEntry) (f : InFlight a w log) → slice_get (chain_in (kept_calls a.sizes log) w.slot) f.step ≡ Some w.to
    → IsBlockOf a.sizes.tolimit a.sizes.slots (pushed (kept_calls a.sizes log) w.slot w.to) (pushed (kept_calls a.sizes log) w.slot w.to) (with_call_found w.slot a.cursor.before a.cursor.at a.block)
found_block a w log f at = search with_call_found-at

found_places : (a : Inside) (w : Walk) (log : List LogEntry) (f : InFlight a w log) → slice_get (chain_in (kept_calls a.sizes log) w.slot) f.step ≡ Some w.to → distinct_count (pushed (kept_calls a.sizes log) w.slot w.to) < a.sizes.tolimit
found_places a w log f at = search (count-old, in_chain)

pub found_looks : (a : Inside) (w : Walk) (log : List LogEntry) (e : Tos) → IsHeld a → flight a.state a.cursor ≡ Some w → Sees a w e → e.selfpc ≡ w.to → StandsFor log (view_of a)
    → Looks log w (view_of a) (view_of (counted_as a (with_call_found w.slot a.cursor.before a.cursor.at a.block))) Counted
found_looks a w log e held flying sees same stands =
    let f = in_flight a w log held flying stands in
    let block = with_call_found w.slot a.cursor.before a.cursor.at a.block in
    let at = is_found a w log f sees.some (ap (λ (t : Tos). t.selfpc) sees.entry ∙ same) in
    let there = in_chain (kept_calls a.sizes log) w.slot f.step w.to at in
    ends log w (view_of a) (view_of (counted_as a block)) Counted (f.looks ∙ looks-found (chain_in (kept_calls a.sizes log) w.slot) w.to f.step (chain-once (kept_calls a.sizes log) w.slot) at ∙ sym f.place) (record {
      answer = sym (test_full a w log false (full_found a w log there));
      stands = stands_counted a w log block f stands (found_block a w log f at) (with_call_found-counters w.slot a.cursor.before a.cursor.at a.block) (found_places a w log f at);
    })

pub found_held : (a : Inside) (w : Walk) (e : Tos) → IsHeld a → flight a.state a.cursor ≡ Some w → Sees a w e → e.selfpc ≡ w.to → All EntryFits (with_call_found w.slot a.cursor.before a.cursor.at a.block).tos → IsHeld (counted_as a (with_call_found w.slot a.cursor.before a.cursor.at a.block))
found_held a w e held flying sees same fits =
    let log = held.log in
    let f = in_flight a w log held flying held.stands in
    let at = is_found a w log f sees.some (ap (λ (t : Tos). t.selfpc) sees.entry ∙ same) in
    held_counted a w log (with_call_found w.slot a.cursor.before a.cursor.at a.block) held f held.stands (found_block a w log f at) (with_call_found-counters w.slot a.cursor.before a.cursor.at a.block) fits (found_places a w log f at)

pub with_call_added-counters : (s t : ℕ) (p : Parts) → (with_call_added s t p).counters ≡ p.counters
with_call_added-counters s t p = grind arith

-- the slot is empty, or another callee stands last
abbrev pub EndsAtNew : Inside → Walk → Type 0
EndsAtNew a w = (a.cursor.at ≡ 0) ⊎ ((a.cursor.at ≡ 0 → ⊥) × ((entry_at a.block a.cursor.at).selfpc ≡ w.to → ⊥) × ((entry_at a.block a.cursor.at).link ≡ 0))

new_call : (a : Inside) (w : Walk) (log : List LogEntry) (f : InFlight a w log) → EndsAtNew a w → IsNew a w log f.step
new_call a w log f none = elim none [
  | inl empty ↦ is_new_empty a w log f empty
  | inr last ↦ is_new_last a w log f last.0 last.1 last.2
]

number_is : (a : Inside) (w : Walk) (log : List LogEntry) → InFlight a w log → (entry_at a.block 0).link ≡ distinct_count (kept_calls a.sizes log)
number_is a w log f = number_read a.sizes.tolimit a.sizes.slots (kept_calls a.sizes log) (kept_calls a.sizes log) a.block f.block

-- there is an index left
abbrev pub HasRoom : Inside → Type 0
HasRoom a = (entry_at a.block 0).link + 1 < a.sizes.tolimit

pub added_looks : (a : Inside) (w : Walk) (log : List LogEntry) → IsHeld a → flight a.state a.cursor ≡ Some w → EndsAtNew a w → HasRoom a → StandsFor log (view_of a)
    → Looks log w (view_of a) (view_of (counted_as a (with_call_added w.slot w.to a.block))) Counted
added_looks a w log held flying none room stands =
    let z = a.sizes in
    let ps = kept_calls z log in
    let f = in_flight a w log held flying stands in
    let new = new_call a w log f none in
    let number = number_is a w log f in
    let more_room : suc (distinct_count ps) < z.tolimit = omega arith in
    let block = with_call_added-new z.tolimit z.slots ps a.block w.slot w.to f.block f.slot held.tos new.absent more_room in
    ends log w (view_of a) (view_of (counted_as a (with_call_added w.slot w.to a.block))) Counted (f.looks ∙ new.last ∙ sym f.place) (record {
      answer = sym (test_full a w log false (full_room a w log more_room));
      stands = stands_counted a w log (with_call_added w.slot w.to a.block) f stands block (with_call_added-counters w.slot w.to a.block) (omega (arith, count-new ps w.slot w.to new.absent));
    })

pub added_held : (a : Inside) (w : Walk) → IsHeld a → flight a.state a.cursor ≡ Some w → EndsAtNew a w → HasRoom a → All EntryFits (with_call_added w.slot w.to a.block).tos → IsHeld (counted_as a (with_call_added w.slot w.to a.block))
added_held a w held flying none room fits =
    let z = a.sizes in
    let log = held.log in
    let ps = kept_calls z log in
    let f = in_flight a w log held flying held.stands in
    let new = new_call a w log f none in
    let number = number_is a w log f in
    let more_room : suc (distinct_count ps) < z.tolimit = omega arith in
    search (with_call_added-new, held_counted, with_call_added-counters, count-new)

pub filled_looks : (a : Inside) (w : Walk) (log : List LogEntry) → IsHeld a → flight a.state a.cursor ≡ Some w → EndsAtNew a w → (HasRoom a → ⊥) → StandsFor log (view_of a)
    → Looks log w (view_of a) (view_of (filled_as a (with_call_added w.slot w.to a.block))) Overflowed
filled_looks a w log held flying none full stands =
    let z = a.sizes in
    let ps = kept_calls z log in
    let f = in_flight a w log held flying stands in
    let new = new_call a w log f none in
    let number = number_is a w log f in
    let no_room : suc (distinct_count ps) ≡ z.tolimit = omega (arith, f.few) in
    let block = with_call_added-full z.tolimit z.slots ps a.block w.slot w.to f.block held.tos new.absent (omega arith) in
    ends log w (view_of a) (view_of (filled_as a (with_call_added w.slot w.to a.block))) Overflowed (f.looks ∙ new.last ∙ sym f.place) (record {
      answer = sym (test_full a w log true (full_full a w log new.absent no_room));
      stands = stands_filled a w log (with_call_added w.slot w.to a.block) f stands block (with_call_added-counters w.slot w.to a.block) (omega (arith, count-new ps w.slot w.to new.absent));
    })

pub filled_held : (a : Inside) (w : Walk) → IsHeld a → flight a.state a.cursor ≡ Some w → EndsAtNew a w → (HasRoom a → ⊥) → All EntryFits (with_call_added w.slot w.to a.block).tos → IsHeld (filled_as a (with_call_added w.slot w.to a.block))
filled_held a w held flying none full fits =
    let z = a.sizes in
    let log = held.log in
    let ps = kept_calls z log in
    let f = in_flight a w log held flying held.stands in
    let new = new_call a w log f none in
    let number = number_is a w log f in
    let block = with_call_added-full z.tolimit z.slots ps a.block w.slot w.to f.block held.tos new.absent (omega arith) in
    held_filled a w log (with_call_added w.slot w.to a.block) held f held.stands block (with_call_added-counters w.slot w.to a.block) fits (omega (arith, count-new ps w.slot w.to new.absent))

abbrev pub moved_as : Inside → Walk → ℕ → Inside
moved_as a w link = record a { cursor = record { slot = w.slot; to = w.to; place = w.place + 1; at = link; before = a.cursor.at } }

pub moved_flight : (a : Inside) (w : Walk) (log : List LogEntry) (link : ℕ) → InFlight a w log → flight a.state (record { slot = w.slot; to = w.to; place = w.place + 1; at = link; before = a.cursor.at }) ≡ Some (next_of w)
moved_flight a w log link f = ap (λ (s : State). flight s (record { slot = w.slot; to = w.to; place = w.place + 1; at = link; before = a.cursor.at })) f.busy

placed : (o : Option Walk) (w : Walk) (P : Walk → Type 0) → o ≡ Some w → P w → IfSome o P
placed o w P e p = grind arith

stands_moved : (a : Inside) (w : Walk) (log : List LogEntry) (link : ℕ) (f : InFlight a w log) → flight a.state a.cursor ≡ Some w → StandsFor log (view_of a) → suc f.step < looks_in (chain_in (kept_calls a.sizes log) w.slot) w.to → StandsFor log (view_of (moved_as a w link))
stands_moved a w log link f flying stands more_looks = grind arith

pub moved_looks : (a : Inside) (w : Walk) (log : List LogEntry) (e : Tos) → IsHeld a → flight a.state a.cursor ≡ Some w → Sees a w e → (e.selfpc ≡ w.to → ⊥) → (e.link ≡ 0 → ⊥) → StandsFor log (view_of a)
    → Looks log w (view_of a) (view_of (moved_as a w e.link)) (More (next_of w))
moved_looks a w log e held flying sees other link stands =
    let f = in_flight a w log held flying stands in
    let more_looks = is_passed a w log f sees.some (λ same. other (ap (λ (t : Tos). t.selfpc) (sym sees.entry) ∙ same)) (λ none. link (ap (λ (t : Tos). t.link) (sym sees.entry) ∙ none)) in
    record {
      on = λ lt. record {
        answer = refl;
        changed = ap (λ (o : Option Walk). record (view_of a) { walk = o }) (moved_flight a w log e.link f);
        stands = stands_moved a w log e.link f flying stands more_looks;
      };
      last = λ same. absurd (omega (arith, f.looks, f.place));
    }

pub moved_held : (a : Inside) (w : Walk) (e : Tos) → IsHeld a → flight a.state a.cursor ≡ Some w → Sees a w e → (e.selfpc ≡ w.to → ⊥) → (e.link ≡ 0 → ⊥) → IsHeld (moved_as a w e.link)
moved_held a w e held flying sees other link =
    let log = held.log in
    let f = in_flight a w log held flying held.stands in
    let more_looks = is_passed a w log f sees.some (λ same. other (ap (λ (t : Tos). t.selfpc) (sym sees.entry) ∙ same)) (λ none. link (ap (λ (t : Tos). t.link) (sym sees.entry) ∙ none)) in
    let is_at : IsAt a.block (record { slot = w.slot; to = w.to; place = w.place + 1; at = e.link; before = a.cursor.at }) = record {
      slot = omega (arith, f.slot, held.froms);
      looked = suc f.step;
      place = omega (arith, f.place);
      at = ap (λ (t : Tos). t.link) (sym sees.entry) ∙ ap (λ (i : ℕ). (entry_at a.block i).link) f.at;
      before = f.at;
    } in
    held_with a a.state a.sampling _ log held (stands_moved a w log e.link f flying held.stands more_looks) (λ error. error) (λ _. is_at) held.room

pub moved_place : (a : Inside) (w : Walk) (log : List LogEntry) (e : Tos) → IsHeld a → flight a.state a.cursor ≡ Some w → Sees a w e → (e.selfpc ≡ w.to → ⊥) → (e.link ≡ 0 → ⊥) → StandsFor log (view_of a) → w.place + 1 ≤ 65534
moved_place a w log e held flying sees other link stands =
    let f = in_flight a w log held flying stands in
    grind (arith, looks_bounds, chain_short)
