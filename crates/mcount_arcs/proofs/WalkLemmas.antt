-- A walk in flight: what its log says of it, and what a look meets.
use Rattle.std.proofs.Common.{None, Bool, ◌≡◌, ℕ, suc, ◌<◌, ◌≤◌, true, false, List, length, Some, inl, inr, sym, ap, ◌∙◌, arith, subst, slice_index}
use Rattle.std.proofs.lemmas.Option.{slice_get_within}
use Rattle.std.specs.List.{slice_get}
use Rattle.std.specs.Option.{option_map, IfSome}
use Rattle.gmon_block.specs.declared.entry.Tos.{Tos}
use Rattle.mcount_arcs.specs.Log.{Pair, same_pair, distinct_count, LogEntry, is_busy, entered_calls, kept_calls, pending_call, WalkDone}
use Rattle.mcount_arcs.specs.Arcs.{chain_in, looks_in, looks_of}
use Rattle.mcount_arcs.specs.Image.{index_at, entry_in}
use Rattle.mcount_arcs.specs.declared.state.State.{State}
use Rattle.mcount_arcs.specs.declared.state.State.TheVariants.{Busy, Error}
use Rattle.mcount_arcs.specs.BlockChanges.{entry_at, index_after, index_before}
use Rattle.mcount_arcs.specs.declared.gmon.Cursor.{Cursor}
use Rattle.mcount_arcs.specs.declared.gmon.Gmon.TheInside.{Inside}
use Rattle.mcount_arcs.specs.declared.walk.Walk.{Walk}
use Rattle.mcount_arcs.specs.Held.{walk_at, flight, view_of, IsHeld}
use Rattle.mcount_arcs.specs.Value.{idle_state, StandsFor, call_of}
use Rattle.mcount_arcs.proofs.DistinctLemmas.{has}
use Rattle.mcount_arcs.proofs.ChainLemmas.{pair, pushed, chain-once, has-chain, in_chain}
use Rattle.mcount_arcs.proofs.EntryLemmas.{entry-at, count_small}
use Rattle.mcount_arcs.proofs.ChainLengths.{chain_short}
use Rattle.mcount_arcs.proofs.IndexLemmas.{at_place}
use Rattle.mcount_arcs.proofs.LookLemmas.{meets_none, meets_last, meets_other}
use Rattle.mcount_arcs.proofs.BlockLemmas.{IsBlockOf, entry_read, index_after-is, number_read}
use Rattle.mcount_arcs.proofs.LogLemmas.{more, looks_of-chain, entries_of-by, fronts_of-by}
use Rattle.mcount_arcs.proofs.CallLemmas.{done-pending_call}
use Rattle.mcount_arcs.proofs.KeptCallLemmas.{kept_calls-all}

pub no_flight : (on : Bool) (c : Cursor) → flight (idle_state on) c ≡ None
no_flight on c = grind arith

pub not_busy : (on : Bool) → idle_state on ≡ Busy → ⊥
not_busy on e = grind arith

flight_is : (s : State) (c : Cursor) (w : Walk) → flight s c ≡ Some w → (s ≡ Busy) × (walk_at c ≡ w)
flight_is s c w e = grind arith

-- all that a log says of the walk in flight
pub record InFlight (a : Inside) (w : Walk) (log : List LogEntry) : Type 0 where
  pub busy : a.state ≡ Busy
  pub busy_log : is_busy log ≡ true
  pub step : ℕ
  pub place : w.place ≡ suc step
  pub slot : w.slot < a.sizes.slots
  pub block : IsBlockOf a.sizes.tolimit a.sizes.slots (kept_calls a.sizes log) (kept_calls a.sizes log) a.block
  pub all : entered_calls a.sizes log ≡ kept_calls a.sizes log
  pub few : distinct_count (kept_calls a.sizes log) < a.sizes.tolimit
  pub next : entered_calls a.sizes (more log WalkDone) ≡ pushed (kept_calls a.sizes log) w.slot w.to
  pub looks : looks_of a.sizes log w.slot w.to ≡ looks_in (chain_in (kept_calls a.sizes log) w.slot) w.to
  pub within : suc step ≤ looks_in (chain_in (kept_calls a.sizes log) w.slot) w.to
  pub at : a.cursor.at ≡ index_after a.block.tos (slice_index a.block.froms w.slot) step
  pub before : a.cursor.before ≡ index_before a.block.tos (slice_index a.block.froms w.slot) step
  pub index : a.cursor.at ≡ index_at (kept_calls a.sizes log) w.slot (slice_get (chain_in (kept_calls a.sizes log) w.slot) step)

block_of : (a : Inside) (log : List LogEntry) → StandsFor log (view_of a) → IsBlockOf a.sizes.tolimit a.sizes.slots (entered_calls a.sizes log) (kept_calls a.sizes log) a.block
block_of a log stands = grind (arith, entries_of-by, fronts_of-by)

not_error : (s : State) → s ≡ Busy → s ≡ Error → ⊥
not_error s busy error = let e : Busy ≡ Error = sym busy ∙ error in cc

in_flight_at : (a : Inside) (log : List LogEntry) → IsHeld a → a.state ≡ Busy → StandsFor log (view_of a) → InFlight a (walk_at a.cursor) log
in_flight_at a log held busy stands =
    let z = a.sizes in
    let at = held.at busy in
    let P : State → Type 0 = λ s. (option_map call_of (flight s a.cursor) ≡ pending_call z log) × IfSome (flight s a.cursor) (λ w. (1 ≤ w.place) × (w.place ≤ looks_of z log w.slot w.to)) in
    let flying = subst P busy (stands.walk, stands.place) in
    let done = done-pending_call z log (pair a.cursor.slot a.cursor.to) (sym flying.0) in
    let raw = block_of a log stands in
    let free = held.free (not_error a.state busy) in
    let number = number_read z.tolimit z.slots (entered_calls z log) (kept_calls z log) a.block raw in
    let few : distinct_count (entered_calls z log) < z.tolimit = omega arith in
    let same = kept_calls-all z log few in
    let Q : List Pair → Type 0 = λ ps. IsBlockOf z.tolimit z.slots ps (kept_calls z log) a.block in
    let block = subst Q (sym same) raw in
    let looks = looks_of-chain z log a.cursor.slot a.cursor.to in
    let slot : a.cursor.slot < z.slots = omega (arith, at.slot, held.froms) in
    let within : suc at.looked ≤ looks_in (chain_in (kept_calls z log) a.cursor.slot) a.cursor.to = omega (arith, flying.1.1, looks, at.place) in
    record {
      busy = busy;
      busy_log = done.0;
      step = at.looked;
      place = at.place;
      slot = slot;
      block = block;
      all = sym same;
      few = omega (arith, ap distinct_count same);
      next = done.1 ∙ ap (λ (ps : List Pair). pushed ps a.cursor.slot a.cursor.to) (sym same);
      looks = looks;
      within = within;
      at = at.at;
      before = at.before;
      index = at.at ∙ index_after-is z.tolimit z.slots (kept_calls z log) (kept_calls z log) a.block a.cursor.slot a.cursor.to at.looked block slot within;
    }

pub in_flight : (a : Inside) (w : Walk) (log : List LogEntry) → IsHeld a → flight a.state a.cursor ≡ Some w → StandsFor log (view_of a) → InFlight a w log
in_flight a w log held e stands =
    let is = flight_is a.state a.cursor w e in
    let P : Walk → Type 0 = λ v. InFlight a v log in
    subst P is.1 (in_flight_at a log held is.0 stands)

pub at_bound : (a : Inside) (w : Walk) (log : List LogEntry) → IsHeld a → InFlight a w log → a.cursor.at < length a.block.tos
at_bound a w log held f = grind arith

pub place_bound : (a : Inside) (w : Walk) (log : List LogEntry) → IsHeld a → InFlight a w log → w.place ≤ 65534
place_bound a w log held f = grind (arith, chain_short)

-- the callee at the place, and its entry
pub record IsHere (a : Inside) (w : Walk) (log : List LogEntry) (step : ℕ) : Type 0 where
  pub to : ℕ
  pub at : slice_get (chain_in (kept_calls a.sizes log) w.slot) step ≡ Some to
  pub entry : entry_at a.block a.cursor.at ≡ entry_in (kept_calls a.sizes log) (pair w.slot to)
  pub link : (entry_at a.block a.cursor.at).link ≡ index_at (kept_calls a.sizes log) w.slot (slice_get (chain_in (kept_calls a.sizes log) w.slot) (suc step))

pub is_here : (a : Inside) (w : Walk) (log : List LogEntry) (f : InFlight a w log) → (a.cursor.at ≡ 0 → ⊥) → IsHere a w log f.step
is_here a w log f some = grind (arith, entry_read, in_chain, entry-at)

-- its calls are among those that are counted
pub count_bound : (a : Inside) (w : Walk) (log : List LogEntry) → InFlight a w log → StandsFor log (view_of a) → (a.cursor.at ≡ 0 → ⊥) → (entry_at a.block a.cursor.at).count ≤ a.calls
count_bound a w log f stands some =
    let here = is_here a w log f some in
    omega (arith, ap (λ (e : Tos). e.count) here.entry, count_small (kept_calls a.sizes log) w.slot here.to, stands.calls)

pub is_found : (a : Inside) (w : Walk) (log : List LogEntry) (f : InFlight a w log) → (a.cursor.at ≡ 0 → ⊥) → (entry_at a.block a.cursor.at).selfpc ≡ w.to → slice_get (chain_in (kept_calls a.sizes log) w.slot) f.step ≡ Some w.to
is_found a w log f some same = grind (arith, is_here a w log f some)

pub is_passed : (a : Inside) (w : Walk) (log : List LogEntry) (f : InFlight a w log) → (a.cursor.at ≡ 0 → ⊥) → ((entry_at a.block a.cursor.at).selfpc ≡ w.to → ⊥) → ((entry_at a.block a.cursor.at).link ≡ 0 → ⊥) → suc f.step < looks_in (chain_in (kept_calls a.sizes log) w.slot) w.to
is_passed a w log f some other link =
    let ps = kept_calls a.sizes log in
    let c = chain_in ps w.slot in
    let here = is_here a w log f some in
    elim (at_place ps w.slot (suc f.step)) [
      | inl past ↦ absurd (link (here.link ∙ past.1))
      | inr next ↦ meets_other c w.to f.step here.to (chain-once ps w.slot) f.within here.at (λ e. other (ap (λ (t : Tos). t.selfpc) here.entry ∙ e)) (slice_get_within c (suc f.step) next.0 next.1)
    ]

-- the callee isn't there, and this is the last look
pub record IsNew (a : Inside) (w : Walk) (log : List LogEntry) (step : ℕ) : Type 0 where
  pub absent : has same_pair (pair w.slot w.to) (kept_calls a.sizes log) ≡ false
  pub last : looks_in (chain_in (kept_calls a.sizes log) w.slot) w.to ≡ suc step

pub is_new_empty : (a : Inside) (w : Walk) (log : List LogEntry) (f : InFlight a w log) → a.cursor.at ≡ 0 → IsNew a w log f.step
is_new_empty a w log f none = grind (arith, at_place, meets_none, chain-once, has-chain)

pub is_new_last : (a : Inside) (w : Walk) (log : List LogEntry) (f : InFlight a w log) → (a.cursor.at ≡ 0 → ⊥) → ((entry_at a.block a.cursor.at).selfpc ≡ w.to → ⊥) → (entry_at a.block a.cursor.at).link ≡ 0 → IsNew a w log f.step
is_new_last a w log f some other link =
    let ps = kept_calls a.sizes log in
    let here = is_here a w log f some in
    elim (at_place ps w.slot (suc f.step)) [
      | inl past ↦
          let m = meets_last (chain_in ps w.slot) w.to f.step here.to (chain-once ps w.slot) f.within here.at (λ e. other (ap (λ (t : Tos). t.selfpc) here.entry ∙ e)) past.0 in
          record { absent = sym (has-chain ps w.slot w.to) ∙ m.0; last = m.1 }
      | inr next ↦ absurd (omega (arith, here.link, next.2, next.3, link))
    ]
