-- A runtime after a call arrived.
use Rattle.std.proofs.Common.{None, ◌≡◌, ℕ, ◌<◌, ◌≤◌, List, length, Some, refl, sym, ap, ◌∙◌, arith, ◌+◌, subst, ◌-◌, ◌⊎◌, ◌/◌, ◌%◌, ◌^◌}
use Rattle.std.proofs.lemmas.Option.{slice_get_within, get_or_from_slice_get}
use Rattle.std.specs.List.{slice_get}
use Rattle.mcount_arcs.specs.declared.sizes.Sizes.{Sizes}
use Rattle.mcount_arcs.specs.declared.sizes.Width.{Width}
use Rattle.mcount_arcs.specs.declared.state.State.{State}
use Rattle.mcount_arcs.specs.declared.state.State.TheVariants.{On, Busy, Error, Off}
use Rattle.mcount_arcs.specs.Samples.{counted_in}
use Rattle.mcount_arcs.specs.Log.{mode_in, MayFollow, LogEntry, kept_calls, Enter, CallLost, CallIgnored, IsSite}
use Rattle.mcount_arcs.specs.Sizes.{AreSizes, IsWidth, slot_of, offset_of}
use Rattle.mcount_arcs.specs.declared.gmon.Cursor.{Cursor}
use Rattle.mcount_arcs.specs.declared.gmon.Gmon.TheInside.{Inside}
use Rattle.mcount_arcs.specs.Held.{view_of, IsAt, IsHeld}
use Rattle.mcount_arcs.specs.Value.{StandsFor, GmonValue}
use Rattle.mcount_arcs.proofs.LogLemmas.{IsQuiet, state_of-quiet, is_on-same, buckets_of-same, IsLegal-push, more, kept_calls-entered_calls, is_on-same, buckets_of-same, looks_of-chain, entries_of-entered_calls, fronts_of-entered_calls, arcs_of-entered_calls}
use Rattle.mcount_arcs.proofs.LookLemmas.{looks_bounds}
use Rattle.mcount_arcs.proofs.CallLemmas.{is_busy-enter, entered_calls-enter, pending_call-enter, state_of-busy, is_busy-other}
use Rattle.mcount_arcs.proofs.HeldLemmas.{held_with}
use Rattle.mcount_arcs.proofs.QuietEntryLemmas.{StandsFor-quiet}
use Rattle.mcount_arcs.proofs.SizeLemmas.{part_is}

-- a call that is turned away leaves all as it was
StandsFor-turned_away : (log : List LogEntry) (entry : LogEntry) (v : GmonValue) → IsQuiet v.sizes entry → mode_in entry ≡ None → ((before : List LogEntry) → counted_in v.sizes before entry ≡ None) → MayFollow v.sizes log entry → StandsFor log v → StandsFor (more log entry) v
StandsFor-turned_away log entry v quiet no_mode no_sample may stands =
    StandsFor-quiet log entry v v.counters v.state v.sampling quiet may stands
    (stands.counters ∙ sym (buckets_of-same v.sizes log entry no_sample)) (stands.state ∙ sym (state_of-quiet v.sizes log entry quiet no_mode)) (stands.sampling ∙ sym (is_on-same log entry no_mode))

pub StandsFor-lost : (log : List LogEntry) (v : GmonValue) (from to : ℕ) → v.state ≡ Busy → StandsFor log v → StandsFor (more log (CallLost from to)) v
StandsFor-lost log v from to busy stands =
    StandsFor-turned_away log (CallLost from to) v (record { walk = refl; pair = refl }) refl (λ before. refl) (sym stands.state ∙ busy) stands

pub StandsFor-ignored : (log : List LogEntry) (v : GmonValue) (from to : ℕ) → ((v.state ≡ Off) ⊎ (v.state ≡ Error) ⊎ ((v.state ≡ On) × (v.sizes.high - v.sizes.low ≤ offset_of v.sizes from))) → StandsFor log v → StandsFor (more log (CallIgnored from to)) v
StandsFor-ignored log v from to why stands =
    let P : State → Type 0 = λ s. (s ≡ Off) ⊎ (s ≡ Error) ⊎ ((s ≡ On) × (v.sizes.high - v.sizes.low ≤ offset_of v.sizes from)) in
    StandsFor-turned_away log (CallIgnored from to) v (record { walk = refl; pair = refl }) refl (λ before. refl) (subst P stands.state why) stands

abbrev pub entered_as : Inside → ℕ → ℕ → ℕ → Inside
entered_as a slot to at = record a { state = Busy; cursor = record { slot = slot; to = to; place = 1; at = at; before = 0 } }

pub stands_entered : (a : Inside) (log : List LogEntry) (from to slot at : ℕ) → a.state ≡ On → slot ≡ slot_of a.sizes from → IsSite a.sizes from → StandsFor log (view_of a) → StandsFor (more log (Enter from to)) (view_of (entered_as a slot to at))
stands_entered a log from to slot at on slot_is site stands =
    let z = a.sizes in
    let after = more log (Enter from to) in
    let state_on = sym stands.state ∙ on in
    let idle_log = is_busy-other z log (λ busy. let e : On ≡ Busy = sym state_on ∙ busy in cc) in
    let same_calls = entered_calls-enter z log from to idle_log in
    record {
      legal = IsLegal-push z log (Enter from to) stands.legal (state_on, site);
      tos = stands.tos ∙ sym (entries_of-entered_calls z after log same_calls);
      counters = stands.counters ∙ sym (buckets_of-same z log (Enter from to) (λ before. refl));
      froms = stands.froms ∙ sym (fronts_of-entered_calls z after log same_calls);
      state = sym (state_of-busy z after (is_busy-enter log from to));
      sampling = stands.sampling ∙ sym (is_on-same log (Enter from to) refl);
      calls = stands.calls ∙ ap length (sym (kept_calls-entered_calls z after log same_calls));
      arcs = stands.arcs ∙ sym (arcs_of-entered_calls z after log same_calls);
      walk = ap (λ (s : ℕ). Some (record { slot = s; to = to })) slot_is ∙ sym (pending_call-enter z log from to);
      place = (omega arith, omega (arith, looks_of-chain z after slot to, (looks_bounds (kept_calls z after) slot to).0));
    }

pub held_entered : (a : Inside) (from to slot at : ℕ) → IsHeld a → a.state ≡ On → slot ≡ slot_of a.sizes from → IsSite a.sizes from → slice_get a.block.froms slot ≡ Some at → a.calls < 4294967295 → IsHeld (entered_as a slot to at)
held_entered a from to slot at held on slot_is site read room =
    let cursor : Cursor = record { slot = slot; to = to; place = 1; at = at; before = 0 } in
    let is_at : IsAt a.block cursor = record {
      slot = slice_get_within a.block.froms slot at read;
      looked = 0;
      place = refl;
      at = sym (get_or_from_slice_get a.block.froms slot at 0 read);
      before = refl;
    } in
    held_with a Busy a.sampling cursor (more held.log (Enter from to)) held (stands_entered a held.log from to slot at on slot_is site held.stands) (λ error. let e : On ≡ Error = sym on ∙ error in cc) (λ _. is_at) (λ _. room)

-- the offset as the code has it
pub offset_is : (z : Sizes) (from : ℕ) → AreSizes z → (from + (4294967296 - z.low)) % 4294967296 ≡ offset_of z from
offset_is z from are = grind arith

-- and the slot
pub slot_is : (z : Sizes) (from : ℕ) (w : Width) → AreSizes z → IsWidth z.hash w → (from + (4294967296 - z.low)) % 4294967296 / 2 ^ w.bits ≡ slot_of z from
slot_is z from w are is = search (offset_is, part_is)
