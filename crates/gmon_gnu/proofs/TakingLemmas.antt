-- Why a reader that took some of a piece can take the rest of it.
use Rattle.std.proofs.Common.{◌≡◌, ℕ, ◌+◌, ◌*◌, ◌<◌, ◌≤◌, List, [], ◌∷◌, ◌++◌, length, arith}
use Rattle.std.specs.List.{AllByRecursion}
use Rattle.gmon_gnu.specs.declared.state.Begun.{Begun}
use Rattle.gmon_gnu.specs.declared.state.Body.{Body}
use Rattle.gmon_gnu.specs.declared.state.Entry.{Entry}
use Rattle.gmon_gnu.specs.declared.state.Part.{Part}
use Rattle.gmon_gnu.specs.declared.state.Part.TheVariants as part
use Rattle.gmon_gnu.specs.declared.state.State.{State}
use Rattle.gmon_gnu.specs.Begun.{arcs_of, cost_of, fields_of}
use Rattle.gmon_gnu.specs.Held.{AreFew, AreWithin, HasRoom, IsBodyWithin, IsHeld, IsPart, IsWithin, pending_entries, pending_fields}
use Rattle.gmon_gnu.specs.Taking.{Begins, CanTake, EndsOrGoesOn, KeepsItems}

-- what was held in part is taken, and another part begins
pub can_take_on : (total : ℕ) (piece rest torn : List ℕ) (s : State) (p : Part) → CanTake total piece s → length rest ≤ length piece → torn ≡ []
    → IsPart p (length s.counters.cells.items) (length s.pairs.cells.items) [] s.counters.torn s.pairs.torn → pending_entries p ≡ 0 → pending_fields p ≡ 0 → CanTake total rest (record s { part = p; torn = torn })
can_take_on total piece rest torn s p can less none at nothing no_fields = grind arith

-- a record was begun: its front had the bytes that its arc or its entry takes of the room, and of the file
pub can_begin : (total : ℕ) (piece rest torn : List ℕ) (b : Begun) (s t : State) → CanTake total piece s → IsHeld t → s.part ≡ part.Between → Begins b (record s { torn = torn }) t → length rest ≤ length piece
    → 13 * arcs_of b + length rest ≤ length s.torn + length piece → 33 * fields_of b + length rest ≤ length s.torn + length piece → 5 * cost_of b + length rest ≤ length s.torn + length piece → CanTake total rest t
can_begin total piece rest torn b s t can held part_is begins less arcs fields entries = grind arith

-- fewer bytes need no more room
pub room_less : (m n : ℕ) (s : State) → n < m → HasRoom m s → HasRoom n s
room_less m n s less room = grind arith

pub few_less : (total m n : ℕ) (s : State) → n < m → AreFew total m s → AreFew total n s
few_less total m n s less few = grind arith

-- a record ends or goes on: it had its place before
pub can_go_on : (total places : ℕ) (rest : List ℕ) (s t : State) → IsHeld t → HasRoom (length rest) s → AreFew total (length rest) s → pending_entries s.part ≡ 1 → pending_fields s.part ≡ places → EndsOrGoesOn places s t → CanTake total rest t
can_go_on total places rest s t held room few pending fields g = grind arith

-- ---- an entry more

-- fields of more histograms
more_fields : (f g c p a : ℕ) → f ≤ g → (es : List Entry) → AllByRecursion (IsWithin f c p a) es → AllByRecursion (IsWithin g c p a) es
more_fields f g c p a le [] all = tt
more_fields f g c p a le (e ∷ es) all = ((all.0.0, all.0.1, by e.body all.0.2), more_fields f g c p a le es all.1)
  where
    by : (b : Body) → IsBodyWithin f c p b → IsBodyWithin g c p b
    by b w = grind arith

all_and_one : (P : Entry → Type 0) (es : List Entry) (e : Entry) → AllByRecursion P es → P e → AllByRecursion P (es ++ e ∷ [])
all_and_one P [] e all one = (one, tt)
all_and_one P (x ∷ es) e all one = (all.0, all_and_one P es e all.1 one)

-- all entries lie within what there is where the new one does
pub added_within : (s t : State) (e : Entry) → KeepsItems s t → length s.fields.items ≤ length t.fields.items → t.entries.items ≡ s.entries.items ++ e ∷ [] → AreWithin s
    → IsWithin (length t.fields.items) (length s.counters.cells.items) (length s.pairs.cells.items) (length s.arcs.items) e → AreWithin t
added_within s t e k more entries within one = grind (arith, all_and_one, more_fields)
