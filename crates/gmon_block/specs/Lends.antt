-- What `Bytes` holds after a write through the slice that it lent.
-- Only private functions and invariants speak of it.
use Rattle.std.specs.Prelude.{ℕ, List}
use Rattle.std.specs.List.{refill, length_refill}
use Rattle.std.specs.Borrow.{Lends, MutBor, Fml, Array, u8}
use Rattle.gmon_block.specs.declared.raw.Bytes.{Bytes}
use Rattle.gmon_block.specs.contracts.raw.Bytes.{the_row}

-- b with the bytes ws, cut or filled up so that the length stays
abbrev pub with_items : Bytes → List ℕ → Bytes
with_items b ws = record { start = b.start; len = b.len; items = refill b.len b.items ws; ok = (length_refill b.len b.items ws b.ok.0, b.ok.1) }

abbrev pub lends_items : MutBor Bytes → MutBor (List ℕ) → Fml
lends_items s r = Lends the_row (Array u8 0) s r (with_items s.now)
