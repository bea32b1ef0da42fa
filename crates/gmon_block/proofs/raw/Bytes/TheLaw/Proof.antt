-- A `&` to the bytes is made of a borrow of them.
use base.Fraction.{full_share}
use denote.Array.{Array, Array-row_laws}
use denote.Builtin.{u8}
use denote.Param.Shared.{copy_shared}
use denote.Shares.{Shares-Array}
use denote.Struct.Field.{RawPtr-field, usize-field}
use denote.Struct.Laws.{RawPtr-copy, usize-copy, u8-copy}
use denote.Struct.Lending.{lent_at_shr_laws, Lends-lies, of_Lends}
use Rattle.gmon_block.specs.contracts.raw.Bytes as C
use Rattle.gmon_block.proofs.raw.Bytes.TheLaw.Statement.{statement}

pub shares : statement
shares =
    of_Lends C.struct C.the_codes C.the_heap C.the_lent
    (λ d p. lent_at_shr_laws (Array u8 d.len) (Array-row_laws u8 u8-copy.shr_laws d.len) d.start d.items)
    (copy_shared RawPtr-field RawPtr-copy, (copy_shared usize-field usize-copy, tt))
    (λ M 𝓤 𝓛 d p. Lends-lies 𝓛 (Array u8 d.len) (C.the_row).lives d.start d.items (Shares-Array 𝓛 u8 tt d.len (C.the_row).lives ((u8-copy.copied M 𝓤 𝓛).shares full_share (C.the_row).lives) d.items))
