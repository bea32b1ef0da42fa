-- How instructions are spelled.
use Rattle.std.specs.Prelude.{ℕ, ◌/◌, ◌^◌, ℤ, List, [], ◌∷◌, ◌++◌, codes}
use Rattle.std.specs.Fmt.{decimal, signed_decimal}
use Rattle.std.specs.Int.{cast_unsigned, w32}
use Rattle.text_cols.specs.Columns.{hex_of, hex8_of}
use Rattle.rv_decode.specs.Fields.{jump_target}
use Rattle.rv_decode.specs.Table.{mnemonic_of, operand_form}
use Rattle.rv_decode.specs.declared.instruction.Instr.{Instr}
use Rattle.rv_decode.specs.declared.forms.Form.{Form}
use Rattle.rv_decode.specs.declared.forms.Form.TheVariants.{Upper, Jump, Branch, Offset, Store, Immediate, Shift, Register, Plain}

-- a register, as x5
abbrev pub register_text : ℕ → List ℕ
register_text r = codes "x" ++ decimal r

-- an offset from a register, as 12(x2)
abbrev pub offset_text : ℤ → ℕ → List ℕ
offset_text imm r = signed_decimal imm ++ codes "(" ++ register_text r ++ codes ")"

-- bits 31..12 of the immediate, in five digits
unfoldable pub upper_text : ℤ → List ℕ
upper_text imm = codes "0x" ++ hex_of 5 (cast_unsigned w32 imm / 2 ^ 12)

abbrev pub target_text : ℕ → ℤ → List ℕ
target_text pc imm = codes "0x" ++ hex8_of (jump_target pc imm)

-- the operands, in the order in which they are spelled
abbrev pub operands_of : Form → Instr → ℕ → List (List ℕ)
operands_of Upper i pc = register_text i.rd ∷ upper_text i.imm ∷ []
operands_of Jump i pc = register_text i.rd ∷ target_text pc i.imm ∷ []
operands_of Branch i pc = register_text i.rs1 ∷ register_text i.rs2 ∷ target_text pc i.imm ∷ []
operands_of Offset i pc = register_text i.rd ∷ offset_text i.imm i.rs1 ∷ []
operands_of Store i pc = register_text i.rs2 ∷ offset_text i.imm i.rs1 ∷ []
operands_of Immediate i pc = register_text i.rd ∷ register_text i.rs1 ∷ signed_decimal i.imm ∷ []
operands_of Shift i pc = register_text i.rd ∷ register_text i.rs1 ∷ signed_decimal i.imm ∷ []
operands_of Register i pc = register_text i.rd ∷ register_text i.rs1 ∷ register_text i.rs2 ∷ []
operands_of Plain i pc = []

-- operands after a first mark, with a comma and a space between them
abbrev pub listed_after : List ℕ → List (List ℕ) → List ℕ
listed_after mark [] = []
listed_after mark (t ∷ ts) = mark ++ t ++ listed_after (codes ", ") ts

-- the spelling of an instruction at pc: its name and, after a space, its operands
unfoldable pub spelling_of : Instr → ℕ → List ℕ
spelling_of i pc = mnemonic_of i.op ++ listed_after (codes " ") (operands_of (operand_form i.op) i pc)
