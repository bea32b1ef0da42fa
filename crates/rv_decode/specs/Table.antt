-- The instructions of RV32I, M and Zifencei: the table of the RISC-V unprivileged manual, "RV32/64G
-- Instruction Set Listings".
use Rattle.std.specs.Prelude.{◌≡◌, ℕ, ◌/◌, ◌%◌, ◌^◌, List, [], ◌∷◌, ℤ, pos, ◌==◌, bit_and, codes, map, Option}
use Rattle.std.specs.Option.{option_map}
use Rattle.std.specs.List.{find}
use Rattle.std.proofs.Common.{lit<}
use Rattle.std.proofs.lemmas.Nat.{mod_below}
use Rattle.rv_decode.specs.Fields.{field, imm_i, imm_s, imm_b, imm_u, imm_j}
use Rattle.rv_decode.specs.declared.instruction.Op.{Op}
use Rattle.rv_decode.specs.declared.instruction.Op.TheVariants.{Lui, Auipc, Jal, Jalr, Beq, Bne, Blt, Bge, Bltu, Bgeu, Lb, Lh, Lw, Lbu, Lhu, Sb, Sh, Sw, Addi, Slti, Sltiu, Xori, Ori, Andi, Slli, Srli, Srai, Add, Sub, Sll, Slt, Sltu, Xor, Srl, Sra, Or, And, Fence, FenceI, Ecall, Ebreak, Mul, Mulh, Mulhsu, Mulhu, Div, Divu, Rem, Remu}
use Rattle.rv_decode.specs.declared.instruction.Instr.{Instr}
use Rattle.rv_decode.specs.declared.forms.Form.{Form}
use Rattle.rv_decode.specs.declared.forms.Form.TheVariants.{Upper, Jump, Branch, Offset, Store, Immediate, Shift, Register, Plain}

-- a line of the table: how the operands of an operation lie in its word, and how they are spelled; its name; and that
-- its words are those whose bits under the mask are these
pub record Row : Type 0 where
  pub op : Op
  pub form : Form
  pub name : List ℕ
  pub mask : ℕ
  pub bits : ℕ

abbrev pub row : Op → Form → List ℕ → ℕ → ℕ → Row
row op form name mask bits = record { op = op; form = form; name = name; mask = mask; bits = bits }

-- the line of an operation
abbrev pub op_row : Op → Row
op_row Lui = row Lui Upper (codes "lui") 0x0000007F 0x00000037
op_row Auipc = row Auipc Upper (codes "auipc") 0x0000007F 0x00000017
op_row Jal = row Jal Jump (codes "jal") 0x0000007F 0x0000006F
op_row Jalr = row Jalr Offset (codes "jalr") 0x0000707F 0x00000067
op_row Beq = row Beq Branch (codes "beq") 0x0000707F 0x00000063
op_row Bne = row Bne Branch (codes "bne") 0x0000707F 0x00001063
op_row Blt = row Blt Branch (codes "blt") 0x0000707F 0x00004063
op_row Bge = row Bge Branch (codes "bge") 0x0000707F 0x00005063
op_row Bltu = row Bltu Branch (codes "bltu") 0x0000707F 0x00006063
op_row Bgeu = row Bgeu Branch (codes "bgeu") 0x0000707F 0x00007063
op_row Lb = row Lb Offset (codes "lb") 0x0000707F 0x00000003
op_row Lh = row Lh Offset (codes "lh") 0x0000707F 0x00001003
op_row Lw = row Lw Offset (codes "lw") 0x0000707F 0x00002003
op_row Lbu = row Lbu Offset (codes "lbu") 0x0000707F 0x00004003
op_row Lhu = row Lhu Offset (codes "lhu") 0x0000707F 0x00005003
op_row Sb = row Sb Store (codes "sb") 0x0000707F 0x00000023
op_row Sh = row Sh Store (codes "sh") 0x0000707F 0x00001023
op_row Sw = row Sw Store (codes "sw") 0x0000707F 0x00002023
op_row Addi = row Addi Immediate (codes "addi") 0x0000707F 0x00000013
op_row Slti = row Slti Immediate (codes "slti") 0x0000707F 0x00002013
op_row Sltiu = row Sltiu Immediate (codes "sltiu") 0x0000707F 0x00003013
op_row Xori = row Xori Immediate (codes "xori") 0x0000707F 0x00004013
op_row Ori = row Ori Immediate (codes "ori") 0x0000707F 0x00006013
op_row Andi = row Andi Immediate (codes "andi") 0x0000707F 0x00007013
op_row Slli = row Slli Shift (codes "slli") 0xFE00707F 0x00001013
op_row Srli = row Srli Shift (codes "srli") 0xFE00707F 0x00005013
op_row Srai = row Srai Shift (codes "srai") 0xFE00707F 0x40005013
op_row Add = row Add Register (codes "add") 0xFE00707F 0x00000033
op_row Sub = row Sub Register (codes "sub") 0xFE00707F 0x40000033
op_row Sll = row Sll Register (codes "sll") 0xFE00707F 0x00001033
op_row Slt = row Slt Register (codes "slt") 0xFE00707F 0x00002033
op_row Sltu = row Sltu Register (codes "sltu") 0xFE00707F 0x00003033
op_row Xor = row Xor Register (codes "xor") 0xFE00707F 0x00004033
op_row Srl = row Srl Register (codes "srl") 0xFE00707F 0x00005033
op_row Sra = row Sra Register (codes "sra") 0xFE00707F 0x40005033
op_row Or = row Or Register (codes "or") 0xFE00707F 0x00006033
op_row And = row And Register (codes "and") 0xFE00707F 0x00007033
op_row Fence = row Fence Plain (codes "fence") 0x0000707F 0x0000000F
op_row FenceI = row FenceI Plain (codes "fence.i") 0x0000707F 0x0000100F
op_row Ecall = row Ecall Plain (codes "ecall") 0xFFFFFFFF 0x00000073
op_row Ebreak = row Ebreak Plain (codes "ebreak") 0xFFFFFFFF 0x00100073
op_row Mul = row Mul Register (codes "mul") 0xFE00707F 0x02000033
op_row Mulh = row Mulh Register (codes "mulh") 0xFE00707F 0x02001033
op_row Mulhsu = row Mulhsu Register (codes "mulhsu") 0xFE00707F 0x02002033
op_row Mulhu = row Mulhu Register (codes "mulhu") 0xFE00707F 0x02003033
op_row Div = row Div Register (codes "div") 0xFE00707F 0x02004033
op_row Divu = row Divu Register (codes "divu") 0xFE00707F 0x02005033
op_row Rem = row Rem Register (codes "rem") 0xFE00707F 0x02006033
op_row Remu = row Remu Register (codes "remu") 0xFE00707F 0x02007033

unfoldable pub table : List Row
table =
    map op_row (Lui ∷ Auipc ∷ Jal ∷ Jalr ∷ Beq ∷ Bne ∷ Blt ∷ Bge ∷ Bltu ∷ Bgeu ∷ Lb ∷ Lh ∷ Lw ∷
    Lbu ∷ Lhu ∷ Sb ∷ Sh ∷ Sw ∷ Addi ∷ Slti ∷ Sltiu ∷ Xori ∷ Ori ∷ Andi ∷ Slli ∷ Srli ∷ Srai ∷ Add ∷
    Sub ∷ Sll ∷ Slt ∷ Sltu ∷ Xor ∷ Srl ∷ Sra ∷ Or ∷ And ∷ Fence ∷ FenceI ∷ Ecall ∷ Ebreak ∷ Mul ∷
    Mulh ∷ Mulhsu ∷ Mulhu ∷ Div ∷ Divu ∷ Rem ∷ Remu ∷ [])

abbrev pub operand_form : Op → Form
operand_form op = (op_row op).form

-- the name of an operation
abbrev pub mnemonic_of : Op → List ℕ
mnemonic_of op = (op_row op).name

abbrev pub Matches : ℕ → Row → Type 0
Matches w r = bit_and w r.mask ≡ r.bits

-- the row that a word matches
unfoldable pub row_of : ℕ → Option Row
row_of w = find (λ r. bit_and w r.mask == r.bits) table

-- an instruction, each register number being the low five bits of what is given for it
abbrev pub instr : Op → ℕ → ℕ → ℕ → ℤ → Instr
instr op d a b imm = record {
  op = op;
  rd = d % 32;
  rs1 = a % 32;
  rs2 = b % 32;
  imm = imm;
  rd_in_range = mod_below d 32 (lit< tt);
  rs1_in_range = mod_below a 32 (lit< tt);
  rs2_in_range = mod_below b 32 (lit< tt);
}

-- the instruction of an operation in a word: rd is at bit 7, rs1 at 15, rs2 and the amount of a
-- shift at 20, and what the form does not have is 0
abbrev pub instr_in : Form → Op → ℕ → Instr
instr_in Upper op w = instr op (w / 2 ^ 7) 0 0 (imm_u w)
instr_in Jump op w = instr op (w / 2 ^ 7) 0 0 (imm_j w)
instr_in Branch op w = instr op 0 (w / 2 ^ 15) (w / 2 ^ 20) (imm_b w)
instr_in Offset op w = instr op (w / 2 ^ 7) (w / 2 ^ 15) 0 (imm_i w)
instr_in Immediate op w = instr op (w / 2 ^ 7) (w / 2 ^ 15) 0 (imm_i w)
instr_in Shift op w = instr op (w / 2 ^ 7) (w / 2 ^ 15) 0 (pos (field w 20 5))
instr_in Store op w = instr op 0 (w / 2 ^ 15) (w / 2 ^ 20) (imm_s w)
instr_in Register op w = instr op (w / 2 ^ 7) (w / 2 ^ 15) (w / 2 ^ 20) (pos 0)
instr_in Plain op w = instr op 0 0 0 (pos 0)

-- the instruction of a word
unfoldable pub instr_of : ℕ → Option Instr
instr_of w = option_map (λ r. instr_in (operand_form r.op) r.op w) (row_of w)
