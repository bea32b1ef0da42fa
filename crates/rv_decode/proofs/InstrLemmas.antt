-- What `==` says of operations and of instructions.
use Rattle.std.proofs.Common.{rules, ◌≡◌, ℕ, ℤ, ◌<◌, ◌∙◌, ◌&&◌, eqb, ap, subst}
use Rattle.std.specs.Bool.{Decides}
use Rattle.std.specs.Ordering.{int_eq}
use Rattle.std.proofs.Math.Bridge.{le_prop}
use Rattle.std.proofs.lemmas.Bool.Decides.{Decides-and, Decides-eqb, Decides-int_eq}
use denote.Enum.Bare.{sameb}
use Rattle.rv_decode.specs.contracts.instruction.Op.{the_type}
use Rattle.rv_decode.specs.declared.instruction.Instr.{Instr}
use Rattle.rv_decode.specs.declared.instruction.Op.{Op}

-- an instruction by its fields, and that they are in their ranges
abbrev built : (op : Op) (rd rs1 rs2 : ℕ) (imm : ℤ) → rd < 32 → rs1 < 32 → rs2 < 32 → Instr
built op rd rs1 rs2 imm p q r = record { op = op; rd = rd; rs1 = rs1; rs2 = rs2; imm = imm; rd_in_range = p; rs1_in_range = q; rs2_in_range = r }

-- what is made of a number below 32 is the same, however that was shown
bounded : {T : Type 0} (f : (n : ℕ) → n < 32 → T) (n m : ℕ) → n ≡ m → (p : n < 32) (q : m < 32) → f n p ≡ f m q
bounded f n m same p q = subst (λ (k : ℕ). (q : k < 32) → f n p ≡ f k q) same (λ (q : n < 32). ap (f n) (le_prop p q)) q

same_fields : (a b : Instr) → a.op ≡ b.op → a.rd ≡ b.rd → a.rs1 ≡ b.rs1 → a.rs2 ≡ b.rs2 → a.imm ≡ b.imm → a ≡ b
same_fields a b op rd rs1 rs2 imm =
    ap (λ (o : Op). built o a.rd a.rs1 a.rs2 a.imm a.rd_in_range a.rs1_in_range a.rs2_in_range) op
    ∙ bounded (λ n p. built b.op n a.rs1 a.rs2 a.imm p a.rs1_in_range a.rs2_in_range) a.rd b.rd rd a.rd_in_range b.rd_in_range
    ∙ bounded (λ n p. built b.op b.rd n a.rs2 a.imm b.rd_in_range p a.rs2_in_range) a.rs1 b.rs1 rs1 a.rs1_in_range b.rs1_in_range
    ∙ bounded (λ n p. built b.op b.rd b.rs1 n a.imm b.rd_in_range b.rs1_in_range p) a.rs2 b.rs2 rs2 a.rs2_in_range b.rs2_in_range
    ∙ ap (λ (i : ℤ). built b.op b.rd b.rs1 b.rs2 i b.rd_in_range b.rs1_in_range b.rs2_in_range) imm

op_decides : (x y : Op) → Decides (sameb the_type x y) (x ≡ y)
op_decides x y = search rules

-- two instructions are the same where their fields are
pub instr_decides : (a b : Instr) → Decides (sameb the_type a.op b.op && (eqb a.rd b.rd && (eqb a.rs1 b.rs1 && (eqb a.rs2 b.rs2 && int_eq a.imm b.imm)))) (a ≡ b)
instr_decides a b =
    let numbers = Decides-and _ _ (Decides-eqb a.rd b.rd) (Decides-and _ _ (Decides-eqb a.rs1 b.rs1) (Decides-and _ _ (Decides-eqb a.rs2 b.rs2) (Decides-int_eq a.imm b.imm))) in
    let fields = Decides-and _ _ (op_decides a.op b.op) numbers in (
      λ yes. let p = fields.0 yes in same_fields a b p.0 p.1.0 p.1.1.0 p.1.1.1.0 p.1.1.1.1,
      λ same. fields.1 (ap (λ (i : Instr). i.op) same, (ap (λ (i : Instr). i.rd) same, (ap (λ (i : Instr). i.rs1) same, (ap (λ (i : Instr). i.rs2) same, ap (λ (i : Instr). i.imm) same)))),
    )
