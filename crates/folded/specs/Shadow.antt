-- The shadow of a hart's stack: where its calls are to return to. What a call and a return are, and how many of
-- them are kept, are this project's own.
use Rattle.std.specs.Prelude.{ℕ, ◌+◌, ◌-◌, ◌==◌, nat_lt, Bool, false, true, not, ◌&&◌, List, [], ◌∷◌, ◌++◌, length, Option, Some, None, if◌then◌else◌}
use Rattle.std.specs.List.{list_any}
use Rattle.rv_decode.specs.declared.instruction.Op.{Op}
use Rattle.rv_decode.specs.declared.instruction.Op.TheVariants.{Jal, Jalr}
use Rattle.rv_decode.specs.declared.instruction.Instr.{Instr}
use Rattle.rv_step.specs.Step.{next_of}
use Rattle.prof_machine.specs.declared.notes.Ran.{Ran}

pub record Shadow : Type 0 where
  -- the return addresses of the calls that haven't returned, the oldest first
  pub frames : List ℕ
  -- how many calls found 128 of them
  pub over : ℕ

abbrev pub empty_shadow : Shadow
empty_shadow = record { frames = []; over = 0 }

-- a call that is to return to this address
unfoldable pub with_call : ℕ → Shadow → Shadow
with_call to s = if nat_lt (length s.frames) 128 then record s { frames = s.frames ++ to ∷ [] } else record s { over = s.over + 1 }

abbrev pub is_in_frames : ℕ → List ℕ → Bool
is_in_frames to frames = list_any (λ frame. frame == to) frames

-- the frames before the last one that is this address, which it and all later ones are taken off; all of them where
-- there is none
abbrev pub frames_before : ℕ → List ℕ → List ℕ
frames_before to [] = []
frames_before to (frame ∷ later) = if (frame == to) && not (is_in_frames to later) then [] else frame ∷ frames_before to later

-- a return to this address
unfoldable pub with_return : ℕ → Shadow → Shadow
with_return to s = if nat_lt 0 s.over then record s { over = s.over - 1 } else record s { frames = frames_before to s.frames }

-- ---- by what a turn did

-- a call is a jump that keeps its return address in ra (x1) ..
abbrev pub is_link : Op → Bool
is_link Jal = true
is_link Jalr = true
is_link op = false

abbrev pub is_call : Instr → Bool
is_call i = is_link i.op && (i.rd == 1)

-- .. and a return a jump to ra that keeps none
abbrev pub is_register_jump : Op → Bool
is_register_jump Jalr = true
is_register_jump op = false

abbrev pub is_return : Instr → Bool
is_return i = is_register_jump i.op && (i.rd == 0) && (i.rs1 == 1)

-- an instruction that is neither, or none
abbrev pub keeps_shadow : Option Ran → Bool
keeps_shadow None = true
keeps_shadow (Some r) = not (is_call r.instr) && not (is_return r.instr)

unfoldable pub after_instruction : Ran → Shadow → Shadow
after_instruction r s = if is_call r.instr then with_call (next_of r.pc) s else (if is_return r.instr then with_return r.next s else s)

abbrev pub after_ran : Option Ran → Shadow → Shadow
after_ran None s = s
after_ran (Some r) s = after_instruction r s

-- a hook was left
abbrev pub after_hook : Option ℕ → Shadow → Shadow
after_hook None s = s
after_hook (Some to) s = with_return to s
