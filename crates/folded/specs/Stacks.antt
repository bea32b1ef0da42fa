-- Stacks of functions, and how many samples have each.
use Rattle.std.specs.Prelude.{ℕ, ◌+◌, ◌-◌, ◌%◌, ◌^◌, ◌==◌, ◌<◌, All, IfSome, Bool, false, List, [], ◌∷◌, ◌++◌, map, fold, count_by, unwrap_or, Option, Some, None, option_map}
use Rattle.std.specs.List.{filter_map, list_any}
use Rattle.std.specs.Ordering.{nat_cmp, is_eq}
use Rattle.std.specs.Option.{option_cmp}
use Rattle.std.specs.Cmp.Lexicographic.{slice_cmp}
use Rattle.std.specs.declared.cmp.Ordering.{Ordering}
use Rattle.std.specs.BTreeMap.{insert_entry}
use Rattle.std.specs.Map.{lookup}
use Rattle.elf32_syms.specs.declared.image.Symbol.{Symbol}
use Rattle.elf32_syms.specs.Owners.{owner_of}
use Rattle.folded.specs.Trail.{StackSample}

-- the call that is to return to an address stands 4 bytes before it
abbrev pub site_before : ℕ → ℕ
site_before to = (to + (2 ^ 32 - 4)) % 2 ^ 32

-- the functions by their numbers, the oldest call first; none where no function has the call
abbrev pub caller_in : List Symbol → ℕ → Option ℕ
caller_in symbols to = owner_of symbols (site_before to)

abbrev pub stack_at : List Symbol → List ℕ → ℕ → List (Option ℕ)
stack_at symbols frames f = map (caller_in symbols) frames ++ Some f ∷ []

-- of a sample that lies in a function
abbrev pub stack_of : List Symbol → StackSample → Option (List (Option ℕ))
stack_of symbols s = option_map (stack_at symbols s.frames) (owner_of symbols s.pc)

abbrev pub stacks_of : List Symbol → List StackSample → List (List (Option ℕ))
stacks_of symbols samples = filter_map (stack_of symbols) samples

-- ---- how many samples have a stack, for each that one has

-- stacks in order, function by function: none before 0, and a prefix first
abbrev pub stack_cmp : List (Option ℕ) → List (Option ℕ) → Ordering
stack_cmp a b = slice_cmp (option_cmp nat_cmp) a b

abbrev pub same_stack : List (Option ℕ) → List (Option ℕ) → Bool
same_stack a b = is_eq (stack_cmp a b)

-- the number in the line of a stack, and 0 where it has none
abbrev pub times_in : List (List (Option ℕ) × ℕ) → List (Option ℕ) → ℕ
times_in lines stack = unwrap_or (lookup (same_stack stack) lines) 0

-- one more
unfoldable pub with_stack : List (List (Option ℕ) × ℕ) → List (Option ℕ) → List (List (Option ℕ) × ℕ)
with_stack lines stack = insert_entry stack_cmp lines stack (times_in lines stack + 1)

abbrev pub lines_of : List (List (Option ℕ)) → List (List (Option ℕ) × ℕ)
lines_of stacks = fold with_stack [] stacks

-- ---- how many have a function

abbrev pub is_function : ℕ → Option ℕ → Bool
is_function f None = false
is_function f (Some g) = g == f

abbrev pub has_function : ℕ → List (Option ℕ) → Bool
has_function f stack = list_any (is_function f) stack

abbrev pub inclusive_of : List (List (Option ℕ)) → ℕ → ℕ
inclusive_of stacks f = count_by (has_function f) stacks

-- the functions of a stack, each below a number
abbrev pub AreBelow : ℕ → List (Option ℕ) → Type 0
AreBelow functions stack = All (λ (o : Option ℕ). IfSome o (λ f. f < functions)) stack
