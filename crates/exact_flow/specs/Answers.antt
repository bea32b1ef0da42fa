-- What a refusal says.
use Rattle.std.specs.Prelude.{◌≡◌, ℕ, List, Some, ⊤}
use Rattle.call_cycles.specs.Graph.{GraphValue}
use Rattle.exact_flow.specs.Wide.{first_wide}
use Rattle.exact_flow.specs.declared.refusal.ExactRefusal.{ExactRefusal}
use Rattle.exact_flow.specs.declared.refusal.ExactRefusal.TheVariants.{TooWide, OutOfMemory}

-- the first step that does not fit, and never want of memory
abbrev pub IsTooWide : GraphValue → List ℕ → ExactRefusal → Type 0
IsTooWide g shares (TooWide head arc) = first_wide g shares ≡ Some (record { head = head; arc = arc })
IsTooWide g shares OutOfMemory = ⊥

-- want of memory may come at any time; another refusal is the first step that does not fit
abbrev pub IsWideAnswer : GraphValue → List ℕ → ExactRefusal → Type 0
IsWideAnswer g shares (TooWide head arc) = first_wide g shares ≡ Some (record { head = head; arc = arc })
IsWideAnswer g shares OutOfMemory = ⊤
