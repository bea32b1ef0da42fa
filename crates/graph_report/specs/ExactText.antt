-- The text of an exact flow: a line for each component in order, each followed by a line for each outside arc that leaves
-- it, in arc order. Fractions have both their numbers, in lowest terms.
use Rattle.std.specs.Prelude.{ℕ, ◌++◌, List, codes, filter, slice_index, slice_get}
use Rattle.std.specs.List.{flat_map}
use Rattle.std.specs.Option.{option_map_or}
use Rattle.text_cols.specs.Columns.{decimal, hex8_of}
use Rattle.elf32_syms.specs.declared.image.Symbol.{Symbol}
use Rattle.call_cycles.specs.Sums.{numbers_below}
use Rattle.call_cycles.specs.Graph.{GraphValue, arc_at, arc_count, component_count, head_of, leaves}
use Rattle.fraction128.specs.Fractions.{Fraction}
use Rattle.exact_flow.specs.Times.{ExactFlowValue, time_at}

abbrev pub frac_text : Fraction → List ℕ
frac_text f = decimal f.num ++ codes "/" ++ decimal f.den

unfoldable pub component_line : ℕ → ℕ → Fraction → List ℕ
component_line address self child = codes "component " ++ hex8_of address ++ codes " self " ++ decimal self ++ codes " child " ++ frac_text child ++ codes "\n"

unfoldable pub exact_arc_line : ℕ → ℕ → Fraction → Fraction → List ℕ
exact_arc_line caller callee self child = codes "arc " ++ hex8_of caller ++ codes " " ++ hex8_of callee ++ codes " self " ++ frac_text self ++ codes " child " ++ frac_text child ++ codes "\n"

unfoldable pub total_line : ℕ → List ℕ
total_line attributed = codes "attributed " ++ decimal attributed ++ codes "\n"

-- the addresses of functions by their numbers
abbrev pub symbol_address : List Symbol → ℕ → ℕ
symbol_address symbols f = option_map_or (λ (symbol : Symbol). symbol.addr) (slice_get symbols f) 0

-- the line of an outside arc
abbrev pub arc_text : List Symbol → GraphValue → ExactFlowValue → ℕ → List ℕ
arc_text symbols g e i = exact_arc_line (symbol_address symbols (arc_at g i).caller) (symbol_address symbols (arc_at g i).callee) (time_at e.arc_self i) (time_at e.arc_child i)

-- the lines of the outside arcs that leave a component
abbrev pub arcs_text : List Symbol → GraphValue → ExactFlowValue → ℕ → List ℕ
arcs_text symbols g e c = flat_map (arc_text symbols g e) (filter (leaves g c) (numbers_below (arc_count g)))

abbrev pub head_text : List Symbol → GraphValue → ExactFlowValue → ℕ → List ℕ
head_text symbols g e c = component_line (symbol_address symbols (head_of g c)) (slice_index e.self c) (time_at e.child c)

abbrev pub component_text : List Symbol → GraphValue → ExactFlowValue → ℕ → List ℕ
component_text symbols g e c = head_text symbols g e c ++ arcs_text symbols g e c

abbrev pub components_text : List Symbol → GraphValue → ExactFlowValue → List ℕ
components_text symbols g e = flat_map (component_text symbols g e) (numbers_below (component_count g))

unfoldable pub exact_text : List Symbol → GraphValue → ExactFlowValue → ℕ → List ℕ
exact_text symbols g e attributed = (codes "exact flow\n" ++ components_text symbols g e) ++ total_line attributed
