-- The annotated listing, as a list of bytes.
use Rattle.std.specs.Prelude.{ℕ, ◌-◌, ◌==◌, if◌then◌else◌, List, ◌++◌, codes, Option, Some, None}
use Rattle.std.specs.List.{flat_map}
use Rattle.text_cols.specs.Columns.{decimal, hex8_of, right_of}
use Rattle.gp_base.specs.declared.records.Span.{Span}
use Rattle.elf32_syms.specs.declared.image.Segment.{Segment}
use Rattle.elf32_syms.specs.declared.image.Symbol.{Symbol}
use Rattle.elf32_syms.specs.declared.image.Image.{Image}
use Rattle.rv_decode.specs.declared.instruction.Instr.{Instr}
use Rattle.rv_decode.specs.Spelling.{spelling_of}
use Rattle.rv_decode.specs.Table.{instr_of}
use Rattle.gmon_data.specs.Content.{Content, runs_at}
use Rattle.symbol_shares.specs.Ranges.{grains_of_range}
use Rattle.annotate.specs.Loaded.{loaded_word}
use Rattle.annotate.specs.Cells.{cells_of}

-- an instruction at pc, and what stands for a word that is none
abbrev pub instr_text : Option Instr → ℕ → List ℕ
instr_text (Some instr) pc = spelling_of instr pc
instr_text None pc = codes "illegal"

-- a word and its instruction, and what stands where there is no word
abbrev pub word_text : Option ℕ → ℕ → List ℕ
word_text (Some word) pc = hex8_of word ++ codes "  " ++ instr_text (instr_of word) pc
word_text None pc = codes "-"

-- the word of a cell: one of four bytes, where they are loaded
abbrev pub cell_word : List Segment → List ℕ → Span → Option ℕ
cell_word segments bytes cell = if cell.high - cell.low == 4 then loaded_word segments bytes cell.low else None

-- a cell: where it begins, how often that was executed, its grains, and its word
unfoldable pub cell_line : List Segment → List ℕ → Content → Span → List ℕ
cell_line segments bytes profile cell =
    hex8_of cell.low
    ++ right_of (decimal (runs_at cell.low profile.blocks)) 12
    ++ right_of (decimal (grains_of_range profile.hists cell.low cell.high)) 18
    ++ codes "  " ++ word_text (cell_word segments bytes cell) cell.low ++ codes "\n"

-- a symbol: its name, and its cells
unfoldable pub symbol_listing : List Segment → List ℕ → Content → Symbol → List ℕ
symbol_listing segments bytes profile symbol =
    symbol.name ++ codes ":\n" ++ flat_map (cell_line segments bytes profile) (cells_of symbol)

-- the listing of a program, its file and a profile
unfoldable pub annotated_text : Image → List ℕ → Content → List ℕ
annotated_text image bytes profile =
    codes "annotated listing\n" ++ flat_map (symbol_listing image.segments bytes profile) image.symbols
