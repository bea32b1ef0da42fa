-- The lines of `show` and `syms`.
use Rattle.std.specs.Prelude.{ℕ, ◌+◌, ◌-◌, ◌*◌, ◌/◌, ◌%◌, ◌==◌, if◌then◌else◌, List, [], ◌∷◌, ◌++◌, length, codes, Option, Some, None}
use Rattle.std.specs.List.{flat_map, enumerate_from}
use Rattle.text_cols.specs.Columns.{decimal, hex_digit_of, hex8_of}
use Rattle.elf32_syms.specs.declared.image.Symbol.{Symbol}
use Rattle.elf32_syms.specs.declared.image.Image.{Image}
use Rattle.gp_base.specs.declared.records.RawArc.{RawArc}
use Rattle.gp_base.specs.declared.records.RawBlock.{RawBlock}
use Rattle.gp_base.specs.declared.records.RawHist.{RawHist}
use Rattle.gp_base.specs.declared.records.Unit.{Unit}
use Rattle.gp_base.specs.declared.records.Form.{Form}
use Rattle.gp_base.specs.declared.records.Rec.{Rec}
use Rattle.gp_base.specs.declared.records.Rec.TheVariants.{Hist, Arc, Blocks}
use Rattle.gp_base.specs.declared.records.Records.{Records}
use Rattle.gp_base.specs.declared.records.Form.TheVariants.{Bsd, Gnu}
use Rattle.text_lines.specs.declared.line.HistHead.{HistHead}

-- a histogram without its counters: how many they are alone
abbrev pub hist_head : RawHist → HistHead
hist_head hist = record { low = hist.low; high = hist.high; «unit» = hist.«unit»; counters = length hist.counters }

-- the range of a histogram, its number of counters and its rate
abbrev pub hist_fields : HistHead → List ℕ
hist_fields head =
    codes "low " ++ hex8_of head.low ++ codes " high " ++ hex8_of head.high ++ codes " counters " ++ decimal head.counters ++ codes " rate " ++ decimal head.unit.rate

-- the two hexadecimal digits of a byte
abbrev pub byte_digits : ℕ → List ℕ
byte_digits byte = hex_digit_of (byte / 16) ∷ hex_digit_of (byte % 16) ∷ []

-- the digits of dimension and abbreviation, which are 16 bytes
unfoldable pub unit_text : Unit → List ℕ
unit_text «unit» = flat_map byte_digits («unit».dim ++ «unit».«abbrev» ∷ [])

-- what a histogram begins with
unfoldable pub hist_line : Form → HistHead → List ℕ
hist_line Bsd head = codes "bsd " ++ hist_fields head ++ codes "\n"
hist_line Gnu head = codes "hist " ++ hist_fields head ++ codes " unit " ++ unit_text head.unit ++ codes "\n"

-- where counter i of a histogram begins
abbrev pub counter_address : HistHead → ℕ → ℕ
counter_address head i = head.low + i * (head.high - head.low) / head.counters

unfoldable pub count_line : ℕ → ℕ → List ℕ
count_line address counter = codes "count " ++ hex8_of address ++ codes " " ++ decimal counter ++ codes "\n"

-- a counter that is 0 has no line
abbrev pub counter_text : HistHead → ℕ × ℕ → List ℕ
counter_text head numbered = if numbered.1 == 0 then [] else count_line (counter_address head numbered.0) numbered.1

unfoldable pub arc_line : RawArc → List ℕ
arc_line arc = codes "arc " ++ hex8_of arc.from ++ codes " " ++ hex8_of arc.to ++ codes " " ++ decimal arc.count ++ codes "\n"

unfoldable pub blocks_line : ℕ → List ℕ
blocks_line number = codes "blocks " ++ decimal number ++ codes "\n"

unfoldable pub block_line : RawBlock → List ℕ
block_line block = codes "block " ++ hex8_of block.addr ++ codes " " ++ decimal block.count ++ codes "\n"

-- the lines of a histogram, and of counts of basic blocks
abbrev pub hist_text : Form → RawHist → List ℕ
hist_text form hist = hist_line form (hist_head hist) ++ flat_map (counter_text (hist_head hist)) (enumerate_from 0 hist.counters)

abbrev pub blocks_text : List RawBlock → List ℕ
blocks_text blocks = blocks_line (length blocks) ++ flat_map block_line blocks

-- the lines of a record of a file of a form
unfoldable pub rec_text : Form → Rec → List ℕ
rec_text form (Hist hist) = hist_text form hist
rec_text form (Arc arc) = arc_line arc
rec_text form (Blocks blocks) = blocks_text blocks

-- the lines of a file of the GNU form begin with one that says so
abbrev pub form_line : Form → List ℕ
form_line Bsd = []
form_line Gnu = codes "gnu\n"

-- the lines of all records, in file order
unfoldable pub show_text : Records → List ℕ
show_text records = form_line records.form ++ flat_map (rec_text records.form) records.recs

-- ---- the lines of `syms`

-- where a hook is, if the program has it
abbrev pub hook_text : Option ℕ → List ℕ
hook_text None = codes "-"
hook_text (Some address) = hex8_of address

unfoldable pub image_line : Image → List ℕ
image_line image =
    codes "text " ++ hex8_of image.text.low ++ codes " " ++ hex8_of image.text.high ++ codes " entry " ++ hex8_of image.entry ++ codes " mcount " ++ hook_text image.mcount ++ codes " moncontrol " ++ hook_text image.moncontrol ++ codes "\n"

-- in front of a symbol's name: its address, and how many bytes it reaches over
unfoldable pub symbol_front : Symbol → List ℕ
symbol_front symbol = hex8_of symbol.addr ++ codes " " ++ decimal (symbol.end - symbol.addr) ++ codes " "

unfoldable pub symbol_line : Symbol → List ℕ
symbol_line symbol = symbol_front symbol ++ symbol.name ++ codes "\n"

-- the lines of a program
unfoldable pub image_text : Image → List ℕ
image_text image = image_line image ++ flat_map symbol_line image.symbols
