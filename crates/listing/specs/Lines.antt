-- A table as lines of text.
use Rattle.std.specs.Prelude.{ℕ, zero, suc, ◌+◌, List, [], ◌++◌, Some, None, codes, decimal, Option}
use Rattle.table.specs.Names.{instruction_text}
use Rattle.table.specs.Parts.{Parts}
use Rattle.table.specs.Reading.{constant_count, instruction_at, instruction_count, node_count, row_at, shape_at}
use Rattle.table.specs.declared.instructions.Instruction.{Instruction}
use Rattle.table.specs.declared.records.Shape.{Shape}
use Rattle.listing.specs.Columns.{left, number}

abbrev pub sizes_text : ℕ → ℕ → List ℕ
sizes_text maximum locals = codes "maximum depth " ++ (decimal maximum ++ (codes ", locals " ++ (decimal locals ++ codes "\n")))

abbrev pub counts_text : ℕ → ℕ → ℕ → List ℕ
counts_text instructions nodes constants =
    codes "instructions " ++ (decimal instructions ++ (codes ", nodes " ++ (decimal nodes ++ (codes ", constants " ++ (decimal constants ++ codes "\n")))))

abbrev pub titles : List ℕ
titles = codes "index        row  instruction                      depth  node\n"

-- the numbers of the header, and the names of the columns
abbrev pub head_text : Parts → List ℕ
head_text t = sizes_text t.maximum t.locals ++ (counts_text (instruction_count t) (node_count t) (constant_count t) ++ titles)

-- index, row, name and operands, depth and node
abbrev pub line_text : ℕ → ℕ → Instruction → Shape → List ℕ
line_text i row o s =
    number 5 i ++ (number 11 row ++ (codes "  " ++ (left 31 (instruction_text o) ++ (number 7 s.depth ++ (number 6 s.node ++ codes "\n")))))

-- the line of an instruction that can be read; no line where one of its three records is missing
abbrev pub line_for : ℕ → Option ℕ → Option Instruction → Option Shape → List ℕ
line_for i None o s = []
line_for i (Some row) None s = []
line_for i (Some row) (Some o) None = []
line_for i (Some row) (Some o) (Some s) = line_text i row o s

abbrev pub line_at : Parts → ℕ → List ℕ
line_at t i = line_for i (row_at t i) (instruction_at t i) (shape_at t i)

-- n lines from number i on
unfoldable pub lines_from : Parts → ℕ → ℕ → List ℕ
lines_from t i zero = []
lines_from t i (suc n) = line_at t i ++ lines_from t (i + 1) n

-- the header, and a line for each instruction
abbrev pub listing_text : Parts → List ℕ
listing_text t = head_text t ++ lines_from t 0 (instruction_count t)
