-- The script of a grid of routers (own).
use Rattle.std.specs.Prelude.{ℕ, ◌+◌, ◌-◌, List, ◌++◌, codes, decimal}
use Rattle.std.specs.List.{flat_map, range_with_len}
use Rattle.isis_base.specs.Texts.{hex_pair}

-- a mark, and a row and a column, as g1x2
unfoldable pub place_name : List ℕ → (row column : ℕ) → List ℕ
place_name mark row column = mark ++ decimal row ++ (codes "x" ++ decimal column)

-- `router gRxC 0000.RRRR.CCCC 49.0001 L1`, row and column in hex in the system ID
unfoldable pub router_line : (row column : ℕ) → List ℕ
router_line row column =
    codes "router " ++ place_name (codes "g") row column
    ++ codes " 0000.00" ++ hex_pair row ++ codes ".00" ++ hex_pair column ++ codes " 49.0001 L1\n"

-- `link NAME gRxC gRxC 10`, from a row and column to another; the name is a mark and the first of them
unfoldable pub link_line : List ℕ → (from to : ℕ × ℕ) → List ℕ
link_line mark from to =
    codes "link " ++ place_name mark from.0 from.1
    ++ codes " " ++ place_name (codes "g") from.0 from.1
    ++ codes " " ++ place_name (codes "g") to.0 to.1 ++ codes " 10\n"

-- the link to the next column, and that to the next row
abbrev pub across_line : (row column : ℕ) → List ℕ
across_line row column = link_line (codes "h") (row, column) (row, column + 1)

abbrev pub down_line : (row column : ℕ) → List ℕ
down_line row column = link_line (codes "v") (row, column) (row + 1, column)

-- `prefix gRxC 10.R.C.0/24 10`
unfoldable pub prefix_line : (row column : ℕ) → List ℕ
prefix_line row column =
    codes "prefix " ++ place_name (codes "g") row column ++ (codes " 10." ++ decimal row)
    ++ (codes "." ++ decimal column) ++ codes ".0/24 10\n"

-- a line for each place of so many rows and columns, row by row, both counted from 1
unfoldable pub row_by_row : (ℕ → ℕ → List ℕ) → (rows columns : ℕ) → List ℕ
row_by_row line rows columns =
    flat_map (λ row. flat_map (line row) (range_with_len 1 columns)) (range_with_len 1 rows)

-- a grid of so many rows and as many columns
unfoldable pub grid_text : ℕ → List ℕ
grid_text size =
    codes "isis-lab 1\n" ++ row_by_row router_line size size
    ++ row_by_row across_line size (size - 1) ++ row_by_row down_line (size - 1) size
    ++ row_by_row prefix_line size size ++ codes "run 60\n"
