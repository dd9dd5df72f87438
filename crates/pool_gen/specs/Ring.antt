-- The three inputs of a ring of k cells that pass a token on, with a schedule from the pseudo-random generator PCG32.
use Rattle.std.specs.Prelude.{ℕ, ◌%◌, List, [], ◌∷◌, ◌++◌, codes, decimal}
use Rattle.std.specs.List.{slice_index_or}
use Rattle.rand_core.specs.Steps.{first_words}
use Rattle.rand_pcg.specs.Lcg.{Lcg, increment_of, started}
use Rattle.rand_pcg.specs.Pcg.{multiplier_64, pcg32}
use Rattle.text_scan.specs.Text.{Text}

-- each line with a line feed after it
abbrev pub lines_of : List Text → Text
lines_of [] = []
lines_of (l ∷ ls) = l ++ (10 ∷ lines_of ls)

-- the program up to the first of its two numbers of cells
abbrev pub before_count : Text
before_count = lines_of (
    codes "class Cell"
    ∷ codes "var next : Cell"
    ∷ codes "method link(c : Cell) begin next := c end"
    ∷ codes "method token(n : Int) begin if n > 0 then next !! token(n - 1) else write n fi end"
    ∷ codes "body answer(link); while true do answer(token) od end"
    ∷ codes "class Main"
    ∷ codes "var first, last, c : Cell"
    ∷ codes "var i : Int"
    ∷ codes "body first := new Cell; last := first; i := 1;"
    ∷ []
    ) ++ codes "while i < "

-- the program between its two numbers of cells
abbrev pub between_counts : Text
between_counts = lines_of (
    codes " do c := new Cell; last ! link(c); last := c; i := i + 1 od;"
    ∷ codes "last ! link(first);"
    ∷ []
    ) ++ codes "first !! token("

-- k cells, the last of which knows the first; the first receives the token k
abbrev pub ring_program : ℕ → Text
ring_program k = before_count ++ (decimal k ++ (between_counts ++ (decimal k ++ codes ") end\n")))

-- the cells are placed on the four nodes in turn
abbrev pub ring_placement : Text
ring_placement = lines_of (codes "mesh 2 2" ∷ codes "objects 512" ∷ codes "place Cell spread" ∷ [])

-- the lines to choose from: a turn of one of the four nodes, or a move on one of the eight links between neighbours
abbrev pub choices : List Text
choices =
    codes "turn 0" ∷ codes "turn 1" ∷ codes "turn 2" ∷ codes "turn 3"
    ∷ codes "link 0 1" ∷ codes "link 0 2" ∷ codes "link 1 0" ∷ codes "link 1 3"
    ∷ codes "link 2 0" ∷ codes "link 2 3" ∷ codes "link 3 1" ∷ codes "link 3 2" ∷ []

-- the line for a random word: the choice with the number of its remainder by 12
abbrev pub drawn_line : ℕ → Text
drawn_line word = slice_index_or choices (word % 12) [] ++ (10 ∷ [])

-- the lines for these words
abbrev pub drawn_lines : List ℕ → Text
drawn_lines [] = []
drawn_lines (word ∷ words) = drawn_line word ++ drawn_lines words

-- the generator with the initial state k and the stream 1
abbrev pub generator_of : ℕ → Lcg
generator_of k = started 64 multiplier_64 k (increment_of 64 1)

-- the lines for the first 2000 words of the generator, and then 100000 rounds
abbrev pub ring_schedule : ℕ → Text
ring_schedule k = codes "quantum 20\n" ++ (drawn_lines (first_words pcg32 2000 (generator_of k)) ++ codes "round 100000\n")
