-- The picture of a log as SVG text: a lane for each thread, a row for each record, arrows between records, and a race in red. Assumes nothing.
use Rattle.std.specs.Prelude.{ℕ, zero, suc, ◌+◌, ◌*◌, max, Bool, false, cond, ◌||◌, List, [], ◌∷◌, ◌++◌, eqb, length, get_or}
use Rattle.std.specs.Prelude.{Option as CodeOption, Some, None}
use Rattle.std.proofs.Math.Option.{Option, some, none}
use Rattle.std.proofs.Math.ListN.{get_elem?}
use Rattle.log_records.specs.Record.{Record}
use Rattle.text.specs.Text.{ascii, decimal}
use Rattle.text_record_lines.specs.Lines.{record_line}
use Rattle.text_diagram_elements.specs.declared.Race.{Race}

-- ---- places

-- how many lanes: one for each thread from 0 to the highest of the log
unfoldable pub lane_count : List Record → ℕ
lane_count [] = 0
lane_count (r ∷ L) = max (lane_count L) (suc r.thread)

-- where a thread's lane stands from the left; the words stand where one more lane would
abbrev pub lane_x : ℕ → ℕ
lane_x t = 40 + 80 * t

-- where a record's row stands from the top; the lanes end where one more row would stand
abbrev pub row_y : ℕ → ℕ
row_y i = 48 + 24 * i

-- the thread of a record; 0 where there is none
abbrev pub thread_of : Option Record → ℕ
thread_of none = 0
thread_of (some r) = r.thread

-- where the mark of record i stands from the left: on its thread's lane
unfoldable pub mark_x : List Record → ℕ → ℕ
mark_x L i = lane_x (thread_of (get_elem? L i))

-- ---- elements

-- a name and a number: ` name="12"`
unfoldable pub attribute : List ℕ → ℕ → List ℕ
unfolding ascii decimal
attribute name n = ascii " " ++ (name ++ (ascii "=\"" ++ (decimal n ++ ascii "\"")))

-- a straight line of a class, from one place to another
unfoldable pub segment : List ℕ → ℕ → ℕ → ℕ → ℕ → List ℕ
unfolding ascii attribute
segment class x y u v =
    ascii "<line class=\""
    ++ (class
    ++ (ascii "\""
    ++ (attribute (ascii "x1") x ++ (attribute (ascii "y1") y ++ (attribute (ascii "x2") u ++ (attribute (ascii "y2") v ++ ascii "/>\n"))))))

-- ---- the head

-- how classes look: lanes, the dotted line of a row, titles; arrows, with their tip short of the mark; a race dashed, without a tip; a white ground
unfoldable pub style_text : List ℕ
unfolding ascii
style_text =
    ascii "<style>.lane{stroke:#999;stroke-width:2}.row{stroke:#bbb;stroke-dasharray:1 5}.title{text-anchor:middle}</style>\n"
    ++ (ascii "<style>.arrow{stroke:#05c;stroke-width:1.5;marker-end:url(#tip)}.race{stroke:red;stroke-width:2;stroke-dasharray:6 4}</style>\n"
    ++ (ascii "<marker id=\"tip\" viewBox=\"0 0 10 8\" refX=\"15\" refY=\"4\" markerWidth=\"10\" markerHeight=\"8\""
    ++ (ascii " markerUnits=\"userSpaceOnUse\" orient=\"auto\">\n<path d=\"M0 0L10 4L0 8z\" fill=\"#05c\"/></marker>\n"
    ++ ascii "<rect width=\"100%\" height=\"100%\" fill=\"white\"/>\n")))

-- the size of the picture: room for the words to the right of the lanes, and a row more than there are records
unfoldable pub opening_text : ℕ → ℕ → List ℕ
unfolding ascii attribute
opening_text lanes records =
    ascii "<svg xmlns=\"http://www.w3.org/2000/svg\""
    ++ (attribute (ascii "width") (lane_x lanes + 280)
    ++ (attribute (ascii "height") (row_y records) ++ ascii " font-family=\"monospace\" font-size=\"12\">\n"))

-- what the columns of a record's words are
unfoldable pub columns_text : ℕ → List ℕ
unfolding ascii attribute
columns_text lanes = ascii "<text" ++ (attribute (ascii "x") (lane_x lanes) ++ ascii " y=\"20\">index kind thread object field value</text>\n")

-- the size, the looks and the names of the columns
unfoldable pub head_text : ℕ → ℕ → List ℕ
unfolding opening_text style_text columns_text
head_text lanes records = opening_text lanes records ++ (style_text ++ columns_text lanes)

-- ---- lanes

-- the lane of thread t: a line down to the last row, and its title
unfoldable pub lane_text : ℕ → ℕ → List ℕ
unfolding ascii decimal attribute segment
lane_text records t =
    segment (ascii "lane") (lane_x t) 28 (lane_x t) (row_y records)
    ++ (ascii "<text class=\"title\"" ++ (attribute (ascii "x") (lane_x t) ++ (ascii " y=\"20\">thread " ++ (decimal t ++ ascii "</text>\n"))))

-- the lanes of the first n threads
unfoldable pub lane_texts : ℕ → ℕ → List ℕ
unfolding lane_text
lane_texts records zero = []
lane_texts records (suc t) = lane_texts records t ++ lane_text records t

-- ---- records

-- whether record i is one of the two of a race: its last write and its access
abbrev pub in_race : Option (ℕ × ℕ) → ℕ → Bool
in_race none i = false
in_race (some p) i = eqb i p.0 || eqb i p.1

-- the last write and the unordered access in red
unfoldable pub colour : Option (ℕ × ℕ) → ℕ → List ℕ
unfolding ascii
colour race i = cond (in_race race i) (ascii "red") (ascii "black")

-- the mark of a record
unfoldable pub mark_text : ℕ → ℕ → List ℕ
unfolding ascii attribute
mark_text x y = ascii "<circle r=\"5\"" ++ (attribute (ascii "cx") x ++ (attribute (ascii "cy") y ++ ascii "/>\n"))

-- the words of a record: its line, whose line feed is no part of what is shown
unfoldable pub words_text : ℕ → ℕ → Record → List ℕ
unfolding ascii attribute record_line
words_text lanes i r =
    ascii "<text" ++ (attribute (ascii "x") (lane_x lanes) ++ (attribute (ascii "y") (row_y i + 4) ++ (ascii ">" ++ (record_line i r ++ ascii "</text>"))))

-- the row of record i in its colour: its mark, a line from there to its words, and its words
unfoldable pub row_text : ℕ → Option (ℕ × ℕ) → ℕ → Record → List ℕ
unfolding ascii colour segment mark_text words_text
row_text lanes race i r =
    ascii "<g fill=\""
    ++ (colour race i
    ++ (ascii "\">\n"
    ++ (segment (ascii "row") (lane_x r.thread) (row_y i) (lane_x lanes) (row_y i)
    ++ (mark_text (lane_x r.thread) (row_y i) ++ (words_text lanes i r ++ ascii "</g>\n")))))

-- the rows of records, the first of them with index i
unfoldable pub row_texts : ℕ → Option (ℕ × ℕ) → ℕ → List Record → List ℕ
unfolding row_text
row_texts lanes race i [] = []
row_texts lanes race i (r ∷ L) = row_text lanes race i r ++ row_texts lanes race (suc i) L

-- ---- between records

-- a line of a class from the mark of record i to that of record j
unfoldable pub between : List ℕ → List Record → ℕ → ℕ → List ℕ
unfolding segment mark_x
between class L i j = segment class (mark_x L i) (row_y i) (mark_x L j) (row_y j)

-- an arrow for each pair of indices, from the first to the second
unfoldable pub arrow_texts : List Record → List (ℕ × ℕ) → List ℕ
unfolding ascii between
arrow_texts L [] = []
arrow_texts L (p ∷ arrows) = between (ascii "arrow") L p.0 p.1 ++ arrow_texts L arrows

-- where a race is given, a line between its two records
unfoldable pub race_text : List Record → Option (ℕ × ℕ) → List ℕ
unfolding ascii between
race_text L none = []
race_text L (some p) = between (ascii "race") L p.0 p.1

-- ---- the whole

-- the picture of a log with these arrows and, where one is given, this race: the indices of its last write and of the access that is unordered after it
unfoldable pub diagram_text : List Record → List (ℕ × ℕ) → Option (ℕ × ℕ) → List ℕ
unfolding ascii lane_count head_text lane_texts row_texts arrow_texts race_text
diagram_text L arrows race =
    head_text (lane_count L) (length L)
    ++ (lane_texts (length L) (lane_count L) ++ (row_texts (lane_count L) race 0 L ++ (arrow_texts L arrows ++ (race_text L race ++ ascii "</svg>\n"))))

-- ---- as the code has them

-- the first n arrows, whose ends stand in two lists
unfoldable pub arrows_of : List ℕ → List ℕ → ℕ → List (ℕ × ℕ)
arrows_of starts ends zero = []
arrows_of starts ends (suc n) = arrows_of starts ends n ++ ((get_or starts n 0, get_or ends n 0) ∷ [])

-- the two records of a race, as the code has them
abbrev pub race_of : CodeOption Race → Option (ℕ × ℕ)
race_of (Some race) = some (race.write, race.access)
race_of None = none
