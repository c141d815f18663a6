-- Lines of the picture of a sample log, by computation: thread 0 forks thread 1, whose write and its own read are a race. Assumes nothing.
use Prim.Native.Nat.{ℕ}
use mathlib.Core.Path.{◌≡◌, refl}
use mathlib.Core.List.{List, [], ◌∷◌, ◌++◌}
use mathlib.Core.Option.{Option, some}
use Rattle.log_records.specs.Record.{new, write, fork, lacks_read, Record, entry}
use Rattle.text.specs.Text.{ascii}
use Rattle.text_diagram_elements.specs.Diagram.{lane_count, opening_text, lane_text, row_texts, arrow_texts, race_text}

abbrev log : List Record
log = entry new 0 1 0 0 ∷ entry fork 0 1 1 0 ∷ entry write 1 1 1 5 ∷ entry lacks_read 0 1 1 0 ∷ []

abbrev race : Option (ℕ × ℕ)
race = some (2, 3)

opening : opening_text (lane_count log) 4
    ≡ ascii "<svg xmlns=\"http://www.w3.org/2000/svg\" width=\"480\" height=\"144\" font-family=\"monospace\" font-size=\"12\">\n"
unfolding opening_text lane_count
opening = refl

lane : lane_text 4 1 ≡ ascii "<line class=\"lane\" x1=\"120\" y1=\"28\" x2=\"120\" y2=\"144\"/>\n<text class=\"title\" x=\"120\" y=\"20\">thread 1</text>\n"
unfolding lane_text
lane = refl

-- the fork in black, the write in red
rows : row_texts 2 race 1 (entry fork 0 1 1 0 ∷ entry write 1 1 1 5 ∷ [])
    ≡ ascii "<g fill=\"black\">\n<line class=\"row\" x1=\"40\" y1=\"72\" x2=\"200\" y2=\"72\"/>\n<circle r=\"5\" cx=\"40\" cy=\"72\"/>\n"
    ++ (ascii "<text x=\"200\" y=\"76\">1 fork 0 1 1 0\n</text></g>\n"
    ++ (ascii "<g fill=\"red\">\n<line class=\"row\" x1=\"120\" y1=\"96\" x2=\"200\" y2=\"96\"/>\n<circle r=\"5\" cx=\"120\" cy=\"96\"/>\n"
    ++ ascii "<text x=\"200\" y=\"100\">2 write 1 1 1 5\n</text></g>\n"))
unfolding row_texts
rows = refl

-- from the fork to the first record of the thread that it forks
arrow : arrow_texts log ((1, 2) ∷ []) ≡ ascii "<line class=\"arrow\" x1=\"40\" y1=\"72\" x2=\"120\" y2=\"96\"/>\n"
unfolding arrow_texts
arrow = refl

between_both : race_text log race ≡ ascii "<line class=\"race\" x1=\"120\" y1=\"96\" x2=\"40\" y2=\"120\"/>\n"
unfolding race_text
between_both = refl
