-- The words about plan P's race (document 01, "Shot list"), by computation. Assumes nothing.
use mathlib.Core.Path.{◌≡◌, refl}
use mathlib.Core.List.{[], ◌∷◌, ◌++◌}
use Rattle.log_records.specs.Record.{write, lacks_read, lacks_write, entry}
use Rattle.text.specs.Text.{ascii, decimal}
use Rattle.text_phrases.specs.Phrase.{phrase}
use Rattle.text_race_lines.specs.Lines.{does, deed, apart_line, lack_line, lack_lines, access_part, other_part, conflict_lines}

-- records 2 and 3 of P's run
race_of_P : lack_lines 2 (entry write 1 1 1 0) 3 (entry lacks_read 0 1 1 0)
    ≡ ascii "thread 0 reads field 1 of object 1 without the key of thread 1's write, record 2"
    ++ (10 ∷ (ascii "nothing leads from record 2 to record 3" ++ (10 ∷ [])))
unfolding lack_lines lack_line apart_line does phrase ascii decimal
race_of_P = refl

-- a write that lacks its key
lacking_write : lack_lines 40 (entry write 2 31 5 0) 400 (entry lacks_write 7 31 5 1)
    ≡ ascii "thread 7 writes field 5 of object 31 without the key of thread 2's write, record 40"
    ++ (10 ∷ (ascii "nothing leads from record 40 to record 400" ++ (10 ∷ [])))
unfolding lack_lines lack_line apart_line does phrase ascii decimal
lacking_write = refl

-- the same two records, as the judge names them
conflict_of_P : conflict_lines 2 (entry write 1 1 1 0) 3 (entry lacks_read 0 1 1 0)
    ≡ ascii "thread 0's read of field 1 of object 1, record 3, and thread 1's write, record 2, conflict"
    ++ (10 ∷ (ascii "nothing leads from record 2 to record 3" ++ (10 ∷ [])))
unfolding conflict_lines access_part other_part apart_line deed phrase ascii decimal
conflict_of_P = refl
