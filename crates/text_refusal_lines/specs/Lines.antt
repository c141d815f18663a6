-- The line of a refusal (document 01, "Shot list"), and its sentence for people. Assumes nothing.
use Rattle.std.specs.Prelude.{ℕ, cond, List, [], ◌∷◌, ◌++◌, ltb, get_or}
use Rattle.format.specs.Refusal.{Refusal}
use Rattle.text.specs.Text.{ascii, decimal, line}

-- "A refusal prints one line: refused, number, place"
unfoldable pub refusal_line : Refusal → List ℕ
unfolding line decimal ascii
refusal_line r = line (ascii "refused" ∷ decimal r.number ∷ decimal r.place ∷ [])

-- what documents 01 and 02 say of each number, in the words of the library's header
unfoldable pub sentences : List (List ℕ)
unfolding ascii
sentences =
    ascii "a refusal without a sentence"  -- for numbers that no document has
    ∷ ascii "the plan's length is not that of its counts, or under 8 bytes"  -- 1: "wrong length, or under 8 bytes"
    ∷ ascii "the plan's header or volatile mask"  -- 2: "header or mask against the above"
    ∷ ascii "a procedure's parameters, or its root is not below the term count"  -- 3: "a procedure against the above, or a root not below the term count"
    ∷ ascii "a term's tag, slot, field, procedure, child or spare bits"  -- 4: "a single term against the table"
    ∷ ascii "a root or child of the wrong sort, or a call with the wrong number of arguments"  -- 5
    ∷ ascii "a term that is not named exactly once"  -- 6: "a term not named exactly once"
    ∷ ascii "a procedure that uses a slot that nothing binds"  -- 7: "a procedure whose root uses a slot that no parameter or enclosing let binds"
    ∷ ascii "a schedule of over 4,096 picks"  -- 8: "over 4,096 picks"
    ∷ ascii "a pick over 7"  -- 9: "a pick over 7"
    ∷ ascii "a log area under 3 times the picks"  -- 10: "log area under 3 times the picks"
    ∷ ascii "a log whose length is no multiple of 3, or over 12,288"  -- 11: "length no multiple of 3, or over 12,288"
    ∷ ascii "a record with a wrong kind, column or spare bit, or lacking its key and not last"  -- 12
    ∷ ascii "an area shorter than the plan"  -- 13: "output area shorter than the plan"
    ∷ ascii "a version other than 0 or 1 given to the judge"  -- 14: "a version other than 0 or 1 given to the judge"
    ∷ ascii "a plan of version 0, or with a wait, which are left out"  -- 15: "the plan has version 0 or a term of tag 18"
    ∷ ascii "a run without a missing key"  -- 16: "the run has no missing key"
    ∷ ascii "an area shorter than the schedule to be written"  -- 17: "output shorter than the schedule to be written"
    ∷ ascii "a bound over 64"  -- 18: "n over 64"
    ∷ ascii "a schedule that is not listed"  -- 19: "the given schedule is not listed"
    ∷ ascii "an area shorter than the bound"  -- 20: "output shorter than n"
    ∷ ascii "calls that form a cycle"  -- 21: "calls anywhere in the plan form a cycle"
    ∷ ascii "a while in a plan whose moves are asked for"  -- 22: "a while occurs anywhere"
    ∷ ascii "a total of over 65,535 moves"  -- 23: "the total is over 65,535"
    ∷ ascii "an area too short for the whole data file"  -- 24: "output too short for the whole file"
    ∷ ascii "an area shorter than the plan's text"  -- 25: of `show`
    ∷ ascii "an area shorter than the plan of the text"  -- 26: of `read`
    ∷ ascii "an area without room for every picture of so many records"  -- of `diagram`, 27, which the library does not have
    ∷ []

-- the row of a number
unfoldable pub sentence_row : ℕ → ℕ
sentence_row number = cond (ltb number 28) number 0

-- the sentence of a number, as a line
unfoldable pub sentence_line : ℕ → List ℕ
unfolding sentences sentence_row
sentence_line number = get_or sentences (sentence_row number) [] ++ (10 ∷ [])

-- both lines
unfoldable pub refusal_lines : Refusal → List ℕ
unfolding refusal_line sentence_line
refusal_lines r = refusal_line r ++ sentence_line r.number
