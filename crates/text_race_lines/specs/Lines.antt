-- Two records of a log between which nothing leads, in words. Assumes nothing.
use Rattle.std.specs.Prelude.{ℕ, cond, List, [], ◌∷◌, ◌++◌}
use Rattle.format.specs.Version.{Version}
use Rattle.log_records.specs.Record.{Kind, Record}
use Rattle.log_order.specs.Accesses.{is_write}
use Rattle.log_order.specs.Chains.{Unordered}
use Rattle.log_conflicts.specs.Conflicts.{Conflicting}
use Rattle.text.specs.Text.{ascii}
use Rattle.text_phrases.specs.Phrase.{phrase}

-- what a thread does by a plain access: " reads" or " writes"
unfoldable pub does : Kind → List ℕ
unfolding ascii
does k = cond (is_write k) (ascii " writes") (ascii " reads")

-- a thread's plain access, as a thing: "'s read" or "'s write"
unfoldable pub deed : Kind → List ℕ
unfolding ascii
deed k = cond (is_write k) (ascii "'s write") (ascii "'s read")

-- "nothing leads from record 2 to record 3"
unfoldable pub apart_line : ℕ → ℕ → List ℕ
apart_line i j = phrase "nothing leads from record " i ++ (phrase " to record " j ++ (10 ∷ []))

-- "thread 0 reads field 1 of object 1 without the key of thread 1's write, record 2": the access x, and record i, the write w
unfoldable pub lack_line : ℕ → Record → Record → List ℕ
lack_line i w x =
    phrase "thread " x.thread
    ++ (does x.kind
    ++ (phrase " field " x.field
    ++ (phrase " of object " x.object
    ++ (phrase " without the key of thread " w.thread
    ++ (phrase "'s write, record " i
    ++ (10 ∷ []))))))

-- "thread 0's read of field 1 of object 1, record 3": record j, the access x
unfoldable pub access_part : ℕ → Record → List ℕ
access_part j x =
    phrase "thread " x.thread ++ (deed x.kind ++ (phrase " of field " x.field ++ (phrase " of object " x.object ++ phrase ", record " j)))

-- ", and thread 1's write, record 2, conflict": record i, the access w to the same field
unfoldable pub other_part : ℕ → Record → List ℕ
other_part i w = phrase ", and thread " w.thread ++ (deed w.kind ++ (phrase ", record " i ++ (ascii ", conflict" ++ (10 ∷ []))))

-- both lines of the access x, record j, that lacks the key of the write w, record i
unfoldable pub lack_lines : ℕ → Record → ℕ → Record → List ℕ
lack_lines i w j x = lack_line i w x ++ apart_line i j

-- both lines of the access x, record j, and the earlier access w, record i, that conflicts with it
unfoldable pub conflict_lines : ℕ → Record → ℕ → Record → List ℕ
conflict_lines i w j x = (access_part j x ++ other_part i w) ++ apart_line i j

-- what is said of a record that no chain leads to from the last write of its field
unfoldable pub unordered_lines : {v : Version} {L : List Record} {j : ℕ} → Unordered v L j → List ℕ
unordered_lines {j = j} u = lack_lines u.last u.is_last.write_record j u.access

-- what is said of a record that no chain leads to from an earlier access that conflicts with it
unfoldable pub conflicting_lines : {v : Version} {L : List Record} {j : ℕ} → Conflicting v L j → List ℕ
conflicting_lines {j = j} c = conflict_lines c.index c.other j c.access
