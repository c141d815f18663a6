-- The line of a preview: the parts that it is put together from. Assumes nothing.
use Prim.Native.Nat.{ℕ}
use mathlib.Core.Path.{◌≡◌, ap, ◌∙◌}
use mathlib.Core.List.{List, [], ◌∷◌, ◌++◌, append_assoc}
use Rattle.log_records.specs.Record.{Record}
use Rattle.log_packing.specs.declared.Columns.{Columns}
use Rattle.log_packing.specs.Inner.Columns.{ReadAt}
use Rattle.text_record_lines.specs.Inner.Columns as columns
use Rattle.text_run_lines.proofs.RecordText.{columns_are}
use Rattle.rules.specs.Room.{Room}
use Rattle.rules.specs.Run.{Stop, Status}
use Rattle.run_last_pick.specs.declared.RecordBytes.{RecordBytes}
use Rattle.preview.specs.Preview.{passed, no_room, stopped}
use Rattle.preview.specs.Answer.{bytes_in, record_of}
use Rattle.text.specs.Text.{ascii}
use Rattle.text_phrases.specs.Phrase.{phrase}
use Rattle.text_status_words.specs.Words.{status_words}
use Rattle.text_move_words.specs.Words.{record_words}
use Rattle.text_preview_lines.specs.Lines.{room_words, stop_words, preview_line}

pub passed_parts : (p : ℕ) (s : Status)
    → (phrase "thread " p ++ status_words s) ++ (ascii ": its pick is passed over" ++ (10 ∷ [])) ≡ preview_line p (passed s)
unfolding preview_line
passed_parts p s = append_assoc (phrase "thread " p) (status_words s) (ascii ": its pick is passed over" ++ (10 ∷ []))

pub no_room_parts : (p : ℕ) (k : Room) → ((phrase "thread " p ++ ascii " stops the run: ") ++ room_words k) ++ (10 ∷ []) ≡ preview_line p (no_room k)
unfolding preview_line
no_room_parts p k = four (phrase "thread " p) (ascii " stops the run: ") (room_words k) (10 ∷ [])
  where
    four : (a b c d : List ℕ) → ((a ++ b) ++ c) ++ d ≡ a ++ (b ++ (c ++ d))
    four a b c d = simp append_assoc

pub stopped_parts : (p : ℕ) (e : Stop) → (ascii "the run has stopped already: " ++ stop_words e) ++ (10 ∷ []) ≡ preview_line p (stopped e)
unfolding preview_line
stopped_parts p e = append_assoc (ascii "the run has stopped already: ") (stop_words e) (10 ∷ [])

-- a record's three bytes, taken apart
pub recorded_parts : (p : ℕ) (c : Columns) (b : RecordBytes) (end : List ℕ) → ReadAt (bytes_in b) 0 c
    → (phrase "thread " p ++ record_words (columns.record_of c)) ++ end ≡ phrase "thread " p ++ (record_words (record_of b) ++ end)
unfolding record_of
recorded_parts p c b end h =
    append_assoc (phrase "thread " p) (record_words (columns.record_of c)) end
    ∙ ap (λ (r : Record). phrase "thread " p ++ (record_words r ++ end)) (columns_are (bytes_in b) 0 c h)
