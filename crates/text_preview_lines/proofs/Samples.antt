-- Previews in words, by computation: of plan P (document 01, "Shot list"), and others. Assumes nothing.
use mathlib.Core.Path.{◌≡◌, refl}
use mathlib.Core.List.{[], ◌∷◌, ◌++◌}
use mathlib.Core.Option.{some}
use Rattle.log_records.specs.Record.{write, lacks_read, entry}
use Rattle.rules.specs.Room.{Room}
use Rattle.rules.specs.Run.{Stop, Status}
use Rattle.text.specs.Text.{ascii, decimal}
use Rattle.text_phrases.specs.Phrase.{phrase}
use Rattle.text_status_words.specs.Words.{status_words}
use Rattle.preview.specs.Preview.{passed, moved, race, no_room, stopped}
use Rattle.text_move_words.specs.Words.{record_words_by, record_words}
use Rattle.text_preview_lines.specs.Lines.{room_words, stop_words, preview_line}

passed_absent : preview_line 7 (passed Status.absent) ≡ ascii "thread 7 is absent: its pick is passed over" ++ (10 ∷ [])
unfolding preview_line status_words phrase ascii decimal
passed_absent = refl

moved_write : preview_line 1 (moved (some (entry write 1 1 1 0))) ≡ ascii "thread 1 writes field 1 of object 1" ++ (10 ∷ [])
unfolding preview_line record_words record_words_by phrase ascii decimal
moved_write = refl

race_read : preview_line 0 (race (entry lacks_read 0 1 1 0)) ≡ ascii "thread 0 reads, without its key, field 1 of object 1: the run stops" ++ (10 ∷ [])
unfolding preview_line record_words record_words_by phrase ascii decimal
race_read = refl

no_room_thread : preview_line 0 (no_room Room.thread) ≡ ascii "thread 0 stops the run: no room for a thread" ++ (10 ∷ [])
unfolding preview_line room_words phrase ascii decimal
no_room_thread = refl

stopped_race : preview_line 1 (stopped Stop.race) ≡ ascii "the run has stopped already: a missing key" ++ (10 ∷ [])
unfolding preview_line stop_words phrase ascii decimal
stopped_race = refl
