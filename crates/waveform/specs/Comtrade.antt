-- What the tool `comtrade` answers to a log, and what it leaves in the area (document 02, E14). Assumes nothing.
use Rattle.std.specs.Prelude.{ℕ, Bool, List, [], ◌∷◌, ◌++◌, ltb, length}
use Rattle.std.proofs.Math.Option.{Option, some, none}
use Rattle.format.specs.Refusal.{Refusal, Check, check_whole, first_refusal}
use Rattle.format.specs.Area.{overwrite}
use Rattle.log_records.specs.Packed.{log_of}
use Rattle.log_records.specs.Refusals.{log_checks}
use Rattle.answers.specs.Answer.{Answer, answer_by}
use Rattle.text_sample_lines.specs.DataFile.{data_file}

-- the file of a log in bytes
unfoldable pub file_of : List ℕ → List ℕ
unfolding data_file log_of
file_of log = data_file (log_of log)

-- "24 output too short for the whole file"
unfoldable pub short_output : List ℕ → List ℕ → Bool
unfolding file_of
short_output log area = ltb (length area) (length (file_of log))

-- "after 11 and 12"
unfoldable pub comtrade_checks : List ℕ → List ℕ → List Check
unfolding log_checks short_output
comtrade_checks log area = log_checks log ++ (check_whole 24 (short_output log area) ∷ [])

-- the refusal, if there is one
unfoldable pub comtrade_refusal : List ℕ → List ℕ → Option Refusal
unfolding comtrade_checks first_refusal
comtrade_refusal log area = first_refusal (comtrade_checks log area)

-- "Wherever something is written into a lent area, the answer also gives its length: [..] for any later tool in bytes." (document 01)
unfoldable pub comtrade_answer : List ℕ → List ℕ → Answer
unfolding answer_by comtrade_refusal file_of
comtrade_answer log area = answer_by (comtrade_refusal log area) (length (file_of log))

-- "no area changes" (document 01) where the log is refused; "Bytes past the file keep their values."
unfoldable pub area_by : List ℕ → List ℕ → Option Refusal → List ℕ
unfolding file_of overwrite
area_by log area (some r) = area
area_by log area none = overwrite (file_of log) area

-- the whole area afterwards
unfoldable pub comtrade_area : List ℕ → List ℕ → List ℕ
unfolding area_by comtrade_refusal
comtrade_area log area = area_by log area (comtrade_refusal log area)
