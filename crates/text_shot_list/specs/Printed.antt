-- What the printing program writes for the bytes that it reads (document 01, "Shot list"). Assumes nothing.
use Rattle.std.specs.Prelude.{ℕ, ◌≤◌, ◌<◌, ◌≡◌, cond, List, ◌++◌, length, replicate, drop}
use Rattle.log_records.specs.Record.{Record}
use Rattle.rules.specs.Run.{log}
use Rattle.rules.specs.Play.{Played, refused, ran, played, run_of}
use Rattle.text_record_lines.specs.Lines.{record_lines}
use Rattle.text_refusal_lines.specs.Lines.{refusal_line}
use Rattle.text_last_lines.specs.Lines.{outcome_line}
use Rattle.text_input_parts.specs.Input.{plan_read, schedule_read, cut_short}

-- the log area that the program lends to the play: three bytes for each of 4,096 picks
unfoldable pub lent_area : List ℕ
lent_area = replicate 12288 0

-- a refusal's line, or a line for each record of the run and a last line
unfoldable pub answer_text : List Record → Played → List ℕ
unfolding record_lines outcome_line refusal_line
answer_text L (refused r) = refusal_line r
answer_text L (ran o) = record_lines 0 L ++ outcome_line o.stop o.picks o.moves o.records

-- the text of a play
unfoldable pub play_text : List ℕ → List ℕ → List ℕ
unfolding answer_text run_of log played lent_area
play_text plan schedule = answer_text (log (run_of plan schedule)) (played plan schedule lent_area)

-- the whole text
unfoldable pub printed : List ℕ → List ℕ
unfolding cut_short refusal_line play_text plan_read schedule_read
printed input = cond (cut_short input) (refusal_line (record { number = 1; place = 0 })) (play_text (plan_read input) (schedule_read input))

-- a text in a lent area: one of 131,072 bytes or more, before and after, gets the text, whose length is the answer, and keeps its old bytes after it; a
-- shorter one has no room for every text, stays as it was, and the answer is 0
abbrev pub TextWritten : List ℕ → List ℕ → List ℕ → ℕ → Type 0
TextWritten text before after r =
    (131072 ≤ length before → (r ≡ length text) × (after ≡ text ++ drop r before)) × (length before < 131072 → (r ≡ 0) × (after ≡ before))
