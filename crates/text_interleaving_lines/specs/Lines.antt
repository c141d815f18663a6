-- All interleavings of a short plan as text (document 02, E11): a line to each, and a last line. Assumes nothing.
use Rattle.std.specs.Prelude.{ℕ, ◌≤◌, ◌<◌, ◌≡◌, List, [], ◌∷◌, ◌++◌, length, take}
use Rattle.std.proofs.Math.Option.{some, none}
use Rattle.format.specs.Refusal.{Refusal}
use Rattle.plan_packed.specs.Trees.{program_of}
use Rattle.text.specs.Text.{ascii}
use Rattle.text_phrases.specs.Phrase.{phrase}
use Rattle.text_refusal_lines.specs.Lines.{refusal_lines}
use Rattle.text_inputs.specs.Schedules.{digit_line}
use Rattle.listing.specs.WholeList.{WholeList}
use Rattle.interleavings.specs.Count.{count_refused}

-- a line of digits to each schedule; that of one without picks is empty
unfoldable pub schedule_lines : List (List ℕ) → List ℕ
unfolding digit_line
schedule_lines [] = []
schedule_lines (ps ∷ L) = digit_line ps ++ schedule_lines L

-- how many there are
unfoldable pub count_line : ℕ → List ℕ
unfolding phrase
count_line n = phrase "interleavings: " n ++ (10 ∷ [])

-- that there are more
unfoldable pub more_line : List ℕ
unfolding ascii
more_line = ascii "interleavings: more than 8192, of which these are the first" ++ (10 ∷ [])

-- refusals 1 to 7 and 18; or "each schedule", in their order, and how many; of a list of more than 8,192 the first 8,192, and that there are more
pub data InterleavingsText (plan : List ℕ) (n : ℕ) : List ℕ → Type 0 where
  refuses : {r : Refusal} → count_refused plan n ≡ some r → InterleavingsText plan n (refusal_lines r)
  all : {L : List (List ℕ)} → count_refused plan n ≡ none → WholeList (program_of plan) n L → length L ≤ 8192
      → InterleavingsText plan n (schedule_lines L ++ count_line (length L))
  first : {L : List (List ℕ)} → count_refused plan n ≡ none → WholeList (program_of plan) n L → 8192 < length L
      → InterleavingsText plan n (schedule_lines (take 8192 L) ++ more_line)
