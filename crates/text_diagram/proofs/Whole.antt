-- The parts of a picture, put together. Assumes nothing.
use Prim.Native.Nat.{ℕ}
use mathlib.Core.Path.{◌≡◌, ap₂}
use mathlib.Core.List.{List, ◌++◌}
use mathlib.Core.Option.{Option}
use lib.ListN.{length}
use Rattle.log_records.specs.Record.{Record}
use Rattle.text.specs.Text.{ascii}
use Rattle.text_diagram_elements.specs.Diagram.{lane_count, head_text, lane_texts, row_texts, arrow_texts, race_text, diagram_text}

-- the picture with so many lanes and rows
abbrev sized : List Record → List (ℕ × ℕ) → Option (ℕ × ℕ) → ℕ → ℕ → List ℕ
sized L arrows race lanes records =
    head_text lanes records ++ (lane_texts records lanes ++ (row_texts lanes race 0 L ++ (arrow_texts L arrows ++ (race_text L race ++ ascii "</svg>\n"))))

pub whole_is : (L : List Record) (arrows : List (ℕ × ℕ)) (race : Option (ℕ × ℕ)) (lanes records : ℕ) → lanes ≡ lane_count L → records ≡ length L
    → head_text lanes records ++ (lane_texts records lanes ++ (row_texts lanes race 0 L ++ (arrow_texts L arrows ++ (race_text L race ++ ascii "</svg>\n"))))
    ≡ diagram_text L arrows race
unfolding diagram_text
whole_is L arrows race lanes records e h = ap₂ (λ (l n : ℕ). sized L arrows race l n) e h
