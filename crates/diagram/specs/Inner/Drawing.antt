-- What the functions that draw are given and leave. For inner contracts; no reader of the entries' promise needs it. Assumes nothing.
use Rattle.std.specs.Prelude.{ℕ, ◌/◌, ◌≤◌, ◌≡◌, List, length, Option}
use Rattle.std.proofs.Math.Option.{none}
use Rattle.format.specs.Version.{Version, version_of}
use Rattle.log_records.specs.Packed.{log_of}
use Rattle.log_records.specs.Refusals.{log_refusal}
use Rattle.log_conflicts.specs.Conflicts.{Conflicting}
use Rattle.log_arrows.specs.Arrows.{AllArrows}
use Rattle.text.specs.Inner.Wrote.{Wrote}
use Rattle.text_diagram_elements.specs.declared.Race.{Race}
use Rattle.text_diagram_elements.specs.Diagram.{diagram_text, race_of}
use Rattle.diagram.specs.Picture.{Red, room_for}

-- neither the version nor the log is refused, and these two records are red
pub record Judged (version : ℕ) (b : List ℕ) (race : Option Race) : Type 0 where
  pub version_known : version ≤ 1
  pub passed : log_refusal b ≡ none
  pub red : Red (version_of version) (log_of b) (race_of race)

-- neither is refused, and the judge names this record
pub record NamedBy (version : ℕ) (b : List ℕ) (access : ℕ) : Type 0 where
  pub version_known : version ≤ 1
  pub passed : log_refusal b ≡ none
  pub conflicting : Conflicting (version_of version) (log_of b) access
  pub lowest : (i : ℕ) → Conflicting (version_of version) (log_of b) i → access ≤ i

-- these two records are red, and there is room for the text
pub record Roomy (version : ℕ) (b : List ℕ) (race : Option Race) (area : ℕ) : Type 0 where
  pub judged : Judged version b race
  pub room : room_for (length b / 3) ≤ area

-- the text was written, with the arrows that are needed
pub record WroteArrows (v : Version) (b : List ℕ) (race : Option Race) (before after : List ℕ) (r : ℕ) : Type 0 where
  pub arrows : List (ℕ × ℕ)
  pub all_arrows : AllArrows v (log_of b) arrows
  pub wrote : Wrote before 0 (diagram_text (log_of b) arrows (race_of race)) after r
