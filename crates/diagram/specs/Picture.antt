-- The picture of a log as the judge sees it, and what the entry `diagram` answers. Assumes nothing.
use Rattle.std.specs.Prelude.{ℕ, ◌+◌, ◌*◌, ◌≤◌, ◌<◌, ◌≡◌, List, length}
use Rattle.std.proofs.Math.Option.{Option, some, none}
use Rattle.format.specs.Area.{overwrite}
use Rattle.format.specs.Refusal.{Refusal}
use Rattle.format.specs.Version.{Version, version_of}
use Rattle.log_records.specs.Record.{Record}
use Rattle.log_records.specs.Packed.{record_count, log_of}
use Rattle.log_records.specs.Refusals.{log_refusal}
use Rattle.log_conflicts.specs.Conflicts.{Conflicting}
use Rattle.log_arrows.specs.Arrows.{AllArrows}
use Rattle.answers.specs.Answer.{Answer, value, refused}
use Rattle.text_diagram_elements.specs.Diagram.{diagram_text}

-- what is red: nothing where every two accesses that conflict are joined by a chain; else the record that the judge names, the lowest that an earlier access
-- conflicts with and no chain leads to from it, and the last of those earlier accesses
pub data Red (v : Version) (L : List Record) : Option (ℕ × ℕ) → Type 0 where
  ordered : ((j : ℕ) → Conflicting v L j → ⊥) → Red v L none
  unordered : {j : ℕ} (c : Conflicting v L j) → ((i : ℕ) → Conflicting v L i → j ≤ i) → ((d : Conflicting v L j) → d.index ≤ c.index)
      → Red v L (some (c.index, j))

-- the text of the picture: all arrows that are needed and no other, and what is red
pub record Picture (v : Version) (L : List Record) (text : List ℕ) : Type 0 where
  pub arrows : List (ℕ × ℕ)
  pub race : Option (ℕ × ℕ)
  pub all_arrows : AllArrows v L arrows
  pub red : Red v L race
  pub text_is : text ≡ diagram_text L arrows race

-- bytes that have room for every picture of so many records
abbrev pub room_for : ℕ → ℕ
room_for records = 1792 + 654 * records

-- the answer and the lent area afterwards: 14, 11 or 12 as the judge's; 27 for an area that has no room for every picture of so many records; else the text at
-- the area's start and its length. The other bytes stay, all of them where it is refused
pub data Pictured (version : ℕ) (b area : List ℕ) : Answer → List ℕ → Type 0 where
  wrong_version : 1 < version → Pictured version b area (refused (record { number = 14; place = 0 })) area
  refuses : {r : Refusal} → version ≤ 1 → log_refusal b ≡ some r → Pictured version b area (refused r) area
  short : version ≤ 1 → log_refusal b ≡ none → length area < room_for (record_count b)
      → Pictured version b area (refused (record { number = 27; place = 0 })) area
  shows : {text : List ℕ}
      → version ≤ 1 → log_refusal b ≡ none → room_for (record_count b) ≤ length area → Picture (version_of version) (log_of b) text
      → Pictured version b area (value (length text)) (overwrite text area)
