-- What the functions that draw are given and leave. For inner contracts; no reader of the entries' promise needs it. Assumes nothing.
use Rattle.std.specs.Prelude.{ℕ, ◌+◌, ◌*◌, ◌/◌, ◌<◌, ◌≤◌, ◌≡◌, List, length, get_or, Option, Some}
use Rattle.text.specs.Inner.Wrote.{Wrote}
use Rattle.text_diagram_elements.specs.declared.Race.{Race}

-- bytes were added, at most so many
pub record Drawn (most : ℕ) (before : List ℕ) (at : ℕ) (bytes after : List ℕ) (r : ℕ) : Type 0 where
  pub wrote : Wrote before at bytes after r
  pub short : r ≤ at + most

-- the ends of the first n arrows are indices of records
pub record ArrowsInside (starts ends : List ℕ) (n records : ℕ) : Type 0 where
  pub starts_there : n ≤ length starts
  pub ends_there : n ≤ length ends
  pub start_inside : (k : ℕ) → k < n → get_or starts k 0 < records
  pub end_inside : (k : ℕ) → k < n → get_or ends k 0 < records

-- both records of a race are among the records
pub record RaceInside (race : Option Race) (records : ℕ) : Type 0 where
  pub write_inside : (r : Race) → race ≡ Some r → r.write < records
  pub access_inside : (r : Race) → race ≡ Some r → r.access < records

-- two places of at most five digits
pub record Inside (x y u v : ℕ) : Type 0 where
  pub x_small : x < 100000
  pub y_small : y < 100000
  pub u_small : u < 100000
  pub v_small : v < 100000

-- two records of a log of so many bytes
pub record Ends (bytes i j : ℕ) : Type 0 where
  pub few : bytes ≤ 12288
  pub first_inside : i < bytes / 3
  pub second_inside : j < bytes / 3

-- what the whole picture is given: a log that is not too long, arrows and a race between its records, and an area that is long enough behind the text
pub record Room (log starts ends : List ℕ) (count : ℕ) (race : Option Race) (at area : ℕ) : Type 0 where
  pub few : length log ≤ 12288
  pub arrows : ArrowsInside starts ends count (length log / 3)
  pub between : RaceInside race (length log / 3)
  pub long : at + (1792 + 192 * (length log / 3) + 66 * count) ≤ area
