-- Notes, a byte to each place of a run: 16 times the lowest thread that can be picked there, and the lowest above the pick, or 8. For inner contracts; no
-- reader of the entries' promises needs it. Assumes nothing.
use Rattle.std.specs.Prelude.{ℕ, ◌+◌, ◌*◌, ◌/◌, ◌%◌, ◌≤◌, ◌<◌, ◌≡◌, List, length, get_or, take, drop, Option, Some, None}
use Rattle.run_outcome.specs.declared.Thread.{Thread}
use Rattle.run_open_threads.specs.Inner.Open.{open_at, LowestFrom}
use Rattle.run_place_notes.specs.declared.Departure.{Departure}

-- ---- one note

-- the note of a place, by its threads: the lowest that can be picked there is known
pub record NoteOf (threads : List Thread) (lowest pick r : ℕ) : Type 0 where
  pub higher : ℕ
  pub is : r ≡ lowest * 16 + higher
  pub above : LowestFrom (open_at threads) (pick % 8 + 1) higher

-- ---- the picks that are noted, into an area

-- notes of `made` picks, room for them in an area, which has the first `from`
pub record Puts (notes : List ℕ) (made : ℕ) (area : List ℕ) (from : ℕ) : Type 0 where
  pub noted : made ≤ length notes
  pub room : made ≤ length area
  pub behind : from ≤ made

-- the picks that are noted from `from` on, up to `made`, are in the area, which is otherwise as it was
pub record PutNoted (notes : List ℕ) (made from : ℕ) (before after : List ℕ) : Type 0 where
  pub kept : length after ≡ length before
  pub front : take from after ≡ take from before
  pub rest : drop made after ≡ drop made before
  pub are : (i : ℕ) → from ≤ i → i < made → get_or after i 0 ≡ get_or notes i 0 / 16

-- ---- the last higher thread

-- the last of some notes that has a higher thread, and that thread
pub record LastAt (notes : List ℕ) (count place pick : ℕ) : Type 0 where
  pub inside : place < count
  pub here : pick ≡ get_or notes place 0 % 16
  pub of_eight : pick < 8
  pub last : (i : ℕ) → place < i → i < count → 8 ≤ get_or notes i 0 % 16

-- that, or none has
abbrev pub LastDeparture : List ℕ → ℕ → Option Departure → Type 0
LastDeparture notes count (Some d) = LastAt notes count d.place d.pick
LastDeparture notes count None = (i : ℕ) → i < count → 8 ≤ get_or notes i 0 % 16
