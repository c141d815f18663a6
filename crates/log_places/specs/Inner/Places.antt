-- Where a record is, and the numbers of the places that a log's records are at. No reader of the entries' promises needs it. Assumes nothing.
use Rattle.std.specs.Prelude.{ℕ, zero, suc, ◌+◌, ◌*◌, ◌<◌, ◌≤◌, ◌≡◌, cond, List, [], ◌∷◌, ltb, get_or, set, Result, Ok, Err}
use Rattle.log_records.specs.Packed.{record_at}
use Rattle.log_places.specs.declared.places.NoneLeft.{NoneLeft}

-- the thread of record i of a log in bytes
abbrev pub thread_at : List ℕ → ℕ → ℕ
thread_at b i = (record_at b i).thread

-- its place: an object with a field
abbrev pub place_at : List ℕ → ℕ → ℕ
place_at b i = (record_at b i).object * 32 + (record_at b i).field

-- so many numbers in a row, from the first on
unfoldable pub numbers_from : ℕ → ℕ → List ℕ
numbers_from first zero = []
numbers_from first (suc n) = first ∷ numbers_from (suc first) n

-- the numbers of all places and how many are given, by how many there can be: up to 255 those that are kept; with more each place has its own from the start
abbrev pub numbers_of : ℕ → List ℕ → List ℕ
numbers_of most kept = cond (ltb 255 most) (numbers_from 1 1024) kept

abbrev pub given_of : ℕ → ℕ → ℕ
given_of most given = cond (ltb 255 most) 1024 given

-- the numbers and how many are given after a record at a place, and the place's number: it has one, or it has the next, or all are given and none is left
pub data Numbered (numbers : List ℕ) (given place most : ℕ) : List ℕ → ℕ → Result ℕ NoneLeft → Type 0 where
  known : 0 < get_or numbers place 0 → Numbered numbers given place most numbers given (Ok (get_or numbers place 0))
  next : get_or numbers place 0 ≡ 0 → given < most → Numbered numbers given place most (set numbers place (given + 1)) (given + 1) (Ok (given + 1))
  full : {e : NoneLeft} → get_or numbers place 0 ≡ 0 → most ≤ given → Numbered numbers given place most numbers given (Err e)
