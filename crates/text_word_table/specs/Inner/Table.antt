-- Words in one row of bytes. For inner contracts; no reader of the entries' promise needs it. Assumes nothing.
use Rattle.std.specs.Prelude.{ℕ, ◌+◌, ◌-◌, ◌≤◌, ◌<◌, ◌≡◌, List, [], ◌∷◌, ◌++◌, length, get_or, take, drop}

-- the words one behind the other
unfoldable pub joined : List (List ℕ) → List ℕ
joined [] = []
joined (w ∷ ws) = w ++ joined ws

-- where each word begins, and where the last ends, if the first begins at a place
unfoldable pub starts_from : ℕ → List (List ℕ) → List ℕ
starts_from at [] = at ∷ []
starts_from at (w ∷ ws) = at ∷ starts_from (at + length w) ws

-- the bytes and the beginnings are those of these words
pub record Table (ws : List (List ℕ)) (bytes starts : List ℕ) : Type 0 where
  pub bytes_are : bytes ≡ joined ws
  pub starts_are : starts ≡ starts_from 0 ws

-- the bytes from one beginning to the next
abbrev pub word_at : List ℕ → List ℕ → ℕ → List ℕ
word_at bytes starts n = take (get_or starts (n + 1) 0 - get_or starts n 0) (drop (get_or starts n 0) bytes)

-- a word of the table, and an area that has room for it
pub record Room (bytes starts : List ℕ) (n at : ℕ) (area : List ℕ) : Type 0 where
  pub inside : n + 1 < length starts
  pub ordered : get_or starts n 0 ≤ get_or starts (n + 1) 0
  pub within : get_or starts (n + 1) 0 ≤ length bytes
  pub room : at + length (word_at bytes starts n) ≤ length area
