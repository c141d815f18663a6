-- The arrows that a picture of a log needs. Assumes nothing.
use Rattle.std.specs.Prelude.{ℕ, zero, suc, ◌<◌, ◌≤◌, ◌≡◌, List, [], ◌∷◌, ◌++◌, length, get_or}
use Rattle.format.specs.Version.{Version}
use Rattle.log_records.specs.Record.{Record}
use Rattle.log_order.specs.Chains.{At, Linked, Chain}

-- "an arrow for each fork, join, release-acquire and volatile pair": a pair of records of two threads
pub record Arrow (v : Version) (L : List Record) (i j : ℕ) : Type 0 where
  pub linked : Linked v L i j
  pub two_threads : linked.earlier.thread ≡ linked.later.thread → ⊥

-- "that is needed (no arrow that others already imply)": no record lies on chains between the two
pub record Needed (v : Version) (L : List Record) (i j : ℕ) : Type 0 where
  pub arrow : Arrow v L i j
  pub none_between : (k : ℕ) → Chain v L i k → Chain v L k j → ⊥

-- what a picture with these arrows shows: a way from record i to record j along a thread's line, along a needed arrow, or along one after the other
pub data Shown (v : Version) (L : List Record) : ℕ → ℕ → Type 0 where
  line : {i j : ℕ} {r s : Record} → At L i r → At L j s → r.thread ≡ s.thread → i < j → Shown v L i j
  arrow : {i j : ℕ} → Needed v L i j → Shown v L i j
  on : {i j k : ℕ} → Shown v L i j → Shown v L j k → Shown v L i k

-- the arrow from i to j is one of a list
pub data Among (i j : ℕ) : List (ℕ × ℕ) → Type 0 where
  here : {x : ℕ × ℕ} {rest : List (ℕ × ℕ)} → x.0 ≡ i → x.1 ≡ j → Among i j (x ∷ rest)
  further : {x : ℕ × ℕ} {rest : List (ℕ × ℕ)} → Among i j rest → Among i j (x ∷ rest)

-- an arrow comes before another: by the record that it leads to, then by the thread of the record that it leads from
pub data Before (L : List Record) (i j i' j' : ℕ) : Type 0 where
  by_record : j < j' → Before L i j i' j'
  by_thread : {r r' : Record} → j ≡ j' → At L i r → At L i' r' → r.thread < r'.thread → Before L i j i' j'

-- each arrow of a list comes before those after it, so that there is none twice
pub data Ordered (L : List Record) : List (ℕ × ℕ) → Type 0 where
  none : Ordered L []
  next : {x : ℕ × ℕ} {rest : List (ℕ × ℕ)} → ((i j : ℕ) → Among i j rest → Before L x.0 x.1 i j) → Ordered L rest → Ordered L (x ∷ rest)

-- the list of all arrows that are needed, in their order
pub record AllArrows (v : Version) (L : List Record) (arrows : List (ℕ × ℕ)) : Type 0 where
  pub sound : (i j : ℕ) → Among i j arrows → Needed v L i j
  pub whole : (i j : ℕ) → Needed v L i j → Among i j arrows
  pub ordered : Ordered L arrows

-- the arrows that two areas hold: arrow k leads from entry k of the one to entry k of the other
abbrev pub pairs : ℕ → List ℕ → List ℕ → List (ℕ × ℕ)
pairs zero from to = []
pairs (suc n) from to = pairs n from to ++ (get_or from n 0, get_or to n 0) ∷ []

-- two areas have room for n arrows
pub record Room (n : ℕ) (from to : List ℕ) : Type 0 where
  pub from_room : n ≤ length from
  pub to_room : n ≤ length to
