-- What the judge answers (document 01, "The log and its order" and condition of acceptance 1; document 02, E2, E7 and E8). Assumes nothing.
use Rattle.std.specs.Prelude.{ℕ, ◌≤◌, ◌<◌, ◌≡◌, List}
use Rattle.std.proofs.Math.Option.{Option, some, none}
use Rattle.format.specs.Refusal.{Refusal}
use Rattle.format.specs.Version.{Version, version_of}
use Rattle.log_records.specs.Record.{Record}
use Rattle.log_records.specs.Packed.{log_of}
use Rattle.log_records.specs.Refusals.{log_refusal}
use Rattle.log_conflicts.specs.Conflicts.{Conflicting}

-- "the judge names the lowest index of an unordered access. [..] the answer equals that index, or none", unordered as E7 says it
pub data Names (v : Version) (L : List Record) : Option ℕ → Type 0 where
  names_first : {j : ℕ} → Conflicting v L j → ((i : ℕ) → Conflicting v L i → j ≤ i) → Names v L (some j)
  names_none : ((j : ℕ) → Conflicting v L j → ⊥) → Names v L none

-- an answer to a log in bytes: a refusal, or an index or none
pub data Judged : Type 0 where
  refused : Refusal → Judged
  named : Option ℕ → Judged

-- the answer to a log in bytes: refusals 11 and 12 first
pub data Answers (v : Version) (b : List ℕ) : Judged → Type 0 where
  refuses : {r : Refusal} → log_refusal b ≡ some r → Answers v b (refused r)
  judges : {a : Option ℕ} → log_refusal b ≡ none → Names v (log_of b) a → Answers v b (named a)

-- "The judge is told the version [..]. Turned away: 14 a version other than 0 or 1 given to the judge, before 11." (document 02, E8): the answer of the
-- judge that is told this version
pub data AnswersTold (version : ℕ) (b : List ℕ) : Judged → Type 0 where
  wrong_version : 1 < version → AnswersTold version b (refused (record { number = 14; place = 0 }))
  right_version : {a : Judged} → version ≤ 1 → Answers (version_of version) b a → AnswersTold version b a
