-- The scopes of terms, the slots that are bound at them, as they are handed from each term to its children: no reader of the entry's promise needs them.
-- Assumes nothing.
use Rattle.std.specs.Prelude.{ℕ, ◌-◌, ◌%◌, ◌^◌, ◌<◌, ◌≡◌, cond, List, [], ◌∷◌, eqb, length, get_or, set}
use Rattle.plan_packed.specs.Format
use Rattle.plan_packed.specs.Format.{parameters, root}
use Rattle.plan_packed.specs.Inner.Operands.{tag_of, slot_bits}
use Rattle.plan_packed.specs.Inner.Rows.{number_at, child_at}
use Rattle.plan_packed.specs.Inner.Steps.{with_slot, word_at, root_times, all_times}

-- a term that is handed a scope
pub record Handed : Type 0 where
  pub scope : ℕ
  pub index : ℕ

-- term i, handed scope m
abbrev pub handed : ℕ → ℕ → Handed
handed m i = record { scope = m; index = i }

-- what the 40 bits w of tag k, whose scope is m, hand to their second operand: a let, tag 5, its slot too; no slot is over 7
unfoldable pub inner_scope : ℕ → ℕ → ℕ → ℕ
unfolding with_slot
inner_scope m w k = cond (eqb k 5) (with_slot m (slot_bits w) % 256) m

-- a child of these numbers, handed scope m, and those after it, where there are any
abbrev pub handed_from : ℕ → ℕ → ℕ → ℕ → List Handed → List Handed
handed_from w m sort place rest = cond (eqb sort 0) [] (handed m (child_at place w) ∷ rest)

-- the children of the 40 bits w, whose scope is m, by the row of tag k
unfoldable pub handed_by_row : ℕ → ℕ → ℕ → List Handed
unfolding number_at inner_scope
handed_by_row m w k = handed_from w m (number_at k 4) (number_at k 5)
    (handed_from w (inner_scope m w k) (number_at k 6) (number_at k 7) (handed_from w m (number_at k 8) (number_at k 9) []))

-- these scopes handed on
unfoldable pub hand_all : List Handed → List ℕ → List ℕ
hand_all [] scopes = scopes
hand_all (h ∷ hs) scopes = hand_all hs (set scopes h.index h.scope)

-- each of them is such
abbrev pub Each : (Handed → Type 0) → List Handed → Type 0
Each P [] = Unit {0}
Each P (h ∷ hs) = P h × Each P hs

-- the scopes after the first n procedures: a root that is named once has its procedure's parameters
pub record RootsScoped (b : List ℕ) (n : ℕ) (scopes : List ℕ) : Type 0 where
  pub size : length scopes ≡ 1024
  pub roots : (p : ℕ) → p < n → root_times b n (root b p) ≡ 1 → get_or scopes (root b p) 0 ≡ 2 ^ parameters b p - 1

-- the scopes after the procedures and the first n terms: a child that is named once has what its parent hands it
pub record TermsScoped (b : List ℕ) (n : ℕ) (scopes : List ℕ) : Type 0 where
  pub size : length scopes ≡ 1024
  pub roots : (p : ℕ) → p < Format.procedures b → all_times b n (root b p) ≡ 1 → get_or scopes (root b p) 0 ≡ 2 ^ parameters b p - 1
  pub children : (t : ℕ) → t < n
      → Each (λ c. all_times b n c.index ≡ 1 → get_or scopes c.index 0 ≡ c.scope) (handed_by_row (get_or scopes t 0) (word_at b t) (tag_of (word_at b t)))
