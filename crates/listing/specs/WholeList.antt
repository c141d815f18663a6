-- The list as a list: begun with the first schedule, gone on with by the following one, until it is over (document 02, E11). Assumes nothing.
use Rattle.std.specs.Prelude.{ℕ, ◌<◌, ◌≡◌, List, [], ◌∷◌}
use Rattle.std.proofs.Math.Option.{some}
use Rattle.std.proofs.Math.ListN.{get_elem?}
use Rattle.plan_packed.specs.Syntax.{Program}
use Rattle.listing.specs.Order.{Before}
use Rattle.listing.specs.Listed.{Listed, First, Following, Over}

module _ (g : Program) (n : ℕ) where
  -- what comes after a schedule, one by one, until "the list is over"
  pub data GoesOn : List ℕ → List (List ℕ) → Type 0 where
    OVER : {ps : List ℕ} → Over g n ps → GoesOn ps []
    NEXT : {ps qs : List ℕ} {L : List (List ℕ)} → Following g n ps qs → GoesOn qs L → GoesOn ps (qs ∷ L)

  -- all that comes, from the first on: there is a first, so it is never empty
  pub data Begins : List (List ℕ) → Type 0 where
    FIRST : {qs : List ℕ} {L : List (List ℕ)} → First g n qs → GoesOn qs L → Begins (qs ∷ L)

  -- what is claimed of it
  pub record WholeList (L : List (List ℕ)) : Type 0 where
    pub begins : Begins L
    -- "list each schedule": every listed one is there
    pub each : (ps : List ℕ) → Listed g n ps → (i : ℕ) × (get_elem? L i ≡ some ps)
    -- and no other
    pub listed : (i : ℕ) (ps : List ℕ) → get_elem? L i ≡ some ps → Listed g n ps
    -- "The order is dictionary order by thread number"
    pub in_order : (i j : ℕ) (ps qs : List ℕ) → i < j → get_elem? L i ≡ some ps → get_elem? L j ≡ some qs → Before ps qs
    -- "each once"
    pub once : (i j : ℕ) (ps : List ℕ) → get_elem? L i ≡ some ps → get_elem? L j ≡ some ps → i ≡ j
