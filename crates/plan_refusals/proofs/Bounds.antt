-- The number and the place of a refusal are small where those of its checks are. Assumes nothing.
use native.Mathlib.Omega.{arith}
use mathlib.Core.Path.{◌≡◌, refl}
use mathlib.Core.List.{List, [], ◌∷◌}
use mathlib.Core.Option.{Option, some, none}
use Rattle.format.specs.Refusal.{Refusal, Check, or_else, first_refusal}
use Rattle.format.proofs.RefusalLaws.{First, here, later, some_is_first}
use Rattle.plan_refusals.specs.Inner.Small.{Small, SmallRefusal, SmallCheck}

-- every check has a small number, and places that are few
abbrev pub AllSmall : List Check → Type 0
AllSmall [] = Unit {0}
AllSmall (c ∷ cs) = Small c.number c.places × AllSmall cs

small_first : {cs : List Check} {r : Refusal} → AllSmall cs → First cs r → SmallRefusal r
small_first w (here h) = (w.0.0, let i = h.inside in omega (arith, w.0.1))
small_first w (later p f) = small_first w.1 f

-- the answer to checks, by each refusal that it can be
pub small_by : (cs : List Check) → ((r : Refusal) → First cs r → SmallRefusal r) → SmallCheck (first_refusal cs)
small_by cs h = go (first_refusal cs) refl
  where
    go : (o : Option Refusal) → first_refusal cs ≡ o → SmallCheck o
    go none e = tt
    go (some r) e = h r ((some_is_first cs r).0 e)

pub small_checks : (cs : List Check) → AllSmall cs → SmallCheck (first_refusal cs)
small_checks cs w = small_by cs (λ r f. small_first w f)

-- the answer to two stages
pub small_stages : (x y : Option Refusal) → SmallCheck x → SmallCheck y → SmallCheck (or_else x y)
unfolding or_else
small_stages none y a b = b
small_stages (some r) y a b = a
