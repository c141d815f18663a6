-- The examples come out: each list is the whole list of its plan and its bound. Assumes nothing.
use Prim.Native.Nat.{ℕ, zero, suc}
use mathlib.Core.Path.{◌≡◌, refl, subst as along}
use mathlib.Core.Bool.{true≢false}
use mathlib.Core.List.{List, [], ◌∷◌, map}
use mathlib.Core.Option.{some}
use lib.ListN.{get_elem?}
use Rattle.plan_packed.specs.Trees.{program_of}
use Rattle.listing.specs.WholeList.{WholeList}
use Rattle.listing.specs.Inner.CanFollow.{can_follow}
use Rattle.listing.specs.Examples.{Example, examples}
use Rattle.listing.proofs.All.{all}
use Rattle.listing.proofs.WholeList.{schedules, schedules_whole}

abbrev list_of : Example → List (List ℕ)
list_of e = schedules (program_of e.plan) e.bound

-- one theorem over all of them
computed : map list_of examples ≡ map (λ (e : Example). e.schedules) examples
unfolding examples program_of can_follow all
computed = refl

at_row : (l : List Example) → map list_of l ≡ map (λ (e : Example). e.schedules) l → (i : ℕ) (e : Example) → get_elem? l i ≡ some e → list_of e ≡ e.schedules
at_row [] q i e h = absurd (true≢false cc)
at_row (x ∷ l) q zero e h = cc
at_row (x ∷ l) q (suc i) e h = let r : map list_of l ≡ map (λ (e : Example). e.schedules) l = cc in at_row l r i e h

pub examples_come_out : (i : ℕ) (e : Example) → get_elem? examples i ≡ some e → WholeList (program_of e.plan) e.bound e.schedules
examples_come_out i e h = along (WholeList (program_of e.plan) e.bound) (at_row examples computed i e h) (schedules_whole (program_of e.plan) e.bound)
