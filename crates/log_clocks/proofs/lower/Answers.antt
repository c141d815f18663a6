use Rattle.log_clocks.specs.Inner.Rows.{Row, clock_of, lower_of}
use native.Mathlib.Omega.{arith}
use native.Mathlib.Numerals.{add-one}
use mathlib.Core.Bool.{Bool, false, ◌||◌}
use mathlib.Core.Path.{◌≡◌, refl, ◌∙◌, ap}
use Prim.Native.Nat.{ℕ, ◌+◌}
use lib.Dec.{ltb}
use Rattle.log_clocks.proofs.lower.Goals as goal

none_yet : (own heard : Row) → false ≡ lower_of 0 own heard
unfolding lower_of
none_yet own heard = refl

one_more_lem : (own heard : Row) (n : ℕ) (found late : Bool) → found ≡ lower_of n own heard → late ≡ ltb (clock_of own n) (clock_of heard n)
    → (found || late) ≡ lower_of (n + 1) own heard
unfolding lower_of
one_more_lem own heard n found late e h = rw (add-one n, e, h)

at_eight : (own heard : Row) (n : ℕ) (found : Bool) → n ≡ 8 → found ≡ lower_of n own heard → found ≡ lower_of 8 own heard
at_eight own heard n found e h = h ∙ ap (λ (m : ℕ). lower_of m own heard) e

pub loop-thread-init : goal.loop-thread-init
loop-thread-init c = (omega arith, none_yet _ _)

pub less-found-requires : goal.less-found-requires
less-found-requires c = let p = c.requires in record { one_in = p.own_low _; other_in = p.heard_low _ }

pub loop-thread-preserved : goal.loop-thread-preserved
loop-thread-preserved c = (omega arith, one_more_lem _ _ _ _ _ c.loop-thread.invariant.1 c.less-found.ensures)

pub returns : goal.returns
returns c = at_eight _ _ _ _ (omega arith) c.loop-thread.invariant.1
