use mathlib.Core.Path.{◌≡◌, refl, sym, ◌∙◌}
use mathlib.Core.Bool.{Bool, true, false, ◌&&◌, ◌||◌, not, false≢true}
use Prim.Native.Nat.{ℕ}
use native.Mathlib.Omega.{arith}
use lib.Dec.{eqb}
use lib.ListN.{get_or}
use borrow.Author.Count.{below_more}
use borrow.Author.Tests.{eq-eqb}
use Rattle.plan_packed.specs.Inner.Operands.{tag_of, slot_bits}
use Rattle.plan_packed.specs.Inner.Steps.{bit_of}
use Rattle.plan_scopes.proofs.Closing.{all_closed}
use Rattle.plan_scopes.proofs.all_bound.Goals as goal

both : (a b : Bool) → (a && b) ≡ true → (a ≡ true) × (b ≡ true)
both true b h = (refl, h)
both false b h = absurd (false≢true h)

-- a variable whose slot is bound
bound_there : (w m : ℕ) (x : Bool) → x ≡ (not (eqb (tag_of w) 1) || bit_of m (slot_bits w)) → x ≡ true → tag_of w ≡ 1 → bit_of m (slot_bits w) ≡ true
bound_there w m x e h k = sym (e ∙ rw (eq-eqb (tag_of w) 1 k)) ∙ h

pub offset_bounds-words-term : goal.offset_bounds-words-term
offset_bounds-words-term c = let f = c.requires.right.headed.few in omega arith

pub bounds-words-term : goal.bounds-words-term
bounds-words-term c = let f = c.requires.right.headed.few in omega arith

pub bounds-scopes-term : goal.bounds-scopes-term
bounds-scopes-term c = let f = c.requires.right.headed.few in omega arith

pub loop-term-preserved : goal.loop-term-preserved
loop-term-preserved c =
    let l = c.loop-term in
    let a = c.args in
    λ e.
    let h = both l.all c.bound-all.result e in
    below_more _ _ (l.invariant h.0)
    (bound_there (get_or a.words.now l.term 0) (get_or a.scopes.now l.term 0) _ c.bound-all.ensures h.1)

pub returns : goal.returns
returns c =
    let a = c.args in
    λ e. all_closed a.plan.now a.procedures a.count c.requires.right a.words.now c.requires.loaded a.scopes.now c.requires.terms_scoped c.requires.by_index
    (λ t h. c.loop-term.invariant e t (omega arith))
