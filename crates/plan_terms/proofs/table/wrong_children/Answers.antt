-- `wrong_children`: one child after the other, as far as there are any.
use mathlib.Core.Path.{◌≡◌, refl, sym, ap, ◌∙◌}
use mathlib.Core.Bool.{Bool, true, false, ◌&&◌, ◌||◌, not, or-false, true≢false}
use Prim.Native.Nat.{ℕ}
use lib.Dec.{eqb}
use borrow.Author.Tests.{eq-eqb, ne_eqb}
use Rattle.plan_packed.specs.Inner.Rows.{number_at, child_at, wrong_terms}
use Rattle.plan_packed.specs.Inner.Steps.{outside, note_all}
use Rattle.plan_scopes.specs.Inner.Scopes.{hand_all}
use Rattle.plan_packed.proofs.NoteLaws.{note_more}
use Rattle.plan_packed.proofs.RowLaws.{no_child, one_child, two_children, three_children}
use Rattle.plan_scopes.proofs.Handing.{hand_more, hands_nothing, hands_one, hands_two, hands_three}
use Rattle.plan_terms.proofs.table.wrong_children.Goals as goal
use Rattle.plan_terms.proofs.table.wrong_children.Goals.{After-wrong_child, After-wrong_child-2, Else-first-eq0, Else-second-eq0, Else-third-eq0}

-- the last of three
last_of_lem : (s₁ s₂ s₃ : ℕ) (x y z : Bool) → (s₁ ≡ 0 → ⊥) → x ≡ false → (s₂ ≡ 0 → ⊥) → y ≡ false → (s₃ ≡ 0 → ⊥)
    → z ≡ (not (eqb s₁ 0) && (x || (not (eqb s₂ 0) && (y || (not (eqb s₃ 0) && (z || false))))))
last_of_lem s₁ s₂ s₃ x y z a e b f d = rw (ne_eqb s₁ 0 a, e, ne_eqb s₂ 0 b, f, ne_eqb s₃ 0 d) (sym (or-false z))

-- the test of a child, by its place
seen : (n t v u : ℕ) (r x : Bool) → v ≡ u → r ≡ outside n t v → r ≡ x → outside n t u ≡ x
seen n t v u r x e q h = ap (outside n t) (sym e) ∙ sym q ∙ h

-- ---- where the first child is seen, and the others

some₁ : (c : Else-first-eq0) → number_at c.args.tag 4 ≡ 0 → ⊥
some₁ c e = c.if-first-eq0.false (c.number-first.ensures ∙ e)

seen₁ : (c : After-wrong_child) (x : Bool) → c.wrong_child.result ≡ x
    → outside c.args.count c.args.term
    (child_at (number_at c.args.tag 5) c.args.word) ≡ x
seen₁ c x h = seen _ _ _ _ _ x c.child-child.ensures c.wrong_child.ensures.value h

some₂ : (c : Else-second-eq0) → number_at c.args.tag 6 ≡ 0 → ⊥
some₂ c e = c.if-second-eq0.false (c.number-second.ensures ∙ e)

seen₂ : (c : After-wrong_child-2) (x : Bool) → c.wrong_child-2.result ≡ x
    → outside c.args.count
    c.args.term
    (child_at (number_at c.args.tag 7)
    c.args.word) ≡ x
seen₂ c x h = seen _ _ _ _ _ x c.child-child-2.ensures c.wrong_child-2.ensures.value h

some₃ : (c : Else-third-eq0)
    → number_at c.args.tag 8 ≡ 0 → ⊥
some₃ c e = c.if-third-eq0.false (c.number-third.ensures ∙ e)

pub returns-then-first-eq0 : goal.returns-then-first-eq0
unfolding wrong_terms note_all hand_all
returns-then-first-eq0 c =
    let a = c.args in
    let e = sym c.number-first.ensures ∙ c.if-first-eq0.true in record { value = simp (eq-eqb _ _ e); notes_after = (λ q. rw (no_child a.word a.tag e) refl); scopes_after = λ q. rw (hands_nothing a.scope a.word a.tag e) refl }

pub returns-then-wrong_child : goal.returns-then-wrong_child
unfolding wrong_terms
returns-then-wrong_child c = record { value = simp (ne_eqb _ _ (some₁ (goal.at.returns-then-wrong_child c).Else-first-eq0), seen₁ (goal.at.returns-then-wrong_child c).After-wrong_child true c.if-wrong_child.true); notes_after = (λ q. absurd (true≢false q)); scopes_after = λ q. absurd (true≢false q) }

pub returns-then-second-eq0 : goal.returns-then-second-eq0
unfolding wrong_terms
returns-then-second-eq0 c =
    let a = c.args in
    let s = some₁ (goal.at.returns-then-second-eq0 c).Else-first-eq0 in
    let x = c.if-wrong_child.false in
    let n₁ = rw (c.number-first.ensures, c.child-child.ensures) at (c.wrong_child.ensures.notes_after x) in
    let h₁ = rw c.child-child.ensures at (c.wrong_child.ensures.scopes_after x) in
    let e = sym c.number-second.ensures ∙ c.if-second-eq0.true in record { value = simp (ne_eqb _ _ s, seen₁ (goal.at.returns-then-second-eq0 c).After-wrong_child false x, eq-eqb _ _ e); notes_after = (λ q. rw (one_child a.word a.tag s e) n₁); scopes_after = λ q. rw (hands_one a.scope a.word a.tag s e) h₁ }

pub wrong_child-requires-2 : goal.wrong_child-requires-2
wrong_child-requires-2 c = c.requires.2

pub returns-then-wrong_child-2 : goal.returns-then-wrong_child-2
unfolding wrong_terms
returns-then-wrong_child-2 c = record {
  value = simp (
    ne_eqb _ _ (some₁ (goal.at.returns-then-wrong_child-2 c).Else-first-eq0),
    seen₁ (goal.at.returns-then-wrong_child-2 c).After-wrong_child false c.if-wrong_child.false,
    ne_eqb _ _ (some₂ (goal.at.returns-then-wrong_child-2 c).Else-second-eq0),
    seen₂ (goal.at.returns-then-wrong_child-2 c).After-wrong_child-2 true c.if-wrong_child-2.true,
  );
  notes_after = (λ q. absurd (true≢false q));
  scopes_after = λ q. absurd (true≢false q);
}

pub returns-then-third-eq0 : goal.returns-then-third-eq0
unfolding wrong_terms
returns-then-third-eq0 c =
    let a = c.args in
    let s = some₁ (goal.at.returns-then-third-eq0 c).Else-first-eq0 in
    let x = c.if-wrong_child.false in
    let y = c.if-wrong_child-2.false in
    let n₁ = rw (c.number-first.ensures, c.child-child.ensures) at (c.wrong_child.ensures.notes_after x) in
    let h₁ = rw c.child-child.ensures at (c.wrong_child.ensures.scopes_after x) in
    let n₂ = rw (c.number-second.ensures, c.child-child-2.ensures) at (c.wrong_child-2.ensures.notes_after y) in
    let h₂ = rw (c.inner-inner.ensures, c.child-child-2.ensures) at (c.wrong_child-2.ensures.scopes_after y) in
    let e = sym c.number-third.ensures ∙ c.if-third-eq0.true in record { value = simp (ne_eqb _ _ s, seen₁ (goal.at.returns-then-third-eq0 c).After-wrong_child false x, ne_eqb _ _ (some₂ (goal.at.returns-then-third-eq0 c).Else-second-eq0), seen₂ (goal.at.returns-then-third-eq0 c).After-wrong_child-2 false y, eq-eqb _ _ e); notes_after = (λ q. rw (two_children a.word a.tag s (some₂ (goal.at.returns-then-third-eq0 c).Else-second-eq0) e) (note_more _ _ _ _ _ n₁ n₂)); scopes_after = λ q. rw (hands_two a.scope a.word a.tag s (some₂ (goal.at.returns-then-third-eq0 c).Else-second-eq0) e) (hand_more _ _ _ _ _ h₁ h₂) }

pub wrong_child-requires-3 : goal.wrong_child-requires-3
wrong_child-requires-3 c =
    c.requires.2

pub returns : goal.returns
unfolding wrong_terms
returns c =
    let a = c.args in
    let s = some₁ (goal.at.returns c).Else-first-eq0 in
    let x = c.if-wrong_child.false in
    let y = c.if-wrong_child-2.false in
    let n₁ = rw (c.number-first.ensures, c.child-child.ensures) at (c.wrong_child.ensures.notes_after x) in
    let h₁ = rw c.child-child.ensures at (c.wrong_child.ensures.scopes_after x) in
    let n₂ = rw (c.number-second.ensures, c.child-child-2.ensures) at (c.wrong_child-2.ensures.notes_after y) in
    let h₂ = rw (c.inner-inner.ensures, c.child-child-2.ensures) at (c.wrong_child-2.ensures.scopes_after y) in
    let k = c.child-child-3.ensures in record {
      value = c.wrong_child-3.ensures.value ∙ ap (outside a.count a.term) k
          ∙ last_of_lem _ _ _ _ _ _ s (seen₁ (goal.at.returns c).After-wrong_child false x) (some₂ (goal.at.returns c).Else-second-eq0) (seen₂ (goal.at.returns c).After-wrong_child-2 false y) (some₃ (goal.at.returns c).Else-third-eq0);
      notes_after = (λ q. rw (three_children a.word a.tag s (some₂ (goal.at.returns c).Else-second-eq0) (some₃ (goal.at.returns c).Else-third-eq0))
          (note_more _ _ _ _ _ n₁ (note_more _ _ _ _ _ n₂ (rw (c.number-third.ensures, k) at (c.wrong_child-3.ensures.notes_after q)))));
      scopes_after = λ q. rw (hands_three a.scope a.word a.tag s (some₂ (goal.at.returns c).Else-second-eq0) (some₃ (goal.at.returns c).Else-third-eq0))
          (hand_more _ _ _ _ _ h₁ (hand_more _ _ _ _ _ h₂ (rw k at (c.wrong_child-3.ensures.scopes_after q))));
    }
