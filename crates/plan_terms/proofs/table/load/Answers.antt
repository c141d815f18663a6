use mathlib.Core.Path.{◌≡◌}
use borrow.Author.Rules.{rules}
use native.Mathlib.Omega.{arith}
use mathlib.Core.Bool.{Bool, true, false}
use native.Mathlib.Numerals.{add-one}
use borrow.Author.Count.{below_more}
use Rattle.format.proofs.LowestLaws.{found, found_none}
use Rattle.plan_packed.specs.Refusals.{wrong_term}
use Rattle.plan_packed.specs.Trees.{node_at}
use Rattle.plan_packed.proofs.Reading.{term_is}
use Rattle.plan_packed.proofs.SingleTerm.{judged, unloaded, loaded_more}
use Rattle.plan_packed.proofs.NoteLaws.{no_terms_noted, term_noted}
use Rattle.plan_scopes.proofs.Roots.{no_terms_scoped}
use Rattle.plan_scopes.proofs.Terms.{term_scoped}
use Rattle.plan_terms.proofs.table.load.Goals as goal
use Rattle.plan_terms.proofs.table.load.Goals.{After-wrong_term}

pub loop-term-init : goal.loop-term-init
loop-term-init c =
    let b = c.args.plan.now in
    let p = c.requires.headed.sized.procedures_are in record {
      right = λ k h. absurd (omega arith);
      loaded = unloaded b _ c.requires.words_value;
      noted = no_terms_noted b c.args.procedures _ p c.requires.roots_noted;
      scoped = no_terms_scoped b c.args.procedures _ p c.requires.roots_scoped;
    }

pub word_at-word-requires : goal.word_at-word-requires
word_at-word-requires c =
    let h = c.requires.headed in
    let s = h.sized in
    (s.procedures_are, omega (arith, h), omega (arith, s))

pub bounds-scopes-term : goal.bounds-scopes-term
bounds-scopes-term c = let f = c.requires.headed.few in omega arith

pub wrong_term-requires : goal.wrong_term-requires
wrong_term-requires c = record { rows_value = c.requires.rows_value; count_bound = c.requires.headed.few }

-- whether the term is wrong
verdict : (c : After-wrong_term) (x : Bool) → c.wrong_term.result ≡ x
    → wrong_term c.args.plan.now
    c.loop-term.term ≡ x
verdict c x h =
    let a = c.args in
    judged a.plan.now a.procedures a.count c.loop-term.term c.word_at-word.result c.wrong_term.result x c.requires.headed.sized
    c.word_at-word.ensures c.wrong_term.ensures.value h

pub returns-then-wrong_term : goal.returns-then-wrong_term
returns-then-wrong_term c = record {
  lowest = found (wrong_term c.args.plan.now) _ _ c.loop-term-test.true (verdict (goal.at.returns-then-wrong_term c).After-wrong_term true c.if-wrong_term.true)
      c.loop-term.invariant.right;
  loaded = (λ q. absurd (omega arith));
  terms_noted = (λ q. absurd (omega arith));
  terms_scoped = λ q. absurd (omega arith);
}

pub offset_bounds-words-term : goal.offset_bounds-words-term
offset_bounds-words-term c = let f = c.requires.headed.few in omega arith

pub bounds-words-term : goal.bounds-words-term
bounds-words-term c = let f = c.requires.headed.few in omega arith

pub loop-term-preserved : goal.loop-term-preserved
unfolding node_at
loop-term-preserved c =
    let l = c.loop-term in
    let b = c.args.plan.now in
    let f = c.requires.headed.few in
    let right = verdict (goal.at.loop-term-preserved c).After-wrong_term false c.if-wrong_term.false in record {
      right = below_more _ _ l.invariant.right right;
      loaded = rw add-one (loaded_more b l.term l.words c.word_at-word.result (omega arith) c.word_at-word.ensures l.invariant.loaded);
      noted = rw add-one (term_noted b c.args.procedures c.args.count l.term l.notes _ c.requires.headed right
          (rw (c.word_at-word.ensures, ← term_is b l.term) at (c.wrong_term.ensures.notes_after c.if-wrong_term.false)) l.invariant.noted);
      scoped = rw add-one (term_scoped b c.args.procedures c.args.count l.term c.requires.headed c.loop-term-test.true
          (λ t q. below_more _ _ l.invariant.right right t (omega arith)) l.scopes _
          (rw c.word_at-word.ensures at (c.wrong_term.ensures.scopes_after c.if-wrong_term.false)) l.invariant.scoped);
    }

pub returns : goal.returns
returns c =
    let a = c.args in
    let l = c.loop-term in
    let e : l.term ≡ a.count = omega arith in record {
      lowest = found_none (wrong_term a.plan.now) _ _ (search rules) (search rules) (rw e at l.invariant.right);
      loaded = (λ q. rw e at l.invariant.loaded);
      terms_noted = (λ q. rw e at l.invariant.noted);
      terms_scoped = λ q. rw e at l.invariant.scoped;
    }
