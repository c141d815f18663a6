use mathlib.Core.Path.{◌≡◌, sym, ap, subst, ◌∙◌}
use mathlib.Core.Bool.{false, false≢true}
use mathlib.Core.Logic.{⊎_elim}
use Prim.Native.Nat.{ℕ, ◌<◌}
use native.Mathlib.Omega.{arith}
use borrow.Author.Rules.{rules}
use borrow.Author.Count.{below_more}
use lib.ListN.{get_or}
use Rattle.plan_packed.specs.Format.{tag_at, tag_count}
use Rattle.plan_packed.specs.Refusals.{wrong_call}
use Rattle.plan_packed.specs.Inner.Steps.{tag_in, tag_sort}
use Rattle.plan_packed.proofs.SortLaws.{tags_are, no_call}
use Rattle.plan_packed.proofs.NoteLaws.{note_fits}
use Rattle.plan_packed.proofs.RowLaws.{tagged, sort_is}
use Rattle.plan_naming.proofs.notes.all_fit.Goals as goal
use Rattle.plan_naming.proofs.notes.all_fit.Goals.{After-tag-tag, Else-notes-term, Joined-else-tag-eq-CALL}

pub loop-term-init : goal.loop-term-init
loop-term-init c = λ t h. absurd (omega arith)

pub offset_bounds-words-term : goal.offset_bounds-words-term
offset_bounds-words-term c = let f = c.requires.right.headed.few in omega arith

pub bounds-words-term : goal.bounds-words-term
bounds-words-term c = let f = c.requires.right.headed.few in omega arith

pub bounds-notes-term : goal.bounds-notes-term
bounds-notes-term c = let f = c.requires.right.headed.few in omega arith

-- and one of the table
small : (c : After-tag-tag) → c.tag-tag.result < tag_count
unfolding tag_in
small c =
    let a = c.args in
    subst (λ (k : ℕ). k < tag_count) (sym c.tag-tag.ensures)
    (tagged a.plan.now a.procedures a.count a.words.now c.requires.right c.requires.loaded c.loop-term.term)

pub number-requires : goal.number-requires
number-requires c = record { rows_value = c.requires.rows_value; tag_lt_tag_count = (small (goal.at.number-requires c).After-tag-tag, search rules) }

pub returns-then-notes-term : goal.returns-then-notes-term
returns-then-notes-term c = λ e. absurd (false≢true e)

pub wrong_list-requires : goal.wrong_list-requires
unfolding tag_in
wrong_list-requires c = record { right = c.requires.right; loaded = c.requires.loaded; term_lt_count = (c.loop-term-test.true, sym c.tag-tag.ensures ∙ c.if-tag-eq-CALL.true) }

pub returns-then-wrong_list : goal.returns-then-wrong_list
returns-then-wrong_list c = λ e. absurd (false≢true e)

-- the tag is the term's
tag_is_else_notes_term : (c : Else-notes-term)
    → c.tag-tag.result ≡ tag_at c.args.plan.now c.loop-term.term
unfolding tag_in
tag_is_else_notes_term c =
    let a = c.args in
    c.tag-tag.ensures ∙ tags_are a.plan.now a.count a.words.now c.requires.loaded c.loop-term.term
    c.loop-term-test.true

-- and one of the table
small_else_notes_term : (c : Else-notes-term) → c.tag-tag.result < tag_count
unfolding tag_in
small_else_notes_term c =
    let a = c.args in
    subst (λ (k : ℕ). k < tag_count) (sym c.tag-tag.ensures)
    (tagged a.plan.now a.procedures a.count a.words.now c.requires.right c.requires.loaded c.loop-term.term)

-- the note of the term is its sort
own-sort : (c : Else-notes-term)
    → get_or c.args.notes.now
    c.loop-term.term 0 ≡ tag_sort
    (tag_at c.args.plan.now
    c.loop-term.term)
own-sort c =
    c.if-notes-term.false ∙ c.number.ensures ∙ sort_is c.tag-tag.result (small_else_notes_term c) ∙ ap tag_sort (tag_is_else_notes_term c)

-- the tag is the term's
tag_is_joined_else_tag_eq_call : (c : Joined-else-tag-eq-CALL)
    → c.tag-tag.result ≡ tag_at c.args.plan.now c.loop-term.term
unfolding tag_in
tag_is_joined_else_tag_eq_call c =
    let a = c.args in
    c.tag-tag.ensures ∙ tags_are a.plan.now a.count a.words.now c.requires.loaded c.loop-term.term
    c.loop-term-test.true

-- it is no wrong call
right_call : (c : Joined-else-tag-eq-CALL)
    → wrong_call c.args.plan.now
    c.loop-term.term ≡ false
right_call c = ⊎_elim (λ w. sym w.wrong_list.ensures ∙ w.if-wrong_list.false) (λ e. no_call _ _ (λ q. e.if-tag-eq-CALL.false (tag_is_joined_else_tag_eq_call c ∙ q))) c.else-tag-eq-CALL.branch-raw

pub loop-term-preserved : goal.loop-term-preserved
loop-term-preserved c =
    let l = c.loop-term in
    let a = c.args in
    let r = c.requires.right in
    let f = r.headed.few in
    below_more _ _ l.invariant
    (note_fits a.plan.now a.count l.term a.notes.now r.headed.sized.terms_are (omega arith) c.requires.terms_noted
    (own-sort (goal.at.loop-term-preserved c).Else-notes-term)
    (right_call c))

pub returns : goal.returns
returns c = λ e t h. c.loop-term.invariant t (omega arith)
