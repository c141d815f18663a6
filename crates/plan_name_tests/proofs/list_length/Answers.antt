use mathlib.Core.Path.{◌≡◌, sym, ◌∙◌}
use native.Mathlib.Omega.{arith}
use Prim.Native.Nat.{suc, ◌+◌, ◌-◌}
use Rattle.plan_packed.specs.Format.{term_at}
use Rattle.plan_packed.specs.Refusals.{list_length}
use Rattle.plan_packed.proofs.ListLaws.{list_stop, list_step, rest_between, next_is, no_next}
use lib.ListN.{get_or}
use Rattle.plan_name_tests.proofs.list_length.Goals as goal

pub offset_bounds-words-term : goal.offset_bounds-words-term
offset_bounds-words-term c = let f = c.requires.right.headed.few in omega arith

pub bounds-words-term : goal.bounds-words-term
bounds-words-term c = let f = c.requires.right.headed.few in omega arith

pub returns-then-tag-ne-LIST : goal.returns-then-tag-ne-LIST
returns-then-tag-ne-LIST c =
    let b = c.args.plan.now in
    let l = c.loop-length in
    let n = no_next b l.term (get_or c.args.words.now l.term 0) (c.requires.loaded.each l.term l.invariant.0)
    (λ e. c.if-tag-ne-LIST.true (c.tag.ensures ∙ e)) in
    omega (arith, l.invariant.1, list_stop b (9 - l.length) l.term n)

pub loop-length-preserved : goal.loop-length-preserved
loop-length-preserved c =
    let a = c.args in
    let l = c.loop-length in
    let b = a.plan.now in
    let w = get_or a.words.now l.term 0 in
    let e = next_is b l.term w (c.requires.loaded.each l.term l.invariant.0) (sym c.tag.ensures ∙ c.if-tag-ne-LIST.false) in
    let next : c.second-term.result ≡ (term_at b l.term).value₂ = c.second-term.ensures ∙ e.1 in
    let k : 9 - l.length ≡ suc (9 - (l.length + 1)) = omega arith in
    let q : list_length b (9 - l.length) l.term ≡ suc (list_length b (9 - (l.length + 1)) (term_at b l.term).value₂) =
    rw k (list_step b (9 - (l.length + 1)) l.term e.0) in
    (rw next (rest_between b a.procedures a.count c.requires.right l.term l.invariant.0 e.0).1, rw next (omega (arith, q, l.invariant.1)))

pub returns : goal.returns
unfolding list_length
returns c =
    let l = c.loop-length in
    let z : 9 - l.length ≡ 0 = omega arith in
    let q : list_length c.args.plan.now (9 - l.length) l.term ≡ 0 = rw z in
    omega (arith, l.invariant.1, q)
