use mathlib.Core.Path.{◌≡◌}
use native.Mathlib.Omega.{arith}
use native.Mathlib.Numerals.{add-one}
use Rattle.plan_packed.proofs.SortLaws.{no_faults, one_term, all_faults}
use Rattle.plan_packed.proofs.NameLaws.{no_terms, term_step}
use Rattle.plan_packed.proofs.RowLaws.{tagged}
use Rattle.plan_naming.proofs.name_all.Goals as goal

pub name_roots-best-requires : goal.name_roots-best-requires
name_roots-best-requires c = record { right = c.requires.right; loaded = c.requires.loaded; times_value = c.requires.times_value; rows_value = c.requires.rows_value }

pub loop-term-init : goal.loop-term-init
loop-term-init c =
    let a = c.args in
    let b = a.plan.now in
    let r = c.requires.right in
    let d = c.requires.loaded in
    let e = r.headed.sized.procedures_are in
    (no_faults b a.procedures a.count _ e c.name_roots-best.ensures.lowest, no_terms b a.procedures _ e c.name_roots-best.ensures.counted)

pub name_children-least-requires : goal.name_children-least-requires
name_children-least-requires c =
    let a = c.args in
    let b = a.plan.now in
    let r = c.requires.right in
    let d = c.requires.loaded in
    let f = r.headed.few in record { term_bound = omega arith; rows_value = c.requires.rows_value; tagged = tagged b a.procedures a.count a.words.now r d }

pub lower_call-best-requires : goal.lower_call-best-requires
lower_call-best-requires c =
    let a = c.args in
    let b = a.plan.now in
    let r = c.requires.right in
    let d = c.requires.loaded in record { right = r; loaded = d; term_lt_count = c.loop-term-test.true }

pub loop-term-preserved : goal.loop-term-preserved
loop-term-preserved c =
    let a = c.args in
    let b = a.plan.now in
    let r = c.requires.right in
    let d = c.requires.loaded in
    let l = c.loop-term in
    let h = c.loop-term-test.true in
    let right = r.terms_right l.term h in
    let k = c.name_children-least in (
      rw add-one
          (one_term b a.procedures l.term a.count a.words.now l.best k.result c.lower_call-best.result d r.headed.sized right h
          k.ensures.value c.lower_call-best.ensures l.invariant.0),
      rw add-one (term_step b a.procedures a.count l.term a.words.now l.times _ d r.headed right h k.ensures.times_after l.invariant.1),
    )

pub returns : goal.returns
returns c =
    let a = c.args in
    let b = a.plan.now in
    let r = c.requires.right in
    let d = c.requires.loaded in
    let l = c.loop-term in
    let e : l.term ≡ a.count = omega arith in record { lowest = all_faults b a.count l.best r.headed.sized.terms_are (rw e at l.invariant.0); counted = rw e at l.invariant.1 }
