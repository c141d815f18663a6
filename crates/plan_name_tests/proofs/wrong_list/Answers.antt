-- `wrong_list`: a list counted to nine is as long as the parameters, or not.
use mathlib.Core.Path.{◌≡◌}
use native.Mathlib.Omega.{arith}
use lib.ListN.{get_or}
use Rattle.plan_packed.specs.Format.{tag_at}
use Rattle.plan_packed.specs.Inner.Steps.{word_at, tag_in}
use Rattle.plan_packed.proofs.Reading.{tag_was}
use Rattle.plan_packed.proofs.ListLaws.{list_below, callee_below, called}
use Rattle.plan_name_tests.proofs.wrong_list.Goals as goal
use Rattle.plan_name_tests.proofs.wrong_list.Goals.{Start}

-- its 40 bits
word_is : (s : Start) → get_or s.args.words.now s.args.term 0 ≡ word_at s.args.plan.now s.args.term
word_is s = s.requires.loaded.each s.args.term s.requires.term_lt_count.0

-- its tag
is_call : (s : Start) → tag_at s.args.plan.now s.args.term ≡ 8
unfolding tag_in
is_call s = tag_was s.args.plan.now s.args.term _ (word_is s) 8 s.requires.term_lt_count.1

pub offset_bounds-words-term : goal.offset_bounds-words-term
offset_bounds-words-term c = let f = c.requires.right.headed.few in omega arith

pub bounds-words-term : goal.bounds-words-term
bounds-words-term c = let f = c.requires.right.headed.few in omega arith

pub list_length-length-requires : goal.list_length-length-requires
list_length-length-requires c =
    let a = c.args in record { right = c.requires.right; loaded = c.requires.loaded; from_lt_count = rw c.list_of.ensures (list_below a.plan.now a.procedures a.count a.term c.requires.right c.requires.term_lt_count.0 _ (word_is (goal.at.list_length-length-requires c).Start) (is_call (goal.at.list_length-length-requires c).Start)) }

pub parameters-requires : goal.parameters-requires
parameters-requires c =
    let a = c.args in
    let q = callee_below a.plan.now a.procedures a.count a.term c.requires.right c.requires.term_lt_count.0 _ (word_is (goal.at.parameters-requires c).Start) (is_call (goal.at.parameters-requires c).Start) in
    let z = c.requires.right.headed.sized in
    rw c.procedure_of.ensures (omega arith, omega (arith, q, z))

pub returns : goal.returns
returns c =
    let a = c.args in
    called a.plan.now a.procedures a.count a.term c.requires.right c.requires.term_lt_count.0 _ (word_is (goal.at.returns c).Start) (is_call (goal.at.returns c).Start) _ _
    (rw c.list_of.ensures at c.list_length-length.ensures)
    (rw c.procedure_of.ensures at c.parameters.ensures)
