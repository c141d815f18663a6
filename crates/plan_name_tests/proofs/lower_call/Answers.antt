-- `lower_call`: by the tag, and by the list of a call.
use mathlib.Core.Path.{◌≡◌, sym, ap, ◌∙◌}
use mathlib.Core.Bool.{Bool, true, false, ◌&&◌, cond}
use Prim.Native.Nat.{ℕ}
use native.Mathlib.Omega.{arith}
use lib.Dec.{ltb}
use lib.ListN.{get_or}
use Rattle.plan_packed.specs.Inner.Operands.{tag_of}
use Rattle.plan_packed.specs.Inner.Steps.{word_at, tag_in, lower_if}
use Rattle.plan_packed.proofs.Reading.{tag_in_lem}
use Rattle.plan_packed.proofs.SortLaws.{no_call}
use Rattle.plan_name_tests.proofs.lower_call.Goals as goal
use Rattle.plan_name_tests.proofs.lower_call.Goals.{Start}

-- its 40 bits
word_is : (s : Start) → get_or s.args.words.now s.args.term 0 ≡ word_at s.args.plan.now s.args.term
word_is s = s.requires.loaded.each s.args.term s.requires.term_lt_count

-- the choice, by the test
chosen : (w v x : Bool) (term best : ℕ) → w ≡ v → (w && ltb term best) ≡ x → cond x term best ≡ lower_if v term best
chosen w v x term best e q = sym (ap (λ (y : Bool). cond y term best) (ap (λ (z : Bool). z && ltb term best) (sym e) ∙ q))

pub offset_bounds-words-term : goal.offset_bounds-words-term
offset_bounds-words-term c = let f = c.requires.right.headed.few in omega arith

pub bounds-words-term : goal.bounds-words-term
bounds-words-term c = let f = c.requires.right.headed.few in omega arith

pub returns-then-tag-ne-CALL : goal.returns-then-tag-ne-CALL
returns-then-tag-ne-CALL c =
    let b = c.args.plan.now in
    rw (no_call b c.args.term (λ q. c.if-tag-ne-CALL.true (c.tag.ensures ∙ ap tag_of (word_is (goal.at.returns-then-tag-ne-CALL c).Start) ∙ sym (tag_in_lem b c.args.term) ∙ q)))

pub wrong_list-requires : goal.wrong_list-requires
unfolding tag_in
wrong_list-requires c =
    record { right = c.requires.right; loaded = c.requires.loaded; term_lt_count = (c.requires.term_lt_count, sym c.tag.ensures ∙ c.if-tag-ne-CALL.false) }

pub returns-then-wrong_list-term : goal.returns-then-wrong_list-term
returns-then-wrong_list-term c = chosen _ _ true _ _ c.wrong_list.ensures c.if-wrong_list-term.true

pub returns-else-wrong_list-term : goal.returns-else-wrong_list-term
returns-else-wrong_list-term c = chosen _ _ false _ _ c.wrong_list.ensures c.if-wrong_list-term.false
