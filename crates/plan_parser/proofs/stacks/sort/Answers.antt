-- `sort` meets its contract. Assumes nothing.
use mathlib.Core.Path.{◌∙◌, ap}
use Rattle.plan_packed.specs.Inner.Operands.{tag_of}
use Rattle.plan_parser.proofs.StackLaws.{number_sort, first_sort, second_sort, third_sort, last_sort}
use borrow.Author.Rules.{rules}
use Rattle.plan_parser.proofs.stacks.sort.Goals as goal

pub returns-then-value-gt1023 : goal.returns-then-value-gt1023
returns-then-value-gt1023 c = number_sort _ _ c.if-value-gt1023.true

pub returns-then-tag-lt12 : goal.returns-then-tag-lt12
returns-then-tag-lt12 c = first_sort _ _ _ (search rules) (c.tag-tag.ensures ∙ ap tag_of c.word.ensures) (search rules)

pub returns-then-tag-lt16 : goal.returns-then-tag-lt16
returns-then-tag-lt16 c = second_sort _ _ _ (search rules) (c.tag-tag.ensures ∙ ap tag_of c.word.ensures) (search rules)
    (search rules)

pub returns-then-tag-lt18 : goal.returns-then-tag-lt18
returns-then-tag-lt18 c = third_sort _ _ _ (search rules) (c.tag-tag.ensures ∙ ap tag_of c.word.ensures)
    (search rules) (search rules)

pub returns : goal.returns
returns c = last_sort _ _ _ (search rules) (c.tag-tag.ensures ∙ ap tag_of c.word.ensures)
    (search rules)
