-- `make` meets its contract. Assumes nothing.
use Rattle.plan_parser.proofs.MakeLaws.{word_fits, makes, count_known}
use native.Mathlib.Omega.{arith}
use Rattle.plan_parser.proofs.terms.make.Goals as goal

pub operand-first-requires : goal.operand-first-requires
operand-first-requires c = let k = count_known _ _ _ _ _ c.requires _ c.operand_count-count.ensures in let f = c.requires.few
    in (omega arith, omega arith)

pub operand-second-requires : goal.operand-second-requires
operand-second-requires c = let k = count_known _ _ _ _ _ c.requires _
    c.operand_count-count.ensures in let e = c.less.ensures in let f = c.requires.few
    in (omega arith, omega arith)

pub operand-third-requires : goal.operand-third-requires
operand-third-requires c = let k = count_known _ _ _ _ _ c.requires _
    c.operand_count-count.ensures in let e = c.less-2.ensures in let f = c.requires.few in (omega arith, omega arith)

pub overflow_sub-place : goal.overflow_sub-place
overflow_sub-place c = let s = c.requires.some_left in omega arith

pub word-requires : goal.word-requires
word-requires c = word_fits _ _ _ _ _ c.requires _ _ _ _ _ _
    c.operand_count-count.ensures c.less.ensures
    c.less-2.ensures c.operand-first.ensures c.operand-second.ensures
    c.operand-third.ensures

pub bounds-words-place : goal.bounds-words-place
bounds-words-place c = let s = c.requires.some_left in let t = c.requires.few_left in omega arith

pub overflow_sub-rest : goal.overflow_sub-rest
overflow_sub-rest c = let k = count_known _ _ _ _ _ c.requires _
    c.operand_count-count.ensures in omega arith

pub bounds-values-rest : goal.bounds-values-rest
bounds-values-rest c = let k = count_known _ _ _ _ _ c.requires _
    c.operand_count-count.ensures in let f = c.requires.few in omega arith

pub returns : goal.returns
returns c = makes _ _ _ _ _ c.requires _ _ _ _ _ _
    c.operand_count-count.ensures
    c.less.ensures c.less-2.ensures
    c.operand-first.ensures c.operand-second.ensures
    c.operand-third.ensures _ c.word.ensures
