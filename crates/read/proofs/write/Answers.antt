-- `write` meets its contract. Assumes nothing.
use mathlib.Core.Path.{refl, sym, ap, ◌∙◌}
use Rattle.std.specs.Prelude.{Ok}
use mathlib.Core.Logic.{inl, inr}
use lib.ListN.{length}
use Rattle.format.proofs.AreaLaws.{overwrite_length}
use Rattle.read.proofs.Answers.{left_few, plan_length_lem, writable}
use borrow.Author.Rules.{rules}
use Rattle.read.proofs.write.Goals as goal

pub overflow_sub-terms : goal.overflow_sub-terms
overflow_sub-terms c = let p = c.requires in search (rules, left_few p)

pub overflow_mul-length : goal.overflow_mul-length
overflow_mul-length c = let p = c.requires.few_procedures in search rules

pub overflow_add-length : goal.overflow_add-length
overflow_add-length c = let p = c.requires.few_procedures in search rules

pub overflow_mul-length-2 : goal.overflow_mul-length-2
overflow_mul-length-2 c = let p = c.requires.few_words in search rules

pub overflow_add-length-2 : goal.overflow_add-length-2
overflow_add-length-2 c = let p = c.requires.few_words in let q = c.requires.few_procedures in search rules

pub returns-then-area-length : goal.returns-then-area-length
returns-then-area-length c = inl (record {
  short = rw (plan_length_lem c.requires) c.if-area-length.true;
  kept = refl;
  told_is = refl;
})

pub write-requires : goal.write-requires
write-requires c = writable c.requires c.if-area-length.false

pub shape_of-area : goal.shape_of-area
shape_of-area c = ap length c.write.ensures ∙ overwrite_length _ _ (rw (plan_length_lem c.requires) c.if-area-length.false)

pub returns : goal.returns
returns c =
    let p = c.requires in
    inr (record {
      long = rw (plan_length_lem p) c.if-area-length.false;
      bytes = c.write.ensures;
      told_is = ap Ok (sym (plan_length_lem p));
    })
