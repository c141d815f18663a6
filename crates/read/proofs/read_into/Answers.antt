-- `read_into` meets its contract. Assumes nothing.
use native.Mathlib.Omega.{arith}
use mathlib.Core.Path.{refl}
use mathlib.Core.List.{[]}
use Rattle.read.proofs.Answers.{many_told, first_codes, few_tried}
use borrow.Author.Rules.{rules}
use Rattle.read.proofs.read_into.Goals as goal

pub shape_of-tokens-then-words-lt-TERMS : goal.shape_of-tokens-then-words-lt-TERMS
shape_of-tokens-then-words-lt-TERMS c = c.lex-count.ensures.same

pub returns-then-words-lt-TERMS : goal.returns-then-words-lt-TERMS
returns-then-words-lt-TERMS c = (c.if-words-lt-TERMS.true, refl)

pub shape_of-tokens-then-tokens-count : goal.shape_of-tokens-then-tokens-count
shape_of-tokens-then-tokens-count c = c.lex-count.ensures.same

pub returns-then-tokens-count : goal.returns-then-tokens-count
returns-then-tokens-count c =
    let l = c.requires in
    let m = l.sized.most_words in
    many_told _ _ c.lex-count.ensures l.few_tokens (l.whole (omega (
      arith,
      c.if-words-lt-TERMS.false,
    ))) (omega (arith, c.lex-count.ensures.same, c.if-tokens-count.true))

pub slice_bounds-read_tokens-end : goal.slice_bounds-read_tokens-end
slice_bounds-read_tokens-end c = search (rules, c.if-tokens-count.false)

pub read_tokens-requires : goal.read_tokens-requires
read_tokens-requires c =
    let l = c.requires in
    let f = first_codes _ [] c.lex-count.ensures l.few_tokens
    (omega (
      arith,
      c.lex-count.ensures.same,
      c.if-tokens-count.false,
    )) in record {
      of_text = (record { text = _; codes_are = f.0 }, omega (arith, f.1, l.few_tokens), omega (arith, f.1, l.more_counts));
      ordered = (
        l.ordered,
        l.sized,
      );
    }

pub returns : goal.returns
returns c =
    let l = c.requires in
    few_tried _ _ c.lex-count.ensures l.few_tokens _ c.read_tokens.result _ _ (omega (
      arith,
      c.lex-count.ensures.same,
      c.if-tokens-count.false,
    ))
    (first_codes _ [] c.lex-count.ensures l.few_tokens (omega (
      arith,
      c.lex-count.ensures.same,
      c.if-tokens-count.false,
    ))).0 c.read_tokens.ensures
