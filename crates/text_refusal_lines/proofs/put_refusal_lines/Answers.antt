-- `text_refusal_lines::put_refusal_lines` meets its contract. Assumes nothing.
use native.Mathlib.Omega.{arith}
use Rattle.text.proofs.Added.{added_more}
use Rattle.text_refusal_lines.specs.Lines.{refusal_lines}
use Rattle.text_refusal_lines.proofs.SentenceLines.{lines_length}
use borrow.Author.Rules.{rules}
use Rattle.text_refusal_lines.proofs.put_refusal_lines.Goals as goal

pub put_refusal-at-requires : goal.put_refusal-at-requires
put_refusal-at-requires c =
    let a = c.args in
    omega (arith, lines_length (record { number = a.number; place = a.place }))

pub put_sentence-requires : goal.put_sentence-requires
put_sentence-requires c =
    let put-refusal = c.put_refusal-at in
    let a = c.args in
    let w = put-refusal.ensures in
    omega (arith, w.next, w.kept, lines_length (record { number = a.number; place = a.place }))

pub returns : goal.returns
unfolding refusal_lines
returns c =
    let put-sentence = c.put_sentence in
    let put-refusal = c.put_refusal-at in
    added_more put-refusal.ensures put-sentence.ensures
