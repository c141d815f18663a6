-- `read_text` meets its contract: an area that is long enough for the plan of every text. Assumes nothing.
use Prim.Native.Nat.{ℕ, ◌-◌}
use native.Mathlib.Omega.{arith}
use mathlib.Core.Path.{ap, ◌∙◌}
use lib.ListN.{length-replicate}
use Rattle.std.specs.Prelude.{Result, Err}
use Rattle.read.specs.declared.ReadError.{ReadError}
use Rattle.read.specs.Answer.{failure_of}
use Rattle.text_read_lines.proofs.FailureLines.{failure_short}
use Rattle.plancheck_words.proofs.Texts.{written_means, short_means, failed_means}
use Rattle.plancheck_words.proofs.Telling.{plan_told, none_told}
use borrow.Author.Rules.{rules}
use Rattle.plancheck_words.proofs.read_text.Goals as goal

-- the answer to a text that is no plan
abbrev failed : ReadError → Result ℕ ReadError
failed e = Err e

pub slice_bounds-packed_text-end : goal.slice_bounds-packed_text-end
slice_bounds-packed_text-end c =
    let read = c.read-answer in
    let a = c.args in
    let k = c.in-Ok in
    let m = written_means a.text.now _ (length-replicate {A = ℕ} 5192 0) read.result _ read.ensures.answer read.ensures.area k.length k.is in
    omega (arith, m.0, read.auto.area, length-replicate {A = ℕ} 5192 0)

pub put_refusal-requires : goal.put_refusal-requires
put_refusal-requires c = omega (arith, c.requires)

pub put_failure-requires : goal.put_failure-requires
put_failure-requires c =
    let k = c.in-Failed in
    omega (arith, failure_short k.line k.column (failure_of k.kind k.reason) (omega arith) (omega arith))

pub returns-in-Ok : goal.returns-in-Ok
returns-in-Ok c =
    let packed-text = c.packed_text in
    let read = c.read-answer in
    let a = c.args in
    let k = c.in-Ok in
    let m = written_means a.text.now _ (length-replicate {A = ℕ} 5192 0) read.result _ read.ensures.answer read.ensures.area k.length k.is in
    plan_told m.1 packed-text.ensures

pub returns-in-Short : goal.returns-in-Short
returns-in-Short c =
    let read = c.read-answer in
    let a = c.args in
    let e = c.in-Err.is ∙ ap failed c.in-Short.is in
    absurd (short_means a.text.now _ (length-replicate {A = ℕ} 5192 0) read.result _ read.ensures.answer read.ensures.area e)

pub returns-in-Failed : goal.returns-in-Failed
returns-in-Failed c =
    let put-failure = c.put_failure in
    let read = c.read-answer in
    let a = c.args in
    let k = c.in-Failed in
    let f = failed_means a.text.now _ (length-replicate {A = ℕ} 5192 0) read.result _ read.ensures.answer read.ensures.area in
    none_told (f k.line k.column k.kind k.reason (c.in-Err.is ∙ ap failed k.is)) put-failure.ensures
