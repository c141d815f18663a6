-- `advance` meets its contract. Assumes nothing.
use Prim.Native.Nat.{ℕ}
use native.Mathlib.Omega.{arith}
use mathlib.Core.Path.{◌≡◌, ap, ◌∙◌}
use lib.ListN.{length-take, length-replicate}
use Rattle.std.specs.Prelude as rust
use Rattle.std.specs.Prelude.{Result, Ok, Some, None}
use Rattle.refusals.specs.declared.Refusal.{Refusal}
use Rattle.text_interleaving_lines.proofs.Stepping.{next_written, next_over, next_refused_lem, put_next}
use borrow.Author.Rules.{rules}
use Rattle.text_interleaving_lines.proofs.advance.Goals as goal
use Rattle.text_interleaving_lines.proofs.advance.Goals.{In_ok-length}

-- an answer that is not a refusal
abbrev passed : rust.Option ℕ → Result (rust.Option ℕ) Refusal
passed x = Ok x

-- the following one is written
written : (c : In_ok-length) → c.next_interleaving-next.result ≡ Ok (Some c.in_ok-length.length)
written c = c.in-Ok.is ∙ ap passed c.in_ok-length.was

pub slice_bounds-put_word-end : goal.slice_bounds-put_word-end
slice_bounds-put_word-end c =
    let r = c.next_interleaving-next in
    let t = next_written c.args.plan.now c.args.n c.args.schedule.now c.args.picks c.requires _ (length-replicate {A = ℕ} 64 0) in
    let m = t r.result _ r.ensures c.in_ok-length.length (written (goal.at.slice_bounds-put_word-end c).In_ok-length) in
    omega (arith, m.1)

pub put_word-requires : goal.put_word-requires
put_word-requires c =
    let k = c.in_ok-length in
    let r = c.next_interleaving-next in
    let t = next_written c.args.plan.now c.args.n c.args.schedule.now c.args.picks c.requires _ (length-replicate {A = ℕ} 64 0) in
    let m = t r.result _ r.ensures k.length (written (goal.at.put_word-requires c).In_ok-length) in
    omega (arith, m.0, m.1, c.requires.long, length-take k.length r.new.area)

pub returns : goal.returns
returns c =
    let k = c.in_ok-length in
    let r = c.next_interleaving-next in
    let t = put_next c.args.plan.now c.args.n c.args.schedule.now c.args.picks c.requires _ (length-replicate {A = ℕ} 64 0) in
    t r.result _ r.ensures k.length (written (goal.at.returns c).In_ok-length) _ _ c.put_word.ensures

pub returns-in_err-length : goal.returns-in_err-length
returns-in_err-length c =
    let r = c.next_interleaving-next in
    let t = next_over c.args.plan.now c.args.n c.args.schedule.now c.args.picks c.requires _ (length-replicate {A = ℕ} 64 0) in
    rw c.from_residual.ensures (t r.result _ r.ensures (c.in-Ok.is ∙ ap passed c.in_err-length.was))

pub returns-in_default : goal.returns-in_default
returns-in_default c =
    let r = c.next_interleaving-next in
    let t = next_refused_lem c.args.plan.now c.args.n c.args.schedule.now c.args.picks c.requires _ (length-replicate {A = ℕ} 64 0) in
    absurd (t r.result _ r.ensures _ c.in_default.is)
