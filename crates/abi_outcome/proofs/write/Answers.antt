use Rattle.abi_thread_bytes.specs.declared.ThreadBytes.{ThreadBytes}
use Rattle.play.specs.Answer.{outcome_of}
use Prim.Native.Nat.{◌+◌, ◌-◌, ◌<◌}
use native.Mathlib.Omega.{arith}
use mathlib.Core.Path.{◌≡◌, refl, sym, ap, ◌∙◌}
use lib.ListN.{get_or}
use Rattle.format.proofs.Turns.{turns, one_turn, no_turn}
use Rattle.abi_outcome.proofs.Threads.{absent, put_one, put_thread, small_thread, whole}
use Rattle.abi_outcome.proofs.write.Goals as goal

pub write_head-requires : goal.write_head-requires
unfolding outcome_of
write_head-requires c = let h = c.requires in (omega (arith, h.picks), omega (arith, h.moves, h.records), omega (arith, h.records))

pub loop-number-init : goal.loop-number-init
loop-number-init c = (omega arith, refl)

pub thread_bytes-bytes-requires : goal.thread_bytes-bytes-requires
thread_bytes-bytes-requires c =
    small_thread c.args.outcome c.requires c.loop-number.number c.loop-number-test.true

pub loop-number-preserved : goal.loop-number-preserved
loop-number-preserved c =
    let all = c.args.outcome.threads in
    let p = c.loop-number.number in
    let h : p < 8 = c.loop-number-test.true in (
      omega arith,
      ap (λ (b : ThreadBytes). turns (put_thread all) (8 - (p + 1)) (p + 1) (put_one c.loop-number.out p b (get_or all p absent).learnt))
          c.thread_bytes-bytes.ensures ∙ sym (one_turn (put_thread all) 8 p c.loop-number.out h) ∙ c.loop-number.invariant.1,
    )

pub returns : goal.returns
returns c =
    let all = c.args.outcome.threads in
    let z : 8 - c.loop-number.number ≡ 0 = omega arith in
    sym (no_turn (put_thread all) 8 c.loop-number.number c.loop-number.out z) ∙ c.loop-number.invariant.1
    ∙ ap (turns (put_thread all) 8 0) c.write_head.ensures ∙ whole c.args.outcome c.requires
