-- `text_play_lines::play_text` meets its contract: what `play` ensures of its answer and of the log area, which begins with the run's records. Assumes nothing.
use Prim.Native.Nat.{◌-◌}
use native.Mathlib.Omega.{arith}
use lib.ListN.{length-take}
use Rattle.std.proofs.lemmas.Result.{err_from_is_err_and}
use Rattle.play.proofs.Ran.{few_records, within}
use Rattle.text_play_lines.specs.Told.{short}
use Rattle.text_play_lines.proofs.Answers.{refused_told, raced_last, ran_told}
use Rattle.text_play_lines.proofs.play_text.Goals as goal

pub returns-then-area-lt131072 : goal.returns-then-area-lt131072
returns-then-area-lt131072 c = short (omega arith)

pub record_bytes-end-requires : goal.record_bytes-end-requires
record_bytes-end-requires c =
    few_records _ _ _ c.play-played.result c.play-played.ensures.answer c.in_ok-played.was

pub slice_bounds-put_run-end : goal.slice_bounds-put_run-end
slice_bounds-put_run-end c =
    let p = c.play-played in
    let r = c.record_bytes-end in
    within _ _ _ p.result p.ensures.answer c.in_ok-played.was p.new.log p.ensures.area r.result
    (omega (arith, r.ensures))

pub put_run-requires : goal.put_run-requires
put_run-requires c =
    let p = c.play-played in
    let r = c.record_bytes-end in
    let e = c.in_ok-played.was in
    let few = few_records _ _ _ p.result p.ensures.answer e in
    record {
      short = omega (arith, few, r.ensures, length-take (r.result - 0) p.new.log);
      room = omega arith;
      raced =
          raced_last _ _ _
          c.args.area.now
          p.result p.ensures.answer (omega arith) (omega arith) e p.new.log p.ensures.area r.result r.ensures;
    }

pub returns-in_err-played : goal.returns-in_err-played
returns-in_err-played c =
    let p = c.play-played in
    let q = err_from_is_err_and c.from_residual.result c.from_residual.ensures.1 in
    rw (q.1, q.2) (refused_told _ _ _ _ p.result p.ensures.answer (omega arith) (omega arith) _ c.in_err-played.was)

pub returns : goal.returns
returns c =
    let p = c.play-played in
    let r = c.record_bytes-end in
    ran_told _ _ _ _ p.result p.ensures.answer (omega arith) (omega arith)
    c.in_ok-played.was p.new.log p.ensures.area r.result r.ensures
    c.put_run.ensures
