-- `text_state_lines::states_text` meets its contract, by what `play` ensures. Assumes nothing.
use native.Mathlib.Omega.{arith}
use Rattle.std.proofs.lemmas.Result.{err_from_is_err_and}
use Rattle.text_state_lines.specs.Told.{short}
use Rattle.text_state_lines.proofs.Answers.{refused_told, eight, ran_told}
use Rattle.text_state_lines.proofs.states_text.Goals as goal

pub returns-then-area-lt2048 : goal.returns-then-area-lt2048
returns-then-area-lt2048 c = short (omega arith)

pub put_threads-requires : goal.put_threads-requires
put_threads-requires c =
    let p = c.play-played in (
      omega arith,
      eight _ _ _ c.args.area.now
          p.result p.ensures.answer (omega arith) (omega arith) c.in_ok-played.was,
    )

pub returns-in_err-played : goal.returns-in_err-played
returns-in_err-played c =
    let p = c.play-played in
    let q = err_from_is_err_and c.from_residual.result c.from_residual.ensures.1 in
    rw (q.1, q.2) (refused_told _ _ _ _ p.result p.ensures.answer (omega arith) (omega arith) _ c.in_err-played.was)

pub returns : goal.returns
returns c =
    let p = c.play-played in
    ran_told _ _ _ _ p.result p.ensures.answer (omega arith) (omega arith) c.in_ok-played.was
    c.put_threads.ensures
