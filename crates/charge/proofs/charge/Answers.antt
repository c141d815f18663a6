-- `charge` meets its contract, by what `play` ensures. Assumes nothing.
use native.Mathlib.Omega.{arith}
use Rattle.std.proofs.lemmas.Result.{err_from_is_err_and}
use Rattle.play.proofs.Moves.{few_moves}
use Rattle.charge.proofs.Charged.{refused_charge, ran_charge}
use borrow.Author.Rules.{rules}
use Rattle.charge.proofs.charge.Goals as goal

pub returns-in_err-played : goal.returns-in_err-played
returns-in_err-played c =
    let p = err_from_is_err_and c.from_residual.result c.from_residual.ensures.1 in
    rw (p.1, p.2) (record { answer = refused_charge _ _ _ c.play-played.result c.play-played.ensures.answer (omega arith) _ _ c.in_err-played.was })

pub price_by-requires : goal.price_by-requires
price_by-requires c =
    let p = c.play-played in
    few_moves _ _ _ p.result p.ensures.answer c.in_ok-played.was

pub returns : goal.returns
returns c =
    let p = c.play-played in
    record { answer = ran_charge _ _ _ p.result p.ensures.answer (omega arith) _ c.in_ok-played.was c.price_by.result c.price_by.ensures }
