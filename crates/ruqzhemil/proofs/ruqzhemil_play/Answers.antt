-- `ruqzhemil::ruqzhemil_play` meets its contract: the number, the log area and the bytes of what `play::play` answers. Assumes nothing.
use mathlib.Core.Path.{ap, ◌∙◌}
use borrow.Author.Rules.{rules}
use Rattle.play.specs.Answer.{answered}
use Rattle.abi_outcome.specs.Play.{play_number, out_after}
use Rattle.ruqzhemil.proofs.Played.{small_played}
use Rattle.ruqzhemil.proofs.ruqzhemil_play.Goals as goal

pub write_play-requires : goal.write_play-requires
unfolding answered
write_play-requires c =
    let a = c.args in
    let p = c.play-played in
    small_played a.plan.now a.schedule.now a.log.now p.result p.ensures.answer

pub returns : goal.returns
unfolding answered
returns c =
    let a = c.args in
    let p = c.play-played in
    let w = c.write_play.ensures in record { answer = w.number ∙ ap play_number p.ensures.answer; area = p.ensures.area; bytes = w.bytes ∙ ap (out_after a.out.now) p.ensures.answer }
