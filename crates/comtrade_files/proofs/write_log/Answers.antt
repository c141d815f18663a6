-- `write_log` is safe: what is written lies within its area. Assumes nothing.
use Rattle.std.proofs.Common.{arith, length-take-le, sym, ap, ◌∙◌}
use Rattle.log_records.proofs.Accepted.{accepted}
use Rattle.answers.specs.Answer.{answered}
use Rattle.waveform.proofs.Answers.{value_means}
use Rattle.comtrade_files.proofs.write_log.Goals as goal

pub slice_bounds-area-end : goal.slice_bounds-area-end
slice_bounds-area-end g c =
    let m = value_means _ _ (sym (ap answered c.in-Ok.is) ∙ c.comtrade.ensures.answer) in
    omega (arith, m.1, c.comtrade.auto.area)

pub slice_bounds-write_file-end : goal.slice_bounds-write_file-end
slice_bounds-write_file-end g c =
    let m = value_means _ _ (sym (ap answered c.in-Ok.is) ∙ c.comtrade.ensures.answer) in
    sym (length-take-le _ _ (omega (arith, m.1, c.comtrade.auto.area)))

pub write_configuration-requires : goal.write_configuration-requires
write_configuration-requires g c =
    let m = value_means _ _ (sym (ap answered c.in-Ok.is) ∙ c.comtrade.ensures.answer) in
    omega (arith, (accepted _ m.0).length_most)
