-- `say_refusal` is safe: the lines of every refusal lie within the area. Assumes nothing.
use Rattle.std.proofs.Common.{arith, length-take-le, sym}
use Rattle.text_refusal_lines.proofs.SentenceLines.{lines_short}
use Rattle.comtrade_files.proofs.say_refusal.Goals as goal

pub put_refusal_lines-length-requires : goal.put_refusal_lines-length-requires
put_refusal_lines-length-requires g c =
    omega (arith, lines_short (record { number = c.number.result; place = c.args.refusal.place }) (omega arith) (omega arith))

pub slice_bounds-area-end : goal.slice_bounds-area-end
slice_bounds-area-end g c =
    let w = c.put_refusal_lines-length.ensures in
    omega (arith, w.next, w.kept, lines_short (record { number = c.number.result; place = c.args.refusal.place }) (omega arith) (omega arith))

pub slice_bounds-write_all-end : goal.slice_bounds-write_all-end
slice_bounds-write_all-end g c =
    let w = c.put_refusal_lines-length.ensures in
    sym (length-take-le _ _ (omega (arith, w.next, w.kept, lines_short (record { number = c.number.result; place = c.args.refusal.place }) (omega arith) (omega arith))))
