-- `put_refusal` meets its contract.
use native.Mathlib.Omega.{arith}
use Rattle.text_refusal_lines.proofs.SentenceLines.{lines_short}
use Rattle.text_answer_lines.proofs.put_refusal.Goals as goal

pub put_refusal_lines-requires : goal.put_refusal_lines-requires
put_refusal_lines-requires g c =
    omega (arith, lines_short (record { number = c.number.result; place = c.place.result }) (omega arith) (omega arith))
