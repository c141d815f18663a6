-- `put_refusal` meets its contract. Assumes nothing.
use native.Mathlib.Omega.{arith}
use Rattle.text_refusal_lines.proofs.LineParts.{refusal_short}
use Rattle.text_shot_list.proofs.put_refusal.Goals as goal

pub put_refusal-requires : goal.put_refusal-requires
put_refusal-requires c =
    omega (arith, refusal_short (record { number = c.number.result; place = c.args.refusal.place }) (omega arith) (omega arith))
