-- `log_arrows::needed` meets its contract. Assumes nothing.
use Rattle.format.specs.Version.{version_of}
use Rattle.log_records.specs.Packed.{log_of}
use Rattle.log_arrows.proofs.OfLog.{log_short, heard_earlier, whole}
use Rattle.log_arrows.specs.Arrows.{AllArrows}
use native.Mathlib.Omega.{arith}
use mathlib.Core.Path.{sym, subst}
use Rattle.log_arrows.proofs.needed.Goals as goal

pub rows-requires : goal.rows-requires
rows-requires c = record { accepted = c.requires.accepted; sized = log_short c.args.log.now c.requires.accepted }

pub all-requires : goal.all-requires
all-requires c =
    let heard = c.rows in
    let short = log_short c.args.log.now c.requires.accepted in record { earlier = heard_earlier (version_of c.args.version) (log_of c.args.log.now) _ _ heard.ensures (omega (arith, short, heard.auto.heard)); short = short; room = c.requires.room }

pub returns : goal.returns
returns c =
    let v = version_of c.args.version in
    let b = c.args.log.now in
    let all = c.all in record {
      few = all.ensures.few;
      arrows = subst (AllArrows v (log_of b)) (sym all.ensures.arrows)
          (whole v b _ c.requires.accepted c.rows.ensures);
    }
