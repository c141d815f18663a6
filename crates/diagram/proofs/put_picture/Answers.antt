-- `diagram::put_picture` meets its contract. Assumes nothing.
use Prim.Native.Nat.{◌*◌, ◌/◌, ◌≤◌}
use native.Mathlib.Omega.{arith}
use lib.ListN.{length}
use Rattle.format.specs.Version.{version_of}
use Rattle.log_records.proofs.Accepted.{accepted}
use Rattle.log_arrows.proofs.OfLog.{log_short}
use Rattle.diagram.proofs.Pictures.{arrows_inside, race_inside, wrote_arrows}
use Rattle.diagram.proofs.put_picture.Goals as goal

pub needed-count-requires : goal.needed-count-requires
needed-count-requires c =
    let room : 7 * (length c.args.log.now / 3) ≤ 28672 = omega (arith, log_short c.args.log.now c.requires.judged.passed) in
    record { accepted = c.requires.judged.passed; room = record { from_room = room; to_room = room } }

pub put_diagram-requires : goal.put_diagram-requires
put_diagram-requires c =
    let b = c.args.log.now in
    let n = c.needed-count in
    let few = log_short b c.requires.judged.passed in
    record {
      few = (accepted b c.requires.judged.passed).length_most;
      arrows = arrows_inside (version_of c.args.version) b n.result _ _ (omega (arith, few, n.ensures.few, n.auto.from))
          (omega (arith, few, n.ensures.few, n.auto.to)) n.ensures.arrows;
      between = race_inside c.requires.judged;
      long = omega (arith, n.ensures.few, c.requires.room);
    }

pub returns : goal.returns
returns c =
    let n = c.needed-count in
    wrote_arrows (version_of c.args.version) c.args.log.now c.args.race n.result _ _ n.ensures.arrows
    c.put_diagram.ensures.wrote
