use native.Mathlib.Numerals.{add-one}
use native.Mathlib.Omega.{arith}
use mathlib.Core.Path.{◌≡◌, ap}
use Rattle.text.proofs.Added.{added_none, added_more, added_as}
use Rattle.text_configuration.specs.Configuration.{channel_lines}
use Rattle.text_configuration.proofs.Parts.{channel_short}
use borrow.Author.Rules.{rules}
use Rattle.text_configuration.proofs.put_channels.Goals as goal

pub loop-object-init : goal.loop-object-init
unfolding channel_lines
loop-object-init c = (search rules, search rules, added_none _ _)

pub put_channel-next-requires : goal.put_channel-next-requires
put_channel-next-requires c =
    let l = c.loop-object in
    (omega arith, omega (arith, l.invariant.1, l.invariant.2.kept, channel_short l.object (omega arith)))

pub loop-object-preserved : goal.loop-object-preserved
unfolding channel_lines
loop-object-preserved c =
    let l = c.loop-object in
    let p = c.put_channel-next.ensures in
    (omega arith, omega (arith, l.invariant.1, p.next, channel_short l.object (omega arith)), rw add-one (added_more l.invariant.2 p))

pub shape_of-area : goal.shape_of-area
shape_of-area c = c.loop-object.invariant.2.kept

pub returns : goal.returns
returns c =
    let l = c.loop-object in
    let e : l.object ≡ 32 = omega arith in record { wrote = added_as (ap channel_lines e) l.invariant.2; within = omega (arith, l.invariant.1) }
