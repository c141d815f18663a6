-- `log_arrows::heard::marked` meets its contract. Assumes nothing.
use Rattle.log_arrows.proofs.Marked.{stored_mark}
use borrow.Kind.Array.{e_int, good_length}
use mir.Syntax.{w16}
use Rattle.log_arrows.proofs.heard.marked.Goals as goal

pub returns : goal.returns
returns c = stored_mark c.args.row c.args.thread c.args.mark (good_length (e_int w16) 8 c.args.row _ c.well_formed.0) c.requires
