use Prim.Native.Nat.{suc, ◌-◌, ◌<◌}
use native.Mathlib.Omega.{arith}
use mathlib.Core.Path.{◌≡◌, subst as along}
use borrow.Author.Tests.{lt-ltb, le-ltb}
use Rattle.format.specs.Version.{version_of}
use Rattle.log_arrows.proofs.OfLog.{log_short}
use Rattle.text_judge_lines.proofs.LastConflicts.{Earlier, heard_most, inside, passed, found, not_none}
use Rattle.text_judge_lines.proofs.search.last_conflict.Goals as goal
use Rattle.text_judge_lines.proofs.search.last_conflict.Goals.{After-conflict, else-conflict-via-then-conflict+else-not-heard, else-conflict-via-else-conflict}

pub rows-requires : goal.rows-requires
rows-requires c = record { accepted = c.requires.passed; sized = log_short c.args.log.now c.requires.passed }

pub offset_bounds-rows-later : goal.offset_bounds-rows-later
offset_bounds-rows-later c =
    omega (arith, log_short c.args.log.now c.requires.passed, inside _ _ c.requires.conflicting)

pub bounds-rows-later : goal.bounds-rows-later
bounds-rows-later c =
    omega (arith, log_short c.args.log.now c.requires.passed, inside _ _ c.requires.conflicting)

pub columns_at-access-requires : goal.columns_at-access-requires
columns_at-access-requires c = inside _ _ c.requires.conflicting

pub loop-index-init : goal.loop-index-init
loop-index-init c =
    (omega arith, record { newest = c.rows.ensures.newest c.args.later (inside _ _ c.requires.conflicting) }, λ d. d.before)

pub columns_at-columns-requires : goal.columns_at-columns-requires
columns_at-columns-requires c =
    omega (arith, c.loop-index.invariant.0, inside _ _ c.requires.conflicting)

pub bounds-row-thread : goal.bounds-row-thread
bounds-row-thread c = omega (arith, c.columns_at-columns.ensures.narrow.thread_below)

pub overflow_cast-heard : goal.overflow_cast-heard
overflow_cast-heard c =
    let most = heard_most c.loop-index.invariant.1 c.columns_at-columns.result.thread c.columns_at-columns.ensures.narrow.thread_below in
    omega (arith, log_short c.args.log.now c.requires.passed, inside _ _ c.requires.conflicting)

pub conflict-requires : goal.conflict-requires
conflict-requires c = record { earlier_narrow = c.columns_at-columns.ensures.narrow; later_narrow = c.columns_at-access.ensures.narrow }

earlier : (c : After-conflict) → Earlier (version_of c.args.version) c.args.log.now c.args.later (suc (c.loop-index.index - 1))
earlier c =
    let taken = c.loop-index-test.true in
    let next : c.loop-index.index ≡ suc (c.loop-index.index - 1) = omega arith in
    along (Earlier (version_of c.args.version) c.args.log.now c.args.later) next c.loop-index.invariant.2

less : (c : After-conflict) → c.loop-index.index - 1 < c.args.later
less c = let taken = c.loop-index-test.true in omega (arith, c.loop-index.invariant.0)

pub returns-then-not-heard : goal.returns-then-not-heard
returns-then-not-heard c =
    found c.requires c.loop-index.invariant.1 c.columns_at-columns.ensures c.columns_at-access.ensures
    (less (goal.at.returns-then-not-heard c).After-conflict) c.conflict.ensures (simp (c.if-conflict.true, le-ltb _ _ c.if-not-heard.true)) (earlier (goal.at.returns-then-not-heard c).After-conflict)

pub loop-index-preserved : goal.loop-index-preserved
loop-index-preserved c = (
  omega (arith, c.loop-index.invariant.0),
  c.loop-index.invariant.1,
  passed c.requires c.loop-index.invariant.1 c.columns_at-columns.ensures
      c.columns_at-access.ensures (less (goal.at.loop-index-preserved c).After-conflict) c.conflict.ensures (elim c.else-conflict.branch [
        | else-conflict-via-then-conflict+else-not-heard w ↦ simp (w.if-conflict.true, lt-ltb _ _ w.if-not-heard.false)
        | else-conflict-via-else-conflict w ↦ simp w.if-conflict.false
      ]) (earlier (goal.at.loop-index-preserved c).After-conflict),
)

pub returns : goal.returns
returns c =
    let none_left : c.loop-index.index ≡ 0 = omega (arith, c.loop-index-test.false) in
    absurd (not_none c.requires (along (Earlier (version_of c.args.version) c.args.log.now c.args.later) none_left c.loop-index.invariant.2))
