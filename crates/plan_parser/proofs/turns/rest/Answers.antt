-- `rest` meets its contract. Assumes nothing.
use native.Mathlib.Omega.{arith}
use Rattle.plan_parser.proofs.turns.rest.Goals as goal

pub returns-then-code-eq192 : goal.returns-then-code-eq192
returns-then-code-eq192 c =
    let shared-slice-known2 = c.shared_slice_known-2-1 in
    λ words st. c.binder.ensures words _ (λ i. omega (arith, shared-slice-known2.given i)) st

pub returns-then-code-lt256 : goal.returns-then-code-lt256
returns-then-code-lt256 c =
    let shared-slice-known2 = c.shared_slice_known-2-1 in
    λ words st. c.count.ensures words _ (λ i. omega (arith, shared-slice-known2.given i)) st

pub returns-then-code-lt640 : goal.returns-then-code-lt640
returns-then-code-lt640 c =
    let shared-slice-known2 = c.shared_slice_known-2-1 in
    λ words st. c.fields.ensures words _ (λ i. omega (arith, shared-slice-known2.given i)) st

pub returns : goal.returns
returns c =
    let shared-slice-known2 = c.shared_slice_known-2-1 in
    λ words st. c.further.ensures words _ (λ i. omega (arith, shared-slice-known2.given i)) st
