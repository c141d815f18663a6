-- `put_header` meets its contract. Assumes nothing.
use Prim.Native.Nat.{ℕ, ◌≤◌, ◌<◌}
use native.Mathlib.Omega.{arith}
use mathlib.Core.Path.{◌≡◌, ap}
use mathlib.Core.List.{[], ◌∷◌}
use Rattle.plan_packed.specs.Format.{fields_from}
use Rattle.plan_notation.specs.Shown.{volatile_tokens}
use Rattle.text.proofs.Added.{added_more, added_as}
use Rattle.plan_tokens.proofs.Parts.{header_parts, header_length}
use borrow.Author.Rules.{rules}
use Rattle.plan_tokens.proofs.put_header.Goals as goal

small : {v w : ℕ} → v ≡ w → w ≤ 1 → v < 256
small e h = omega arith

pub version-version-requires : goal.version-version-requires
version-version-requires c = c.requires.0

pub volatiles-mask-requires : goal.volatiles-mask-requires
volatiles-mask-requires c = c.requires.0

pub overflow_cast-first-2 : goal.overflow_cast-first-2
overflow_cast-first-2 c = let v = c.version-version.ensures in let p = c.requires.1 in search (rules, small v p)

pub put_word-next-requires : goal.put_word-next-requires
put_word-next-requires c = omega (arith, c.requires.2, header_length c.args.plan.now)

pub put_volatiles-requires : goal.put_volatiles-requires
put_volatiles-requires c =
    let p = c.put_word-next.ensures in
    rw c.volatiles-mask.ensures (omega (arith, c.requires.2, header_length c.args.plan.now, p.next, p.kept))

pub returns : goal.returns
returns c =
    added_as (header_parts c.args.plan.now)
    (added_more (added_as (ap (λ (v : ℕ). 40 ∷ v ∷ []) c.version-version.ensures)
    c.put_word-next.ensures)
    (added_as (ap (λ (m : ℕ). volatile_tokens (fields_from m 1 31))
    c.volatiles-mask.ensures) c.put_volatiles.ensures))
