-- `put_spaces` meets its contract: a part of the area is filled. Assumes nothing.
use Prim.Native.Nat.{ℕ}
use native.Mathlib.Omega.{arith}
use mathlib.Core.Path.{◌≡◌, sym, ap, ◌∙◌}
use lib.ListN.{length, replicate}
use borrow.Author.Rules.{rules}
use Rattle.text.proofs.Added.{added_as, added_part}
use Rattle.plan_layout.proofs.put_spaces.Goals as goal

pub returns : goal.returns
returns c =
    let few : length c.fill.new.self ≡ c.args.count = search (rules, c.fill.ensures.len) in
    added_as (c.fill.ensures.after (λ y h. h) ∙ ap (λ (n : ℕ). replicate n 32) (sym c.fill.ensures.len ∙ few))
    (added_part _ _ _ _ _ (omega arith) (omega (arith, few)) (omega arith))
