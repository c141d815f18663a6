-- `begun` meets its contract: by the class of the first byte. Assumes nothing.
use Prim.Native.Nat.{ℕ, ◌+◌, ◌<◌}
use native.Mathlib.Omega.{arith}
use mathlib.Core.Path.{◌≡◌, sym, ap, ◌∙◌}
use mathlib.Core.List.{◌∷◌}
use lib.ListN.{get_or}
use borrow.Author.Tests.{eqb-true, eqb-false}
use borrow.Author.Rules.{rules}
use Rattle.plan_notation.specs.Lexing.{token, nothing}
use Rattle.plan_scanner.specs.Inner.Classes.{Scanned}
use Rattle.plan_scanner.specs.Inner.Extents.{onward}
use Rattle.plan_scanner.proofs.ScanLaws.{blank, digit, mark, hash, pair_inside, pair, lone}
use Rattle.plan_lexer.proofs.lexemes.begun.Goals as goal
use Rattle.plan_lexer.proofs.lexemes.begun.Goals.{After-becomes, After-class_of-class}

-- its first byte
scanned : (c : After-class_of-class) → Scanned c.args.text.now c.args.index c.class_of-class.result
scanned c = record { inside = c.requires.inside; byte = c.class_of-class.ensures.1; class = c.class_of-class.ensures.0 }

a_colon : (c : After-becomes)
    → (37 < c.class_of-class.result) × (c.class_of-class.result < 62) × (c.class_of-class.result ≡ 39 → ⊥)
a_colon c = (
  omega (arith, c.if-class-gt-HASH.true),
  omega (arith, c.if-class-ge-MARK.false),
  c.if-class-eq-BLANK.false,
)

pub class_of-class-requires : goal.class_of-class-requires
class_of-class-requires c = c.requires.classed

pub returns-then-class-eq-BLANK : goal.returns-then-class-eq-BLANK
returns-then-class-eq-BLANK c =
    record {
      behind = omega arith;
      inside = omega (arith, c.requires.inside);
      same = blank (scanned (goal.at.returns-then-class-eq-BLANK c).After-class_of-class) c.if-class-eq-BLANK.true;
    }

pub name_from-name-requires : goal.name_from-name-requires
name_from-name-requires c = record { classed = c.requires.classed; from_in_bounds = search rules }

pub returns-then-class-ge-MARK : goal.returns-then-class-ge-MARK
returns-then-class-ge-MARK c =
    record {
      behind = omega arith;
      inside = omega (arith, c.requires.inside);
      same = mark (scanned (goal.at.returns-then-class-ge-MARK c).After-class_of-class) c.if-class-ge-MARK.true;
    }

pub returns-then-class-eq-HASH : goal.returns-then-class-eq-HASH
returns-then-class-eq-HASH c =
    let n = c.comment_end-end.ensures in
    record {
      behind = omega (arith, n.behind);
      inside = n.inside;
      same = hash (scanned (goal.at.returns-then-class-eq-HASH c).After-class_of-class) c.if-class-eq-HASH.true ∙ n.same;
    }

pub returns-then-becomes : goal.returns-then-becomes
returns-then-becomes c =
    let text = c.args.text.now in
    let q = eqb-true (get_or text (c.args.index + 1) 0) 61 (sym c.becomes.ensures ∙ c.if-becomes.true) in
    let at = goal.at.returns-then-becomes c in
    record {
      behind = omega arith;
      inside = pair_inside text c.args.index q;
      same = pair (scanned at.After-class_of-class) (a_colon at.After-becomes) q;
    }

pub returns-then-class-gt-HASH : goal.returns-then-class-gt-HASH
returns-then-class-gt-HASH c =
    let q = eqb-false (get_or c.args.text.now (c.args.index + 1) 0) 61 (sym c.becomes.ensures ∙ c.if-becomes.false) in
    let at = goal.at.returns-then-class-gt-HASH c in
    record {
      behind = omega arith;
      inside = omega (arith, c.requires.inside);
      same = lone (scanned at.After-class_of-class) (a_colon at.After-becomes) q;
    }

pub returns : goal.returns
returns c =
    let n = c.name_from-name in
    let i = c.args.index in
    record {
      behind = omega (arith, n.ensures.behind);
      inside = n.ensures.inside;
      same = digit (scanned (goal.at.returns c).After-class_of-class) (omega (arith, c.if-class-gt-HASH.false, c.if-class-eq-HASH.false))
          ∙ n.ensures.same i
          ∙ ap (λ (x : ℕ). token x i ∷ onward nothing c.args.text.now n.result.end) (sym c.token_of.ensures);
    }
