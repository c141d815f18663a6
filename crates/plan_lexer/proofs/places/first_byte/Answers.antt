use Prim.Native.Nat.{ℕ}
use native.Mathlib.Omega.{arith}
use mathlib.Core.Path.{◌≡◌, refl, sym, ap, ◌∙◌}
use mathlib.Core.List.{List, [], ◌∷◌}
use lib.ListN.{length}
use Rattle.plan_notation.specs.Tokens.{text_end}
use Rattle.plan_notation.specs.Lexing.{Token, token, nothing, tokens_of, ended_at_end}
use Rattle.plan_scanner.proofs.ScanLaws.{no_byte}
use Rattle.plan_lexer.specs.Place.{place_in}
use Rattle.plan_lexer.proofs.PlaceLaws.{first_some, later_some, past_none, at_end}
use Rattle.plan_lexer.proofs.places.first_byte.Goals as goal

-- the token that is sought, among these
abbrev sought : List ℕ → ℕ → List Token → ℕ
sought text left ts = place_in ts left (length text)

pub loop-index-init : goal.loop-index-init
unfolding tokens_of
loop-index-init c = (omega arith, refl)

pub begun-found-requires : goal.begun-found-requires
begun-found-requires c = record { classed = c.classes-classes.ensures; inside = c.loop-index-test.true }

pub returns-then-left-eq0 : goal.returns-then-left-eq0
returns-then-left-eq0 c =
    let n = c.begun-found.ensures in
    sym
    (c.loop-index.invariant.1 ∙ ap (sought c.args.text.now c.loop-index.left) n.same
    ∙ first_some _ _ _ _ _ (sym c.is_some.ensures ∙ c.if-is_some.true) c.if-left-eq0.true)

pub loop-index-preserved-else-left-eq0 : goal.loop-index-preserved-else-left-eq0
loop-index-preserved-else-left-eq0 c =
    let n = c.begun-found.ensures in (
      n.inside,
      c.loop-index.invariant.1 ∙ ap (sought c.args.text.now c.loop-index.left) n.same
          ∙ later_some _ _ _ _ _ (sym c.is_some.ensures ∙ c.if-is_some.true) c.if-left-eq0.false,
    )

pub loop-index-preserved : goal.loop-index-preserved
loop-index-preserved c =
    let n = c.begun-found.ensures in (
      n.inside,
      c.loop-index.invariant.1 ∙ ap (sought c.args.text.now c.loop-index.left) n.same
          ∙ past_none _ _ _ _ _ (sym c.is_some.ensures ∙ c.if-is_some.false),
    )

pub returns : goal.returns
unfolding ended_at_end
returns c =
    let x = c.args.text.now in
    let e : c.loop-index.index ≡ length x = omega (arith, c.loop-index.invariant.0, c.loop-index-test.false) in
    sym
    (c.loop-index.invariant.1
    ∙ ap (sought c.args.text.now c.loop-index.left) (no_byte x c.loop-index.index nothing c.loop-index-test.false ∙ ap (λ (i : ℕ). token text_end i ∷ []) e)
    ∙ at_end _ _)
