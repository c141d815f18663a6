-- `keep` meets its contract. Assumes nothing.
use native.Mathlib.Omega.{arith}
use mathlib.Core.Path.{refl, sym, ◌∙◌}
use borrow.Author.Tests.{not-true, not-false}
use borrow.Author.Rules.{rules}
use Rattle.plan_reader.proofs.keep.Goals as goal

pub closed_with-requires : goal.closed_with-requires
closed_with-requires c = (c.requires.1, c.requires.2, omega (arith, c.requires.3))

pub returns-then-not-closed_with : goal.returns-then-not-closed_with
returns-then-not-closed_with c = record { so = (sym c.closed_with.ensures ∙ not-true _ c.if-not-closed_with.true-raw, refl, refl) }

pub returns-then-ahead-eq-END : goal.returns-then-ahead-eq-END
returns-then-ahead-eq-END c =
    record {
      so = (
        record {
          bound = sym c.closed_with.ensures ∙ not-false _ c.if-not-closed_with.false-raw;
          roots_are = refl;
          counts_are = refl;
        },
        sym c.ahead.ensures.0 ∙ c.if-ahead-eq-END.true,
        search rules,
      );
    }

pub returns : goal.returns
returns c =
    record {
      so = (
        record {
          bound = sym c.closed_with.ensures ∙ not-false _ c.if-not-closed_with.false-raw;
          roots_are = refl;
          counts_are = refl;
        },
        (λ e. c.if-ahead-eq-END.false (c.ahead.ensures.0 ∙ e)),
        refl,
      );
    }
