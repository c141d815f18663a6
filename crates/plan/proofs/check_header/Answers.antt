-- `check_header`: the checks that found nothing, and the first that found something, make the answer of the definition.
use mathlib.Core.Path.{◌≡◌, sym, ◌∙◌}
use mathlib.Core.Option.{some, none}
use Rattle.format.specs.Refusal.{lowest, refuse, first_refusal}
use Rattle.format.proofs.LowestLaws.{whole, whole_none, missed, struck}
use Rattle.plan_packed.specs.Format.{procedures}
use Rattle.plan_packed.specs.Refusals.{wrong_length, wrong_header, wrong_procedure}
use Rattle.plan_packed.specs.Check.{checks}
use Rattle.plan_packed.proofs.Shown.{long_enough, make_sized}
use Rattle.plan_refusals.specs.Answer.{answered}
use Rattle.plan_refusals.proofs.Stages.{told}
use Rattle.plan.proofs.check_header.Goals as goal

pub returns-then-wrong_length : goal.returns-then-wrong_length
unfolding answered refuse first_refusal checks
returns-then-wrong_length c =
    let b = c.args.plan.now in
    let m1 : lowest (λ place. wrong_length b) 1 ≡ some 0 = whole (wrong_length b) (sym c.wrong_length.ensures ∙ c.if-wrong_length.true) in
    told c.at.ensures ∙ sym (rw m1)

pub wrong_header-requires : goal.wrong_header-requires
wrong_header-requires c = long_enough c.args.plan.now (sym c.wrong_length.ensures ∙ c.if-wrong_length.false)

pub returns-then-wrong_header : goal.returns-then-wrong_header
unfolding answered refuse first_refusal checks
returns-then-wrong_header c =
    let b = c.args.plan.now in
    let m1 : lowest (λ place. wrong_length b) 1 ≡ none =
    whole_none (wrong_length b) (sym c.wrong_length.ensures ∙ c.if-wrong_length.false) in
    let m2 : lowest (λ place. wrong_header b) 1 ≡ some 0 = whole (wrong_header b) (sym c.wrong_header.ensures ∙ c.if-wrong_header.true) in
    told c.at-then-wrong_header.ensures ∙ sym (rw (m1, m2))

pub procedures-procedures-requires : goal.procedures-procedures-requires
procedures-procedures-requires c =
    long_enough c.args.plan.now (sym c.wrong_length.ensures
    ∙ c.if-wrong_length.false)

pub terms-count-requires : goal.terms-count-requires
terms-count-requires c =
    long_enough c.args.plan.now (sym c.wrong_length.ensures
    ∙ c.if-wrong_length.false)

pub lowest_wrong_procedure-procedure-requires : goal.lowest_wrong_procedure-procedure-requires
lowest_wrong_procedure-procedure-requires c =
    make_sized c.args.plan.now _ _
    (sym c.wrong_length.ensures ∙ c.if-wrong_length.false) c.procedures-procedures.ensures
    c.terms-count.ensures

pub returns-then-procedure-procedures : goal.returns-then-procedure-procedures
unfolding answered refuse first_refusal checks
returns-then-procedure-procedures c =
    let b = c.args.plan.now in
    let m1 : lowest (λ place. wrong_length b) 1 ≡ none =
    whole_none (wrong_length b) (sym c.wrong_length.ensures
    ∙ c.if-wrong_length.false) in
    let m2 : lowest (λ place. wrong_header b) 1 ≡ none =
    whole_none (wrong_header b) (sym c.wrong_header.ensures
    ∙ c.if-wrong_header.false) in
    let m3 : lowest (wrong_procedure b) (procedures b) ≡ some c.lowest_wrong_procedure-procedure.result =
    struck (wrong_procedure b) _ (procedures b) _ c.procedures-procedures.ensures
    c.lowest_wrong_procedure-procedure.ensures c.if-procedure-procedures.true in
    told c.at-then-procedure-procedures.ensures ∙ sym (rw (m1, m2, m3))

pub returns : goal.returns
unfolding answered refuse first_refusal checks
returns c =
    let b = c.args.plan.now in
    let m1 : lowest (λ place. wrong_length b) 1 ≡ none =
    whole_none (wrong_length b) (sym c.wrong_length.ensures
    ∙ c.if-wrong_length.false) in
    let m2 : lowest (λ place. wrong_header b) 1 ≡ none =
    whole_none (wrong_header b) (sym c.wrong_header.ensures ∙ c.if-wrong_header.false) in
    let m3 : lowest (wrong_procedure b) (procedures b) ≡ none =
    missed (wrong_procedure b) _ (procedures b) _ c.procedures-procedures.ensures c.lowest_wrong_procedure-procedure.ensures
    c.if-procedure-procedures.false in
    sym (rw (m1, m2, m3))
