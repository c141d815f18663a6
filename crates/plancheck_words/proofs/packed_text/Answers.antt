-- `packed_text` meets its contract, word by word. Assumes nothing.
use mathlib.Core.Path.{refl}
use Rattle.plancheck_words.proofs.Telling.{says_text}
use borrow.Author.Rules.{rules}
use Rattle.plancheck_words.proofs.packed_text.Goals as goal

pub returns-in-Check : goal.returns-in-Check
returns-in-Check c =
    let check-text = c.check_text in
    says_text c.in-Check.is refl check-text.ensures

pub returns-in-Show : goal.returns-in-Show
returns-in-Show c =
    let show-text = c.show_text in
    says_text c.in-Show.is refl show-text.ensures

pub returns-in-Read : goal.returns-in-Read
returns-in-Read c =
    let plan_text_lem = c.plan_text in
    says_text c.in-Read.is refl plan_text_lem.ensures

pub returns-in-Canonical : goal.returns-in-Canonical
returns-in-Canonical c =
    let canonical-text = c.canonical_text in
    says_text c.in-Canonical.is refl canonical-text.ensures

pub returns-in-Bound : goal.returns-in-Bound
returns-in-Bound c =
    let bound-text = c.bound_text in
    says_text c.in-Bound.is refl bound-text.ensures

pub returns-in-Play : goal.returns-in-Play
returns-in-Play c =
    let play-text = c.play_text in
    says_text c.in-Play.is play-text.ensures.says play-text.ensures.wrote

pub returns-in-States : goal.returns-in-States
returns-in-States c =
    let states-text = c.states_text in
    says_text c.in-States.is refl states-text.ensures

pub returns-in-Preview : goal.returns-in-Preview
returns-in-Preview c =
    let preview-text = c.preview_text in
    says_text c.in-Preview.is refl preview-text.ensures

pub returns-in-Log : goal.returns-in-Log
returns-in-Log c =
    let log-text = c.log_text in
    says_text c.in-Log.is refl log-text.ensures

pub returns-in-Witness : goal.returns-in-Witness
returns-in-Witness c =
    let witness-text = c.witness_text in
    says_text c.in-Witness.is witness-text.ensures.says witness-text.ensures.wrote

pub returns-in-Charge : goal.returns-in-Charge
returns-in-Charge c =
    let charge-text = c.charge_text in
    says_text c.in-Charge.is refl charge-text.ensures

pub returns-in-Interleavings : goal.returns-in-Interleavings
returns-in-Interleavings c =
    let interleavings-text = c.interleavings_text in
    says_text c.in-Interleavings.is interleavings-text.ensures.says interleavings-text.ensures.wrote
