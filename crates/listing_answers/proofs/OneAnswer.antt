-- The definitions allow one answer and one area afterwards, and no other. Assumes nothing.
use Prim.Native.Nat.{ℕ}
use native.Mathlib.Omega.{arith}
use mathlib.Core.Path.{◌≡◌, refl, ap}
use mathlib.Core.Bool.{true≢false}
use mathlib.Core.List.{List}
use mathlib.Core.Option.{Option, some, none}
use lib.ListN.{length}
use Rattle.format.specs.Refusal.{Refusal}
use Rattle.format.specs.Area.{overwrite}
use Rattle.answers.specs.Answer as answer
use Rattle.listing.proofs.Order.{one_least, one_least_above}
use Rattle.listing_answers.specs.Interleavings as papers
use Rattle.listing_answers.specs.Interleavings.{FirstAnswer, NextAnswer}

either : {A : Type 0} {x : Option Refusal} {r : Refusal} → x ≡ some r → x ≡ none → A
either e d = absurd (true≢false cc)

module _ (plan : List ℕ) (n : ℕ) (area : List ℕ) where
  pub one_first_answer : {a b : answer.Answer} {A B : List ℕ} → FirstAnswer plan n area a A → FirstAnswer plan n area b B → (a ≡ b) × (A ≡ B)
  one_first_answer (FirstAnswer.REFUSED e) (FirstAnswer.REFUSED d) = (cc, refl)
  one_first_answer (FirstAnswer.REFUSED e) (FirstAnswer.WRITTEN d f) = either e d
  one_first_answer (FirstAnswer.WRITTEN e f) (FirstAnswer.REFUSED d) = either d e
  one_first_answer (FirstAnswer.WRITTEN e f) (FirstAnswer.WRITTEN d h) =
      let q = one_least f h in
      (ap (λ (l : List ℕ). answer.value (length l)) q, ap (λ (l : List ℕ). overwrite l area) q)

module _ (plan : List ℕ) (n : ℕ) (schedule area : List ℕ) where
  pub one_next_answer : {a b : papers.Next} {A B : List ℕ} → NextAnswer plan n schedule area a A → NextAnswer plan n schedule area b B → (a ≡ b) × (A ≡ B)
  one_next_answer (NextAnswer.REFUSED e) (NextAnswer.REFUSED d) = (cc, refl)
  one_next_answer (NextAnswer.REFUSED e) (NextAnswer.NOT-LISTED d k) = either e d
  one_next_answer (NextAnswer.REFUSED e) (NextAnswer.SHORT d l s) = either e d
  one_next_answer (NextAnswer.REFUSED e) (NextAnswer.FOLLOWS d l s f) = either e d
  one_next_answer (NextAnswer.REFUSED e) (NextAnswer.OVER d l s o) = either e d
  one_next_answer (NextAnswer.NOT-LISTED e k) (NextAnswer.REFUSED d) = either d e
  one_next_answer (NextAnswer.NOT-LISTED e k) (NextAnswer.NOT-LISTED d j) = (refl, refl)
  one_next_answer (NextAnswer.NOT-LISTED e k) (NextAnswer.SHORT d l s) = absurd (k l)
  one_next_answer (NextAnswer.NOT-LISTED e k) (NextAnswer.FOLLOWS d l s f) = absurd (k l)
  one_next_answer (NextAnswer.NOT-LISTED e k) (NextAnswer.OVER d l s o) = absurd (k l)
  one_next_answer (NextAnswer.SHORT e m t) (NextAnswer.REFUSED d) = either d e
  one_next_answer (NextAnswer.SHORT e m t) (NextAnswer.NOT-LISTED d j) = absurd (j m)
  one_next_answer (NextAnswer.SHORT e m t) (NextAnswer.SHORT d l s) = (refl, refl)
  one_next_answer (NextAnswer.SHORT e m t) (NextAnswer.FOLLOWS d l s f) = absurd (omega arith)
  one_next_answer (NextAnswer.SHORT e m t) (NextAnswer.OVER d l s o) = absurd (omega arith)
  one_next_answer (NextAnswer.FOLLOWS e m t h) (NextAnswer.REFUSED d) = either d e
  one_next_answer (NextAnswer.FOLLOWS e m t h) (NextAnswer.NOT-LISTED d j) = absurd (j m)
  one_next_answer (NextAnswer.FOLLOWS e m t h) (NextAnswer.SHORT d l s) = absurd (omega arith)
  one_next_answer (NextAnswer.FOLLOWS e m t h) (NextAnswer.FOLLOWS d l s f) =
      let q = one_least_above h f in
      (ap (λ (l : List ℕ). papers.Next.written (length l)) q, ap (λ (l : List ℕ). overwrite l area) q)
  one_next_answer (NextAnswer.FOLLOWS {qs} e m t h) (NextAnswer.OVER d l s o) = absurd (o qs h.has h.above)
  one_next_answer (NextAnswer.OVER e m t p) (NextAnswer.REFUSED d) = either d e
  one_next_answer (NextAnswer.OVER e m t p) (NextAnswer.NOT-LISTED d j) = absurd (j m)
  one_next_answer (NextAnswer.OVER e m t p) (NextAnswer.SHORT d l s) = absurd (omega arith)
  one_next_answer (NextAnswer.OVER e m t p) (NextAnswer.FOLLOWS {qs} d l s f) = absurd (p qs f.has f.above)
  one_next_answer (NextAnswer.OVER e m t p) (NextAnswer.OVER d l s o) = (refl, refl)
