use mathlib.Core.Path.{◌≡◌, refl, ap, ap₂, ◌∙◌}
use Prim.Native.Nat.{◌<◌, ◌+◌, ◌*◌}
use native.Mathlib.Omega.{arith}
use Rattle.run_lists.specs.declared.Item.{Item}
use Rattle.run_lists.specs.Inner.Lists.{code_at, next_at, one_at, codes_from, rest_from, count_from, head_by, told_of}
use Rattle.run_lists.proofs.Digits.{code_shl, code_lt, code_fits, code_more, rest_more, count_more}
use Rattle.run_lists.proofs.read.Goals as goal
use Rattle.run_lists.proofs.read.Goals.{After-loop-place}

pub loop-place-init : goal.loop-place-init
loop-place-init c = (omega arith, omega arith, λ x. omega arith, refl, omega arith)

pub overflow_add-codes : goal.overflow_add-codes
overflow_add-codes c =
    let l = c.loop-place in
    let h = c.next-next.ensures.1 in
    let t : l.place < 8 = omega arith in
    record { fits = rw (code_shl _ l.place h t) (omega (arith, code_fits l.codes _ l.place l.invariant.0 h t)) }

pub loop-place-preserved : goal.loop-place-preserved
loop-place-preserved c =
    let a = c.args in
    let l = c.loop-place in
    let n = c.next-next in
    let t : l.place < 8 = omega arith in
    let d : n.result.code ≡ code_at a.words.now l.at = ap (λ (i : Item). i.code) n.ensures.0 in
    let r : n.result.rest ≡ next_at a.words.now l.at = ap (λ (i : Item). i.rest) n.ensures.0 in
    let o : n.result.one ≡ one_at a.words.now l.at = ap (λ (i : Item). i.one) n.ensures.0 in
    rw (code_shl n.result.code l.place n.ensures.1 t) (
      code_lt l.codes n.result.code l.place l.invariant.0 n.ensures.1,
      omega (arith, l.invariant.1, n.ensures.2),
      λ x. rw (d, r) (code_more a.words.now l.at l.place t l.codes x ∙ l.invariant.2 x),
      rw r (rest_more a.words.now l.at l.place t ∙ l.invariant.3),
      rw (o, r) (count_more a.words.now l.at l.place t l.count ∙ l.invariant.4),
    )

pub head-requires : goal.head-requires
head-requires c = (c.requires, omega (arith, c.loop-place.invariant.1))

pub overflow_mul-result : goal.overflow_mul-result
overflow_mul-result c = record { fits = omega (arith, c.head.ensures.1) }

-- where the loop has ended
ended : (c : After-loop-place) → c.loop-place.place ≡ 8
ended c = omega arith

pub overflow_add-result : goal.overflow_add-result
overflow_add-result c =
    let l = c.loop-place in
    let e : l.place ≡ 8 = ended (goal.at.overflow_add-result c).After-loop-place in
    let q = rw e at l.invariant.0 in record { fits = omega (arith, c.head.ensures.1, q) }

pub returns : goal.returns
unfolding codes_from rest_from count_from told_of
returns c =
    let a = c.args in
    let l = c.loop-place in
    let e : l.place ≡ 8 = ended (goal.at.returns c).After-loop-place in
    let r : l.at ≡ rest_from 8 a.words.now a.list = rw e at l.invariant.3 in
    let n : l.count + 0 ≡ count_from 8 a.words.now a.list = rw e at l.invariant.4 in
    let m : l.count ≡ count_from 8 a.words.now a.list = omega (arith, n) in
    let q : l.codes + c.head.result * 281474976710656 ≡ codes_from 8 a.words.now a.list c.head.result = rw e at (l.invariant.2 c.head.result) in
    q ∙ ap (codes_from 8 a.words.now a.list) (c.head.ensures.0 ∙ ap₂ (head_by a.words.now a.list) r m)
