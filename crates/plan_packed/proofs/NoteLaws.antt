-- Checks 5 and 6 at once: what the notes of the terms say, name by name. Assumes nothing.
use mathlib.Core.Path.{◌≡◌, refl, ap, sym, ◌∙◌}
use mathlib.Core.Bool.{Bool, false, ◌&&◌, ◌||◌, not, or-false, or_assoc}
use mathlib.Core.List.{List, [], ◌∷◌}
use Prim.Native.Nat.{ℕ, zero, suc, ◌+◌, ◌<◌}
use native.Mathlib.Nat.{add-zero}
use native.Mathlib.Decide.{ℕ_discrete}
use native.Mathlib.Omega.{arith}
use lib.Dec.{eqb, lit<}
use lib.ListN.{get_or, set, length-set, replicate, length-replicate}
use lib.Seq.{get_or-set_same, get_or-set_other}
use borrow.Author.Tests.{eq-eqb, ne_eqb}
use Rattle.format.proofs.Filled.{zeros}
use Rattle.plan_packed.specs.Format
use Rattle.plan_packed.specs.Format.{terms, root, tag_at}
use Rattle.plan_packed.specs.Trees.{ExpressionNode, ConditionNode, ArgumentsNode, Node, node_at}
use Rattle.plan_packed.specs.Refusals.{any_below, sum_below, one_if, wrong_term, wrong_call, wrongly_sorted, times_named, not_named_once}
use Rattle.plan_packed.specs.Inner.Steps.{Headed, Child, children_of, tag_sort, wrong_sort, misplaced_root, misfits, root_times, all_times, note_of, note_all}
use Rattle.plan_packed.specs.Inner.Steps.{Noted}
use Rattle.plan_packed.specs.Inner.Steps.{RootsNoted, TermsNoted}
use Rattle.plan_packed.proofs.Children.{Within, children_within}
use Rattle.plan_packed.proofs.NameLaws.{times_of, term_times, within_more}
use Rattle.plan_packed.proofs.SortLaws.{TagSort, tag_sort_lem, sort₁, strays, term_strays}

-- the sort of a tag is one of three
sort_between : (k : ℕ) → (0 < tag_sort k) × (tag_sort k < 4)
sort_between k = go (tag_sort_lem k)
  where
    go : TagSort k → (0 < tag_sort k) × (tag_sort k < 4)
    go (TagSort.low a e) = (omega arith, omega arith)
    go (TagSort.middle a b e) = (omega arith, omega arith)
    go (TagSort.upper a b e) = (omega arith, omega arith)
    go (TagSort.last a e) = (omega arith, omega arith)

-- of a term that was named before
pub note_again : (n s : ℕ) → (n ≡ 0 → ⊥) → 4 ≡ note_of n s
unfolding note_of
note_again zero s h = absurd (h refl)
note_again (suc n) s h = refl

noted_ext : (b : List ℕ) (f g : ℕ → ℕ) (m w : ℕ → Bool) (c : List ℕ) → ((t : ℕ) → f t ≡ g t) → ((t : ℕ) → m t ≡ w t) → Noted b f m c → Noted b g w c
noted_ext b f g m w c e d k = record {
  size = k.size;
  unnamed = λ t h z. let x = k.unnamed t h z in (sym (e t) ∙ x.0, sym (d t) ∙ x.1);
  named = λ t h z. let x = k.named t h z in (sym (e t) ∙ x.0, sym (d t) ∙ x.1);
}

-- ---- one name

module _ (b : List ℕ) (f : ℕ → ℕ) (m : ℕ → Bool) (c : List ℕ) (k : Noted b f m c) (s v : ℕ) (h : v < 1024) (some : 0 < s) where
  abbrev times : ℕ → ℕ
  times t = f t + one_if (eqb v t)

  abbrev wrong : ℕ → Bool
  wrong t = m t || (eqb v t && wrong_sort s (tag_at b t))

  abbrev note : ℕ
  note = note_of (get_or c v 0) s

  now : get_or (set c v note) v 0 ≡ note
  now = get_or-set_same c v note 0 (let z = k.size in omega arith)

  -- the note of the term that is named
  none_now : (n : ℕ) → get_or c v 0 ≡ n → note_of n s ≡ 0 → (times v ≡ 0) × (wrong v ≡ false)
  unfolding note_of
  none_now zero e q = absurd (omega arith)
  none_now (suc n) e q = absurd (omega arith)

  once_now : (n : ℕ) → get_or c v 0 ≡ n → note_of n s ≡ tag_sort (tag_at b v) → (times v ≡ 1) × (wrong v ≡ false)
  unfolding note_of wrong_sort
  once_now zero e q =
      let x = k.unnamed v h e in
      let z = x.0 in
      (rw (eq-eqb v v refl) (omega arith), rw (x.1, eq-eqb v v refl, eq-eqb (tag_sort (tag_at b v)) s (sym q)) refl)
  once_now (suc n) e q = let z = (sort_between (tag_at b v)).1 in absurd (omega arith)

  -- the note of another
  other : (t : ℕ) → (v ≡ t → ⊥) → (get_or (set c v note) t 0 ≡ get_or c t 0) × (f t ≡ times t) × (m t ≡ wrong t)
  other t n = (get_or-set_other c v t note 0 (λ q. n (sym q)), rw (ne_eqb v t n) (sym (add-zero (f t))), rw (ne_eqb v t n) (sym (or-false (m t))))

  note_one : Noted b times wrong (set c v note)
  note_one = record {
    size = length-set c v note ∙ k.size;
    unnamed = λ t l. one t l (ℕ_discrete v t);
    named = λ t l. two t l (ℕ_discrete v t);
  }
    where
      one : (t : ℕ) → t < 1024 → Dec (v ≡ t) → get_or (set c v note) t 0 ≡ 0 → (times t ≡ 0) × (wrong t ≡ false)
      one t l (yes e) q = rw (← e) (none_now (get_or c v 0) refl (sym now ∙ rw (← e) at q))
      one t l (no n) q = let o = other t n in let x = k.unnamed t l (sym o.0 ∙ q) in (sym o.1 ∙ x.0, sym o.2 ∙ x.1)

      two : (t : ℕ) → t < 1024 → Dec (v ≡ t) → get_or (set c v note) t 0 ≡ tag_sort (tag_at b t) → (times t ≡ 1) × (wrong t ≡ false)
      two t l (yes e) q = rw (← e) (once_now (get_or c v 0) refl (sym now ∙ rw (← e) at q))
      two t l (no n) q = let o = other t n in let x = k.named t l (sym o.0 ∙ q) in (sym o.1 ∙ x.0, sym o.2 ∙ x.1)

-- ---- the names of a list of children

-- a sort is wanted of each
abbrev Wanted : List Child → Type 0
Wanted [] = Unit {0}
Wanted (k ∷ ks) = (0 < k.sort) × Wanted ks

children_wanted : (x : Node) → Wanted (children_of x)
unfolding children_of
children_wanted (Node.expression ExpressionNode.null) = tt
children_wanted (Node.expression (ExpressionNode.variable x)) = tt
children_wanted (Node.expression (ExpressionNode.new fs)) = tt
children_wanted (Node.expression (ExpressionNode.read i f)) = (lit< tt, tt)
children_wanted (Node.expression (ExpressionNode.write i f j)) = (lit< tt, (lit< tt, tt))
children_wanted (Node.expression (ExpressionNode.let_in x i j)) = (lit< tt, (lit< tt, tt))
children_wanted (Node.expression (ExpressionNode.if i j k)) = (lit< tt, (lit< tt, (lit< tt, tt)))
children_wanted (Node.expression (ExpressionNode.while i j)) = (lit< tt, (lit< tt, tt))
children_wanted (Node.expression (ExpressionNode.call m i)) = (lit< tt, tt)
children_wanted (Node.expression (ExpressionNode.fork i)) = (lit< tt, tt)
children_wanted (Node.expression (ExpressionNode.join i)) = (lit< tt, tt)
children_wanted (Node.expression (ExpressionNode.synch i j)) = (lit< tt, (lit< tt, tt))
children_wanted (Node.expression (ExpressionNode.signal k i)) = (lit< tt, tt)
children_wanted (Node.condition ConditionNode.truth) = tt
children_wanted (Node.condition (ConditionNode.not i)) = (lit< tt, tt)
children_wanted (Node.condition (ConditionNode.and i j)) = (lit< tt, (lit< tt, tt))
children_wanted (Node.condition (ConditionNode.equal i j)) = (lit< tt, (lit< tt, tt))
children_wanted (Node.arguments (ArgumentsNode.list i j)) = (lit< tt, (lit< tt, tt))
children_wanted (Node.arguments ArgumentsNode.list_end) = tt
children_wanted Node.unknown = tt

note_all_lem : (b : List ℕ) (ks : List Child) (f : ℕ → ℕ) (m : ℕ → Bool) (c : List ℕ) → Within 1024 ks → Wanted ks → Noted b f m c
    → Noted b (λ t. f t + times_of ks t) (λ t. m t || strays b ks t) (note_all ks c)
unfolding note_all times_of strays
note_all_lem b [] f m c z w k = noted_ext b f (λ t. f t + 0) m (λ t. m t || false) c (λ t. omega arith) (λ t. sym (or-false (m t))) k
note_all_lem b (x ∷ ks) f m c z w k =
    noted_ext b _ (λ t. f t + times_of (x ∷ ks) t) _ (λ t. m t || strays b (x ∷ ks) t) _ (λ t. omega arith)
    (λ t. or_assoc (m t) (eqb x.index t && wrong_sort x.sort (tag_at b t)) (strays b ks t))
    (note_all_lem b ks (λ t. f t + one_if (eqb x.index t)) (λ t. m t || (eqb x.index t && wrong_sort x.sort (tag_at b t))) _ z.1 w.1
    (note_one b f m c k x.sort x.index z.0 w.0))

-- one child named, then the others
pub note_more : (k : Child) (ks : List Child) (c d e : List ℕ) → d ≡ note_all (k ∷ []) c → e ≡ note_all ks d → e ≡ note_all (k ∷ ks) c
unfolding note_all
note_more k ks c d e p q = q ∙ ap (note_all ks) p

-- ---- the procedures

pub no_notes : (b : List ℕ) → RootsNoted b 0 (replicate 1024 0)
unfolding root_times misplaced_root sum_below any_below
no_notes b = record {
  size = length-replicate {A = ℕ} 1024 0;
  unnamed = λ t h q. (refl, refl);
  named = λ t h q. let z = (sort_between (tag_at b t)).0 in absurd (omega (arith, zeros 1024 t));
}

-- one more procedure names its root
pub root_noted : (b : List ℕ) (p v : ℕ) (c c' : List ℕ) → v ≡ root b p → root b p < 1024 → c' ≡ set c v (note_of (get_or c v 0) 1) → RootsNoted b p c
    → RootsNoted b (suc p) c'
unfolding root_times misplaced_root sum_below any_below
root_noted b p v c c' e h q k =
    rw (q, e)
    (noted_ext b _ _ _ _ _ (λ t. refl) (λ t. rw (sort₁ (tag_at b t)) refl)
    (note_one b (root_times b p) (misplaced_root b p) c k 1 (root b p) h (lit< tt)))

-- ---- the terms

pub no_terms_noted : (b : List ℕ) (procedures : ℕ) (c : List ℕ) → procedures ≡ Format.procedures b → RootsNoted b procedures c → TermsNoted b 0 c
unfolding root_times all_times misplaced_root misfits sum_below any_below
no_terms_noted b procedures c e k = noted_ext b _ _ _ _ c (λ t. rw e (sym (add-zero _))) (λ t. rw e (sym (or-false _))) k

-- one more term names its children
pub term_noted : (b : List ℕ) (procedures n u : ℕ) (c c' : List ℕ) → Headed b procedures n → wrong_term b u ≡ false → c' ≡ note_all (children_of (node_at b u)) c
    → TermsNoted b u c → TermsNoted b (suc u) c'
unfolding all_times misfits sum_below any_below
term_noted b procedures n u c c' z h e k =
    let ks = children_of (node_at b u) in
    rw e
    (noted_ext b (λ t. all_times b u t + times_of ks t) (all_times b (suc u)) (λ t. misfits b u t || strays b ks t) (misfits b (suc u)) _
    (λ t. omega (arith, term_times b u t))
    (λ t. rw (term_strays b u t) (simp or_assoc))
    (note_all_lem b ks (all_times b u) (misfits b u) c (within_more n 1024 ks z.few (children_within b procedures n u z.sized h))
    (children_wanted (node_at b u)) k))

-- a term whose note is its own sort is right, if it is no wrong call
pub note_fits : (b : List ℕ) (n t : ℕ) (c : List ℕ) → n ≡ terms b → t < 1024 → TermsNoted b n c → get_or c t 0 ≡ tag_sort (tag_at b t) → wrong_call b t ≡ false
    → (wrongly_sorted b t ≡ false) × (not_named_once b t ≡ false)
unfolding wrongly_sorted not_named_once times_named all_times misfits
note_fits b n t c e h k q w =
    let x = k.named t h q in
    let right : misfits b (terms b) t ≡ false = rw (← e) x.1 in
    let once : all_times b (terms b) t ≡ 1 = rw (← e) x.0 in
    (rw (right, w) refl, rw once refl)
