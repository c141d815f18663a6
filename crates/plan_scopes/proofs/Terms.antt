-- The scopes that the terms hand to their children. Assumes nothing.
use mathlib.Core.Path.{◌≡◌, refl, ap, sym, ◌∙◌}
use mathlib.Core.Bool.{false, ◌||◌, not}
use mathlib.Core.List.{List, [], ◌∷◌}
use Prim.Native.Nat.{ℕ, suc, ◌+◌, ◌≤◌, ◌<◌}
use native.Mathlib.Decide.{ℕ_discrete}
use native.Mathlib.Omega.{arith}
use lib.Dec.{eqb}
use lib.ListN.{length, get_or}
use borrow.Author.Tests.{ne_eqb}
use Rattle.format.proofs.RefusalLaws.{neither}
use Rattle.plan_packed.specs.Format
use Rattle.plan_packed.specs.Format.{terms, parameters, root, laid_out, term_at, tag_count}
use Rattle.plan_packed.specs.Refusals.{sum_below, wrong_term, times_in}
use Rattle.plan_packed.specs.Trees.{node_of, node_at}
use Rattle.plan_packed.specs.Inner.Operands.{tag_of}
use Rattle.plan_packed.specs.Inner.Rows.{number_at, bits_to, bits_after, wrong_other, wrong_terms, wrong_by_row}
use Rattle.plan_packed.specs.Inner.Steps.{Headed, word_at, children_of, all_times, root_times}
use Rattle.plan_packed.proofs.Reading.{term_is, tag_in_lem}
use Rattle.plan_packed.proofs.NameLaws.{times_of, term_times}
use Rattle.plan_packed.proofs.RowLaws.{by_row, children_are}
use Rattle.plan_packed.proofs.SingleTerm.{row_is, passes}
use Rattle.plan_scopes.specs.Inner.Scopes.{Handed, handed_by_row, hand_all, Each, TermsScoped}
use Rattle.plan_scopes.proofs.Handing.{each_map, each_both, times_handed, present, same_times, hand_size, unhanded, handed_once, Between, all_between}
use Rattle.plan_scopes.proofs.Roots.{sum_part, root_named}

-- what term t hands on, where its scope is m
abbrev pub handed_at : List ℕ → ℕ → ℕ → List Handed
handed_at b t m = handed_by_row m (word_at b t) (tag_of (word_at b t))

-- ---- a term that passes check 4

module _ (b : List ℕ) (t : ℕ) (right : wrong_term b t ≡ false) where
  tag_small : tag_of (word_at b t) < tag_count
  unfolding term_at laid_out
  tag_small = rw (← tag_in_lem b t) (omega (arith, (passes b t right).tag_small))

  -- it names its children as often as it hands on
  pub names : (m x : ℕ) → times_in (term_at b t) x ≡ times_handed (handed_at b t m) x
  unfolding node_at
  names m x =
      term_times b t x
      ∙ ap (λ c. times_of c x)
      (ap children_of (ap node_of (term_is b t) ∙ row_is (word_at b t) (tag_of (word_at b t)) refl) ∙ sym (children_are (word_at b t) (tag_of (word_at b t)) tag_small))
      ∙ sym (same_times (word_at b t) x m (tag_of (word_at b t)))

  -- they come after it, and are below the count
  pub later : (procedures n : ℕ) → Headed b procedures n → (m : ℕ) → Each (Between n t (word_at b t)) (handed_at b t m)
  unfolding wrong_term wrong_by_row
  later procedures n h m =
      let w = word_at b t in
      let k = tag_of w in
      let z = h.sized in
      let e : wrong_by_row procedures n t w k ≡ false =
      by_row procedures n t w (wrong_by_row procedures n t w k) tag_small refl
      ∙ rw (← term_is b t, z.procedures_are, z.terms_are) right in
      let x = wrong_other procedures (number_at k 2) (bits_to (number_at k 3) w) in
      let y = wrong_terms n t w k in
      all_between n t w m k (neither x y (neither (x || y) (not (eqb (bits_after (number_at k 1) w) 0)) e).0).1

-- a term before all of these is none of them
unhanded_before : (hs : List Handed) (x : ℕ) → Each (λ c. x < c.index) hs → times_handed hs x ≡ 0
unfolding times_handed
unhanded_before [] x a = refl
unhanded_before (c ∷ hs) x a = rw (ne_eqb c.index x (λ q. let z = a.0 in omega arith)) (omega (arith, unhanded_before hs x a.1))

-- ---- one more term

module _ (b : List ℕ) (procedures n u : ℕ) (z : Headed b procedures n) (h : u < n) (right : (t : ℕ) → t < suc u → wrong_term b t ≡ false)
    (s s' : List ℕ) (e : s' ≡ hand_all (handed_at b u (get_or s u 0)) s) (k : TermsScoped b u s) where
  abbrev news : List Handed
  news = handed_at b u (get_or s u 0)

  children_later : Each (Between n u (word_at b u)) news
  children_later = later b u (right u (omega arith)) procedures n z (get_or s u 0)

  more : (x : ℕ) → all_times b (suc u) x ≡ all_times b u x + times_handed news x
  unfolding all_times sum_below
  more x = omega (arith, names b u (right u (omega arith)) (get_or s u 0) x)

  -- a term that was named before is handed nothing more, if it is named once
  kept : (x : ℕ) → 1 ≤ all_times b u x → all_times b (suc u) x ≡ 1 → (all_times b u x ≡ 1) × (get_or s' x 0 ≡ get_or s x 0)
  kept x p o = let q = more x in (omega arith, rw e (unhanded news s x (omega arith)))

  -- nor is one that came before
  past : (x : ℕ) → x < suc u → get_or s' x 0 ≡ get_or s x 0
  past x l = rw e (unhanded news s x (unhanded_before news x (each_map news (λ c q. let y = q.0 in omega arith) children_later)))

  roots_named : (p : ℕ) → p < Format.procedures b → 1 ≤ all_times b u (root b p)
  unfolding all_times root_times
  roots_named p l = omega (arith, root_named b (Format.procedures b) p l)

  children_named : (t m : ℕ) → t < u → Each (λ c. 1 ≤ all_times b u c.index) (handed_at b t m)
  unfolding all_times
  children_named t m l =
      each_map (handed_at b t m)
      (λ c q. omega (arith, names b t (right t (omega arith)) m c.index, sum_part u (λ v. times_in (term_at b v) c.index) t l))
      (present (handed_at b t m))

  -- what a child has that is named once
  abbrev Has : Handed → Type 0
  Has c = all_times b (suc u) c.index ≡ 1 → get_or s' c.index 0 ≡ c.scope

  old : (t : ℕ) → t < u → Each Has (handed_at b t (get_or s t 0))
  old t l =
      each_both (handed_at b t (get_or s t 0)) (λ c f p o. let q = kept c.index p o in q.1 ∙ f q.0) (k.children t l) (children_named t (get_or s t 0) l)

  new : Each Has news
  new =
      each_both news (λ c f p o. let q = more c.index in ap (λ (x : List ℕ). get_or x c.index 0) e ∙ f (omega arith))
      (handed_once news s (each_map news (λ c q. let y = q.1 in let f = z.few in let i = k.size in omega arith) children_later)) (present news)

  here : (t : ℕ) → t < suc u → Dec (t ≡ u) → Each Has (handed_at b t (get_or s t 0))
  here t l (yes q) = rw q new
  here t l (no q) = old t (omega (arith, q))

  pub term_scoped : TermsScoped b (suc u) s'
  term_scoped = record {
    size = ap length e ∙ hand_size news s ∙ k.size;
    roots = λ p l o. let q = kept (root b p) (roots_named p l) o in q.1 ∙ k.roots p l q.0;
    children = λ t l. rw (past t l) (here t l (ℕ_discrete t u));
  }
