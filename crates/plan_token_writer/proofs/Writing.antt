-- The tree's tokens: some are written, the others are those of the items on the stack. Assumes nothing.
use Prim.Native.Nat.{ℕ, ◌+◌, ◌≤◌, ◌<◌}
use native.Mathlib.Omega.{arith}
use mathlib.Core.Path.{◌≡◌, sym, ap, subst, ◌∙◌}
use mathlib.Core.List.{List, [], ◌∷◌, ◌++◌, append-nil, append_assoc}
use lib.ListN.{length, length-append}
use Rattle.plan_packed.specs.Inner.Steps.{Ordered, tree_in}
use Rattle.text.specs.Inner.Wrote.{Wrote}
use Rattle.text.proofs.Added.{added_none, added_more, added_as}
use Rattle.plan_notation.specs.Shown.{loose, shown}
use Rattle.plan_token_writer.specs.declared.Standing.{Standing}
use Rattle.plan_token_writer.specs.Inner.Items.{tokens_in, stack_of, InContext, Pushed, Running, Stepped}
use Rattle.plan_token_writer.proofs.Stepping.{start_context, start_tokens}

-- of these tokens some are written
pub record Writing (words ts area₀ : List ℕ) (from : ℕ) (stack : List ℕ) (top : ℕ) (area : List ℕ) (at : ℕ) : Type 0 where
  pub before : List ℕ
  pub whole : before ++ tokens_in words (stack_of stack top) ≡ ts
  pub wrote : Wrote area₀ from before area at
  pub contexts : InContext (stack_of stack top)
  pub size : length area₀ + 8 ≤ length stack

-- at the start the root is on the stack
pub starts : (words : List ℕ) → Ordered words → (root : ℕ) → root < 1024 → (area : List ℕ) (from : ℕ) {stack stack' : List ℕ} {top : ℕ}
    → Pushed stack 0 (root ∷ []) stack' top
    → length area + 8 ≤ length stack → Writing words (shown loose (tree_in words root)) area from stack' top area from
unfolding stack_of
starts words o root h area from p e =
    record {
      before = [];
      whole = ap (tokens_in words) p.items ∙ start_tokens words o root h;
      wrote = added_none area from;
      contexts = subst InContext (sym p.items) (start_context words o root h);
      size = omega (arith, p.kept, e);
    }

-- what a step is given
pub going : (words : List ℕ) → Ordered words → {ts area₀ : List ℕ} {from : ℕ} {stack : List ℕ} {top : ℕ} {area : List ℕ} {at : ℕ}
    → from + length ts ≤ length area₀ → 0 < top → Writing words ts area₀ from stack top area at → Running words stack top area at
going words o {ts} {area₀} {from} {stack} {top} r h w =
    record {
      ordered = o;
      some = h;
      size = omega (arith, w.size, w.wrote.kept);
      contexts = w.contexts;
      room = omega (arith, r, w.wrote.next, w.wrote.kept, ap length w.whole, length-append w.before (tokens_in words (stack_of stack top)));
    }

-- what a step leaves
pub goes_on_lem : {words ts area₀ : List ℕ} {from : ℕ} {stack : List ℕ} {top : ℕ} {area : List ℕ} {at : ℕ} {area' stack' : List ℕ} {r : Standing}
    → Writing words ts area₀ from stack top area at → Stepped words area at stack top area' stack' r → Writing words ts area₀ from stack' r.top area' r.at
goes_on_lem {words} {stack' = stack'} {r} w s =
    record {
      before = w.before ++ s.tokens;
      whole = append_assoc w.before s.tokens (tokens_in words (stack_of stack' r.top)) ∙ ap (λ (l : List ℕ). w.before ++ l) s.left ∙ w.whole;
      wrote = added_more w.wrote s.wrote;
      contexts = s.contexts;
      size = omega (arith, s.kept, w.size);
    }

-- at the end nothing is on the stack
pub ends : {words ts area₀ : List ℕ} {from : ℕ} {stack : List ℕ} {top : ℕ} {area : List ℕ} {at : ℕ} → Writing words ts area₀ from stack top area at → top ≡ 0
    → Wrote area₀ from ts area at
unfolding stack_of tokens_in
ends {words} {stack = stack} w e =
    added_as (sym (append-nil w.before) ∙ ap (λ (n : ℕ). w.before ++ tokens_in words (stack_of stack n)) (sym e) ∙ w.whole) w.wrote
