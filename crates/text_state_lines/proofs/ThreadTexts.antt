-- The lines of several threads: one more thread is one more line; and by their states and totals. Assumes nothing.
use Prim.Native.Nat.{ℕ, zero, suc, ◌+◌, ◌<◌}
use native.Mathlib.Nat.{add-zero, zero-add}
use native.Mathlib.Omega.{arith}
use mathlib.Core.Path.{◌≡◌, refl, sym, ap, ◌∙◌}
use mathlib.Core.List.{List, [], ◌∷◌, ◌++◌, append-nil, append_assoc, map}
use lib.ListN.{length, get_or, take}
use Rattle.run_outcome.specs.declared.Thread.{Thread}
use Rattle.play.specs.Answer.{status_of}
use Rattle.text_state_lines.specs.Lines.{state_line, state_lines}
use Rattle.text_state_lines.specs.Inner.Threads.{thread_lines}

-- the line of one thread
abbrev pub line_of : ℕ → Thread → List ℕ
line_of p t = state_line p (status_of t.state) t.learnt

-- one more thread
lines_more : (p : ℕ) (ts : List Thread) (n : ℕ) (d : Thread) → n < length ts
    → thread_lines p (take (suc n) ts) ≡ thread_lines p (take n ts) ++ line_of (p + n) (get_or ts n d)
unfolding thread_lines
lines_more p [] n d h = absurd (omega arith)
lines_more p (t ∷ ts) zero d h = append-nil (line_of p t) ∙ ap (λ (k : ℕ). line_of k t) (sym (add-zero p))
lines_more p (t ∷ ts) (suc n) d h =
    ap (λ (l : List ℕ). line_of p t ++ l)
    (lines_more (suc p) ts n d (omega arith) ∙ ap (λ (k : ℕ). thread_lines (suc p) (take n ts) ++ line_of k (get_or ts n d))
    (let e : suc p + n ≡ p + suc n = omega arith in e))
    ∙ sym (append_assoc (line_of p t) (thread_lines (suc p) (take n ts)) (line_of (p + suc n) (get_or ts n d)))

pub lines_next : (ts : List Thread) (n : ℕ) (d : Thread) → n < length ts
    → thread_lines 0 (take n ts) ++ line_of n (get_or ts n d) ≡ thread_lines 0 (take (suc n) ts)
lines_next ts n d h = sym (lines_more 0 ts n d h ∙ ap (λ (k : ℕ). thread_lines 0 (take n ts) ++ line_of k (get_or ts n d)) (zero-add n))

-- by their states and their totals
pub lines_are : (p : ℕ) (ts : List Thread)
    → thread_lines p ts ≡ state_lines p (map (λ (t : Thread). status_of t.state) ts) (map (λ (t : Thread). t.learnt) ts)
unfolding thread_lines state_lines
lines_are p [] = refl
lines_are p (t ∷ ts) = ap (λ (l : List ℕ). line_of p t ++ l) (lines_are (suc p) ts)
