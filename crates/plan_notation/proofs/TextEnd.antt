-- The tokens of a text: the end is the last of them, and there once. Assumes nothing.
use Prim.Native.Nat.{ℕ, zero, suc, ◌+◌, ◌≤◌}
use native.Mathlib.Omega.{arith}
use mathlib.Core.Path.{◌≡◌, refl}
use mathlib.Core.Bool.{Bool, true, false, cond, ◌||◌}
use mathlib.Core.List.{List, [], ◌∷◌, ◌++◌, map}
use lib.Dec.{eqb, ltb}
use Rattle.plan_notation.specs.Tokens.{text_end}
use Rattle.plan_notation.specs.Lexing.{Token, is_blank, digit_of, mark_of, value_of, name_from, name_of, Begun, nothing, comment, name, colon, alone}
use Rattle.plan_notation.specs.Lexing.{begun_after}
use Rattle.plan_notation.specs.Lexing.{ended_by, ended_at_end, tokens_from, codes_of}

-- behind the end there is nothing
abbrev pub Ended : List ℕ → Type 0
Ended [] = Unit {0}
Ended (t ∷ ts) = (t ≡ text_end → ts ≡ []) × Ended ts

-- tokens that are not the end
abbrev NoEnd : List Token → Type 0
NoEnd [] = Unit {0}
NoEnd (t ∷ ts) = (t.code ≡ text_end → ⊥) × NoEnd ts

abbrev codes : List Token → List ℕ
codes ts = map (λ (t : Token). t.code) ts

ended_append : (ts us : List Token) → NoEnd ts → Ended (codes us) → Ended (codes (ts ++ us))
ended_append [] us h k = k
ended_append (t ∷ ts) us h k = ((λ z. absurd (h.0 z)), ended_append ts us h.1 k)

-- ---- each kind of token

neither : (x : Bool) (a b : ℕ) → (a ≡ text_end → ⊥) → (b ≡ text_end → ⊥) → cond x a b ≡ text_end → ⊥
neither true a b h k = h
neither false a b h k = k

none_if : (x : Bool) (ts us : List Token) → NoEnd ts → NoEnd us → NoEnd (cond x ts us)
none_if true ts us h k = h
none_if false ts us h k = k

mark_no_end : (c : ℕ) → mark_of c ≡ text_end → ⊥
unfolding mark_of
mark_no_end c =
    neither (eqb c 40) 62 _ (omega arith)
    (neither (eqb c 41) 63 _ (omega arith)
    (neither (eqb c 44) 64 _ (omega arith) (neither (eqb c 46) 65 _ (omega arith)
    (neither (eqb c 61) 66 _ (omega arith) (neither (eqb c 45) 68 70 (omega arith) (omega arith))))))

names_no_end : (n t v : ℕ) → t + n ≤ 69 → name_from n t v ≡ text_end → ⊥
unfolding name_from
names_no_end zero t v h = omega arith
names_no_end (suc n) t v h = neither (eqb (value_of t) v) t _ (omega arith) (names_no_end n (suc t) v (omega arith))

name_no_end : (v : ℕ) → name_of v ≡ text_end → ⊥
unfolding name_of
name_no_end v = names_no_end 62 0 v (omega arith)

alone_no_end : (i c : ℕ) → NoEnd (alone i c)
unfolding alone
alone_no_end i c = none_if (is_blank c || eqb c 35 || eqb c 58 || ltb 0 (digit_of c)) [] _ tt (mark_no_end c, tt)

by_no_end : (b : Begun) (i c : ℕ) → NoEnd (ended_by b i c)
unfolding ended_by
by_no_end nothing i c = alone_no_end i c
by_no_end comment i c = tt
by_no_end (name s v) i c = none_if (ltb 0 (digit_of c)) [] _ tt (name_no_end v, alone_no_end i c)
by_no_end (colon s) i c = none_if (eqb c 61) _ _ (omega arith, tt) (omega arith, alone_no_end i c)

last_no_end : (b : Begun) → NoEnd (ended_at_end b)
unfolding ended_at_end
last_no_end nothing = tt
last_no_end comment = tt
last_no_end (name s v) = (name_no_end v, tt)
last_no_end (colon s) = (omega arith, tt)

-- ---- the text

from_ended : (cs : List ℕ) (b : Begun) (i : ℕ) → Ended (codes (tokens_from b i cs))
unfolding tokens_from
from_ended [] b i = ended_append (ended_at_end b) _ (last_no_end b) ((λ z. refl), tt)
from_ended (c ∷ cs) b i = ended_append (ended_by b i c) _ (by_no_end b i c) (from_ended cs (begun_after b i c) (suc i))

pub codes_ended : (text : List ℕ) → Ended (codes_of text)
unfolding codes_of
codes_ended text = from_ended text nothing 0
