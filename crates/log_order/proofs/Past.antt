-- The past of a record, newest first, in a log that is oldest first. Assumes nothing.
use Prim.Native.Nat.{ℕ, suc, zero, ◌<◌, ◌≤◌}
use mathlib.Core.Path.{◌≡◌, refl, sym, ◌∙◌, ap}
use mathlib.Core.Bool.{true≢false}
use mathlib.Core.List.{List, [], ◌∷◌, ◌++◌, reverse, reverse-append}
use lib.ListN.{length, take, drop, get_or, length-take, length-reverse, take-append-drop}
use lib.Seq.{take-suc}
use native.Mathlib.Omega.{arith}
use Rattle.log_records.specs.Record.{Record}
use Rattle.log_order.specs.Chains.{At}

-- the first n records, newest first
unfoldable pub past : List Record → ℕ → List Record
past L n = reverse (take n L)

pub past_zero : (L : List Record) → past L 0 ≡ []
unfolding past
past_zero L = refl

pub past_length : (L : List Record) (n : ℕ) → n ≤ length L → length (past L n) ≡ n
unfolding past
past_length L n h = length-reverse (take n L) ∙ length-take n L ∙ omega arith

pub past_suc : (L : List Record) (n : ℕ) (d : Record) → n < length L → past L (suc n) ≡ get_or L n d ∷ past L n
unfolding past
past_suc L n d h = ap reverse (take-suc L n d h) ∙ reverse-append (take n L) (get_or L n d ∷ [])

-- ---- at an index

pub at_within : (L : List Record) (i : ℕ) (r : Record) → At L i r → i < length L
at_within [] i r h = absurd (true≢false cc)
at_within (x ∷ L) zero r h = omega arith
at_within (x ∷ L) (suc i) r h = let b = at_within L i r h in omega arith

pub at→get_d : (L : List Record) (i : ℕ) (r d : Record) → At L i r → get_or L i d ≡ r
at→get_d [] i r d h = absurd (true≢false cc)
at→get_d (x ∷ L) zero r d h = cc
at→get_d (x ∷ L) (suc i) r d h = at→get_d L i r d h

-- the log turned is its later records, the record and the record's past
pub turned_at : (L : List Record) (j : ℕ) (r : Record) → At L j r → reverse L ≡ reverse (drop (suc j) L) ++ r ∷ past L j
unfolding past
turned_at L j r h =
    ap reverse (sym (take-append-drop (suc j) L)) ∙ reverse-append (take (suc j) L) (drop (suc j) L)
    ∙ ap (λ (K : List Record). reverse (drop (suc j) L) ++ K) (past_suc L j r (at_within L j r h) ∙ ap (λ (x : Record). x ∷ past L j) (at→get_d L j r r h))
