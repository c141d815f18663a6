-- A log, oldest first, and the same log newest first have the same indexes, chains and unordered accesses. Assumes nothing.
use Prim.Native.Nat.{ℕ, zero, suc, ◌<◌, ◌+◌}
use native.Mathlib.Omega.{arith}
use mathlib.Core.Path.{◌≡◌, sym, ap, ◌∙◌, subst}
use mathlib.Core.Bool.{true≢false}
use mathlib.Core.List.{List, [], ◌∷◌, reverse_aux, reverse}
use mathlib.Core.Logic.{◌⊎◌, inl, inr, ◌↔◌}
use mathlib.Core.Option.{Option, some}
use lib.ListN.{length, get_elem?}
use Rattle.format.specs.Version.{Version}
use Rattle.log_records.specs.Record.{Record}
use Rattle.log_order.specs.Chains.{At, Linked, Chain, one, more, LastWrite, Unordered}
use Rattle.log_order.proofs.Newest as N

turned_from : (L H : List Record) (i : ℕ) (r : Record) → N.At (reverse_aux L H) i r → N.At H i r ⊎ ((j : ℕ) × (i ≡ length H + j) × (get_elem? L j ≡ some r))
turned_from [] H i r a = inl a
turned_from (x ∷ L) H i r a = go (turned_from L (x ∷ H) i r a)
  where
    top : ((i ≡ length H) × (x ≡ r)) ⊎ N.At H i r → N.At H i r ⊎ ((j : ℕ) × (i ≡ length H + j) × (get_elem? (x ∷ L) j ≡ some r))
    top (inl (e, q)) = inr (0, omega arith, ap {B = Option Record} some q)
    top (inr b) = inl b

    go : N.At (x ∷ H) i r ⊎ ((j : ℕ) × (i ≡ suc (length H) + j) × (get_elem? L j ≡ some r))
        → N.At H i r ⊎ ((j : ℕ) × (i ≡ length H + j) × (get_elem? (x ∷ L) j ≡ some r))
    go (inl b) = top (N.at_cases b)
    go (inr (j, e, q)) = inr (suc j, omega arith, q)

turned_old : (L H : List Record) (i : ℕ) (r : Record) → N.At H i r → N.At (reverse_aux L H) i r
turned_old [] H i r a = a
turned_old (x ∷ L) H i r a = turned_old L (x ∷ H) i r (N.back a)

turned_to : (L H : List Record) (j : ℕ) (r : Record) → get_elem? L j ≡ some r → (i : ℕ) → i ≡ length H + j → N.At (reverse_aux L H) i r
turned_to [] H j r q i e = absurd (true≢false cc)
turned_to (x ∷ L) H zero r q i e = let k : x ≡ r = cc in turned_old L (x ∷ H) i r (subst (λ (y : Record). N.At (y ∷ H) i r) (sym k) (N.here (omega arith)))
turned_to (x ∷ L) H (suc j) r q i e = turned_to L (x ∷ H) j r q i (omega arith)

pub at→ : (L : List Record) (i : ℕ) (r : Record) → N.At (reverse L) i r → At L i r
at→ L i r a = go (turned_from L [] i r a)
  where
    go : N.At [] i r ⊎ ((j : ℕ) × (i ≡ 0 + j) × (get_elem? L j ≡ some r)) → At L i r
    go (inl b) = let c : i < 0 = N.at_below b in absurd (omega arith)
    go (inr (j, e, q)) = let k : i ≡ j = omega arith in ap (get_elem? L) k ∙ q

pub at← : (L : List Record) (i : ℕ) (r : Record) → At L i r → N.At (reverse L) i r
at← L i r q = turned_to L [] i r q i (omega arith)

module _ (v : Version) (L : List Record) where
  linked→ : {i j : ℕ} → N.Linked v (reverse L) i j → Linked v L i j
  linked→ {i} {j} l = record {
    earlier = l.earlier;
    later = l.later;
    at_i = at→ L i l.earlier l.at_i;
    at_j = at→ L j l.later l.at_j;
    before =
        l.before;
    paired = l.paired;
  }

  linked← : {i j : ℕ} → Linked v L i j → N.Linked v (reverse L) i j
  linked← {i} {j} l = record {
    earlier = l.earlier;
    later = l.later;
    at_i = at← L i l.earlier l.at_i;
    at_j = at← L j l.later l.at_j;
    before =
        l.before;
    paired = l.paired;
  }

  pub chain→ : {i j : ℕ} → N.Chain v (reverse L) i j → Chain v L i j
  chain→ (N.one l) = one (linked→ l)
  chain→ (N.more c l) = more (chain→ c) (linked→ l)

  pub chain← : {i j : ℕ} → Chain v L i j → N.Chain v (reverse L) i j
  chain← (one l) = N.one (linked← l)
  chain← (more c l) = N.more (chain← c) (linked← l)

  pub last→ : (j o f i : ℕ) → N.LastWrite (reverse L) j o f i → LastWrite L j o f i
  last→ j o f i d = record {
    write_record = d.write_record;
    at_i = at→ L i d.write_record d.at_i;
    writes = d.writes;
    before = d.before;
    latest =
        λ m w h x b. d.latest m w (at← L m w h) x b;
  }

  pub last← : (j o f i : ℕ) → LastWrite L j o f i → N.LastWrite (reverse L) j o f i
  last← j o f i d = record {
    write_record = d.write_record;
    at_i = at← L i d.write_record d.at_i;
    writes = d.writes;
    before = d.before;
    latest =
        λ m w h x b. d.latest m w (at→ L m w h) x b;
  }

  pub unordered→ : (j : ℕ) → N.Unordered v (reverse L) j → Unordered v L j
  unordered→ j u = record {
    access = u.access;
    at_j = at→ L j u.access u.at_j;
    plain = u.plain;
    last = u.last;
    is_last =
        last→ j u.access.object u.access.field u.last u.is_last;
    no_chain = λ c. u.no_chain (chain← c);
  }

  pub unordered← : (j : ℕ) → Unordered v L j → N.Unordered v (reverse L) j
  unordered← j u = record {
    access = u.access;
    at_j = at← L j u.access u.at_j;
    plain = u.plain;
    last = u.last;
    is_last =
        last← j u.access.object u.access.field u.last u.is_last;
    no_chain = λ c. u.no_chain (chain→ c);
  }

  pub unordered↔ : (j : ℕ) → N.Unordered v (reverse L) j ↔ Unordered v L j
  unordered↔ j = (unordered→ j, unordered← j)
