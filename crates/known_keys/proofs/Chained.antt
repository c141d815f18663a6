-- The definitions against those of the theory of logs: a plain write's key is its number, and a chain to one `new` record of a thread is a chain to any.
-- Assumes nothing.
use Prim.Native.Nat.{ℕ, zero, suc}
use mathlib.Core.Path.{◌≡◌, refl, sym, ap, ◌∙◌, subst}
use mathlib.Core.Bool.{Bool, true, false, cond, true≢false}
use mathlib.Core.List.{List, [], ◌∷◌, ◌++◌, reverse, reverse-append}
use mathlib.Core.Logic.Iff
use mathlib.Core.Logic.{◌↔◌}
use lib.Dec.{eqb}
use lib.ListN.{length, take, length-reverse}
use Rattle.format.specs.Version.{Version}
use Rattle.log_records.specs.Record.{new, write, kind_number, Record, entry}
use Rattle.log_order.specs.Chains.{At, Chain}
use Rattle.log_order.proofs.Newest as N
use Rattle.log_order.proofs.Tests.{differ}
use Rattle.log_order.proofs.Ports.{of_thread, draws_own}
use Rattle.log_order.proofs.Flow.{Reach, own_chain}
use Rattle.log_order.proofs.Turned.{chain→, chain←}
use Rattle.log_order.proofs.EverySet.{WouldReach}
use Rattle.known_keys.specs.WriteKeys.{plain_writes, key_at}
use Rattle.known_keys.specs.KnownKeys.{NewOf, WouldChain, KeyOfChained}

-- ---- keys

one_more_lem : (b : Bool) (m n : ℕ) → m ≡ suc n → cond b (suc m) m ≡ suc (cond b (suc n) n)
one_more_lem true m n e = ap suc e
one_more_lem false m n e = e

-- the key of a plain write is one more than the plain writes before it
pub key_number : (L : List Record) (i : ℕ) (w : Record) → At L i w → w.kind ≡ write → key_at L i ≡ suc (plain_writes (take i L))
key_number [] i w h e = absurd (true≢false cc)
key_number (x ∷ L) zero w h e = let q : x ≡ w = cc in rw (q, e)
key_number (x ∷ L) (suc i) w h e = one_more_lem (eqb (kind_number x.kind) 3) (key_at L i) (plain_writes (take i L)) (key_number L i w h e)

-- ---- chains

module _ (v : Version) (L : List Record) (i : ℕ) where
  -- to any record put at the end that draws on its own thread alone, as a `new` does
  pub chained_reach : (r : Record) → r.kind ≡ new → WouldChain v L i r ↔ Reach v i (reverse L) (of_thread r.thread)
  chained_reach r e =
      Iff.trans turned
      (own_chain r (reverse L) i (draws_own v r (λ q. differ (sym e ∙ q) tt) (λ q. differ (sym e ∙ q) tt) (λ q. differ (sym e ∙ q) tt)))
    where
      turned : WouldChain v L i r ↔ N.Chain v (r ∷ reverse L) i (length (reverse L))
      turned = (
        λ c. subst (λ (n : ℕ). N.Chain v (r ∷ reverse L) i n) (sym (length-reverse L))
            (subst (λ (H : List Record). N.Chain v H i (length L)) (reverse-append L (r ∷ [])) (chain← v (L ++ (r ∷ [])) c)),
        λ c. subst (λ (n : ℕ). Chain v (L ++ (r ∷ [])) i n) (length-reverse L)
            (chain→ v (L ++ (r ∷ [])) (subst (λ (H : List Record). N.Chain v H i (length (reverse L))) (sym (reverse-append L (r ∷ []))) c)),
      )

  -- to any `new` record of one thread
  pub chained_thread : (t : ℕ) (r : Record) → NewOf t r → WouldChain v L i r ↔ Reach v i (reverse L) (of_thread t)
  chained_thread t r n = subst (λ (u : ℕ). WouldChain v L i r ↔ Reach v i (reverse L) (of_thread u)) n.of_thread (chained_reach r n.is_new)

-- the theory's words for the definition's
pub would_reach↔ : (v : Version) (L : List Record) (t : ℕ) (r : Record) → NewOf t r → (k : ℕ) → WouldReach v L t k ↔ KeyOfChained v L r k
would_reach↔ v L t r n k = (there, back)
  where
    same : (i : ℕ) → WouldChain v L i (entry new t 0 0 0) ↔ WouldChain v L i r
    same i = Iff.trans (chained_thread v L i t (entry new t 0 0 0) (record { is_new = refl; of_thread = refl })) (Iff.symm (chained_thread v L i t r n))

    there : WouldReach v L t k → KeyOfChained v L r k
    there d =
        let m = d.made_at in
        record {
          index = d.index;
          plain_write = record { write_record = m.write_record; at_i = m.at_i; is_write = m.is_write };
          its_key = m.number ∙ sym (key_number L d.index m.write_record m.at_i m.is_write);
          chained = (same d.index).0 d.chain;
        }

    back : KeyOfChained v L r k → WouldReach v L t k
    back d =
        let w = d.plain_write in
        let number = d.its_key ∙ key_number L d.index w.write_record w.at_i w.is_write in
        record {
          index = d.index;
          made_at = record { write_record = w.write_record; at_i = w.at_i; is_write = w.is_write; number = number };
          chain = (same d.index).1 d.chained;
        }
