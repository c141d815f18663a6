-- Every set (document 02, E9), on logs oldest first: after a legal log a present thread's set holds key 0 and the keys of just those plain writes
-- that would have a chain to a `new` record of this thread, were one put at the log's end. Assumes nothing.
use Prim.Native.Nat.{ℕ, suc, ◌<◌, ◌+◌}
use native.Mathlib.Omega.{arith}
use mathlib.Core.Path.{◌≡◌, refl, sym, ap, ◌∙◌, subst}
use mathlib.Core.Bool.{Bool, true, false, cond}
use mathlib.Core.List.{List, [], ◌∷◌, ◌++◌, reverse_aux, reverse, reverse-append}
use mathlib.Core.Logic.Iff
use mathlib.Core.Logic.{◌⊎◌, ◌↔◌}
use lib.Dec.{T}
use lib.ListN.{length, take, drop, length-reverse}
use Rattle.format.specs.Version.{Version}
use Rattle.log_records.specs.Record.{new, write, Record, entry}
use Rattle.log_order.specs.Chains.{At, Chain}
use Rattle.log_order.proofs.Tests.{or_iff, same_kind}
use Rattle.log_order.proofs.Newest as N
use Rattle.log_order.proofs.WriteKeys.{write_count, makes, older, key_record, key_number}
use Rattle.log_order.proofs.WriteKeys as W
use Rattle.log_order.proofs.KeyMachine.{after, Legal}
use Rattle.log_order.proofs.Traced.{every_set_newest}
use Rattle.log_order.proofs.Traced as R
use Rattle.log_order.proofs.Past.{past, past_length, at_within, turned_at}
use Rattle.log_order.proofs.Turned.{at→, chain→, chain←}

-- the plain write at index i made key k: it is the k-th plain write, from 1
pub record KeyAt (L : List Record) (i k : ℕ) : Type 0 where
  pub write_record : Record
  pub at_i : At L i write_record
  pub is_write : write_record.kind ≡ write
  pub number : k ≡ suc (write_count (take i L))

-- key k is that of a plain write that would have a chain to a `new` record of thread t, were one put at the log's end
pub record WouldReach (v : Version) (L : List Record) (t k : ℕ) : Type 0 where
  pub index : ℕ
  pub made_at : KeyAt L index k
  pub chain : Chain v (L ++ (entry new t 0 0 0 ∷ [])) index (length L)

-- ---- the same keys newest first

regroup : (b : Bool) (n m : ℕ) → n + cond b (suc m) m ≡ cond b (suc n) n + m
regroup true n m = omega arith
regroup false n m = omega arith

count_turned : (L H : List Record) → write_count (reverse_aux L H) ≡ write_count L + write_count H
count_turned [] H = omega arith
count_turned (r ∷ L) H = count_turned L (r ∷ H) ∙ regroup (same_kind r.kind write) (write_count L) (write_count H)

key_append : (K : List Record) {H : List Record} {i k : ℕ} → W.KeyAt H i k → W.KeyAt (K ++ H) i k
key_append [] y = y
key_append (s ∷ K) y = older (key_append K y)

pub key← : (L : List Record) (i k : ℕ) → KeyAt L i k → W.KeyAt (reverse L) i k
unfolding past
key← L i k y =
    let b : i < length L = at_within L i y.write_record y.at_i in
    subst (λ (H : List Record). W.KeyAt H i k) (sym (turned_at L i y.write_record y.at_i))
    (key_append (reverse (drop (suc i) L))
    (makes y.is_write (sym (past_length L i (omega arith))) (y.number ∙ ap suc (sym (count_turned (take i L) [] ∙ omega arith)))))

pub key→ : (L : List Record) (i k : ℕ) → W.KeyAt (reverse L) i k → KeyAt L i k
key→ L i k y = record {
  write_record = d.0;
  at_i = at;
  is_write = d.2;
  number =
      key_number y (key← L i (suc (write_count (take i L))) (record { write_record = d.0; at_i = at; is_write = d.2; number = refl }));
}
  where
    d : (r : Record) × N.At (reverse L) i r × (r.kind ≡ write)
    d = key_record y

    at : At L i d.0
    at = at→ L i d.0 d.1

module _ (v : Version) (L : List Record) (t : ℕ) where
  abbrev next : Record
  next = entry new t 0 0 0

  turned : reverse (L ++ (next ∷ [])) ≡ next ∷ reverse L
  turned = reverse-append L (next ∷ [])

  would→ : (k : ℕ) → R.WouldReach v (reverse L) t k → WouldReach v L t k
  would→ k d = record {
    index = d.index;
    made_at = key→ L d.index k d.made_at;
    chain = subst (λ (n : ℕ). Chain v (L ++ (next ∷ [])) d.index n) (length-reverse L)
        (chain→ v (L ++ (next ∷ [])) (subst (λ (H : List Record). N.Chain v H d.index (length (reverse L))) (sym turned) d.chain));
  }

  would← : (k : ℕ) → WouldReach v L t k → R.WouldReach v (reverse L) t k
  would← k d = record {
    index = d.index;
    made_at = key← L d.index k d.made_at;
    chain = subst (λ (n : ℕ). N.Chain v (next ∷ reverse L) d.index n) (sym (length-reverse L))
        (subst (λ (H : List Record). N.Chain v H d.index (length L)) turned (chain← v (L ++ (next ∷ [])) d.chain));
  }

-- a present thread's set after a legal log
pub every_set : (v : Version) (L : List Record) → Legal v (reverse L) → (t k : ℕ) → T ((after v (reverse L)).present t)
    → T ((after v (reverse L)).knows t k) ↔ ((k ≡ 0) ⊎ WouldReach v L t k)
every_set v L l t k p = Iff.trans (every_set_newest v (reverse L) l t k p) (or_iff (would→ v L t k, would← v L t k))
