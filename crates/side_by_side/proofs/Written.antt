-- The schedule that is written from moves: there is one, of marks by chains, where the failing access is unordered; and no two. Assumes nothing.
use Prim.Native.Nat.{ℕ, suc, ◌<◌, ◌≤◌}
use native.Mathlib.Omega.{arith}
use mathlib.Core.Path.{◌≡◌, refl, sym, ap, ◌∙◌, subst as along}
use mathlib.Core.Bool.{Bool, true, false, cond, true≢false}
use mathlib.Core.List.{List, [], ◌∷◌}
use mathlib.Core.Logic.{◌⊎◌, inl, inr, ◌↔◌}
use mathlib.Core.Option.{some}
use lib.Dec.{T}
use lib.ListN.{length, get_elem?}
use Rattle.format.specs.Version.{v1}
use Rattle.log_records.specs.Record.{Record}
use Rattle.log_order.specs.Chains.{At, Chain, one, more, LastWrite, Unordered}
use Rattle.side_by_side.specs.Schedule.{Numbers, first_numbers, numbers_after, next_after, or_zero, picks_from, picks_of}
use Rattle.side_by_side.specs.SideBySide.{Stays, WrittenFrom}

-- there is one last write
pub last_once : (L : List Record) (j o f i i' : ℕ) → LastWrite L j o f i → LastWrite L j o f i' → i ≡ i'
last_once L j o f i i' a b =
    let x : i ≤ i' = b.latest i a.write_record a.at_i a.writes a.before in
    let y : i' ≤ i = a.latest i' b.write_record b.at_i b.writes b.before in
    omega arith

chain_up : {L : List Record} {a b : ℕ} → Chain v1 L a b → a < b
chain_up (one l) = l.before
chain_up (more c l) = let x = chain_up c in let y = l.before in omega arith

-- marks by the chains to the failing access and to the last write make the schedule
module _ (L : List Record) (failing last : ℕ) (access : Record) (at_failing : At L failing access) (at_end : suc failing ≡ length L)
    (is_last : LastWrite L failing access.object access.field last) (u : Unordered v1 L failing) where
  its_access : u.access ≡ access
  its_access = let e : some u.access ≡ some access = sym u.at_j ∙ at_failing in cc

  its_last : u.last ≡ last
  its_last =
      last_once L failing access.object access.field u.last last
      (along (λ (z : Record). LastWrite L failing z.object z.field u.last) its_access u.is_last) is_last

  not_last : (k : ℕ) → Chain v1 L k failing ⊎ Chain v1 L k last → k ≡ last → ⊥
  not_last k (inl c) e = u.no_chain (along (λ (n : ℕ). Chain v1 L n failing) (e ∙ sym its_last) c)
  not_last k (inr c) e = let b = chain_up c in omega arith

  pub written_by : (kept : ℕ → Bool) → ((k : ℕ) → T (kept k) ↔ (Chain v1 L k failing ⊎ Chain v1 L k last)) → WrittenFrom L (picks_of kept L)
  written_by kept by_chains = record {
    failing = failing;
    access = access;
    at_failing = at_failing;
    at_end = at_end;
    last = last;
    is_last = is_last;
    kept = kept;
    kept_stays = λ k. (λ h. record { chain = (by_chains k).0 h; not_write = not_last k ((by_chains k).0 h) }, λ s. (by_chains k).1 s.chain);
    picks_are = refl;
  }

-- what is written is determined
pub written_once : (L : List Record) (qs qs' : List ℕ) → WrittenFrom L qs → WrittenFrom L qs' → qs ≡ qs'
unfolding picks_of
written_once L qs qs' a b = a.picks_are ∙ same_picks L 0 first_numbers 1 ∙ sym b.picks_are
  where
    ends_same : a.failing ≡ b.failing
    ends_same = let x = a.at_end in let y = b.at_end in omega arith

    access_same : a.access ≡ b.access
    access_same =
        let x : get_elem? L b.failing ≡ some a.access = ap (get_elem? L) (sym ends_same) ∙ a.at_failing in
        let y : some a.access ≡ some b.access = sym x ∙ b.at_failing in
        cc

    last_same : a.last ≡ b.last
    last_same =
        last_once L b.failing b.access.object b.access.field a.last b.last
        (along (λ (z : Record). LastWrite L b.failing z.object z.field a.last) access_same
        (along (λ (n : ℕ). LastWrite L n a.access.object a.access.field a.last) ends_same a.is_last)) b.is_last

    forth : (k : ℕ) → T (a.kept k) → T (b.kept k)
    forth k h = (b.kept_stays k).1
        (along (λ (n : ℕ). Stays L b.failing n k) last_same (along (λ (n : ℕ). Stays L n a.last k) ends_same ((a.kept_stays k).0 h)))

    back' : (k : ℕ) → T (b.kept k) → T (a.kept k)
    back' k h = (a.kept_stays k).1
        (along (λ (n : ℕ). Stays L a.failing n k) (sym last_same) (along (λ (n : ℕ). Stays L n b.last k) (sym ends_same) ((b.kept_stays k).0 h)))

    same : (k : ℕ) → a.kept k ≡ b.kept k
    same k = go (a.kept k) (b.kept k) (forth k) (back' k)
      where
        go : (x y : Bool) → (T x → T y) → (T y → T x) → x ≡ y
        go true true f h = refl
        go true false f h = absurd (f tt)
        go false true f h = absurd (h tt)
        go false false f h = refl

    same_picks : (K : List Record) (i : ℕ) (τ : Numbers) (n : ℕ) → picks_from a.kept i τ n K ≡ picks_from b.kept i τ n K
    same_picks [] i τ n = refl
    same_picks (z ∷ K) i τ n = go (a.kept i) (b.kept i) (same i) (same_picks K (suc i) (numbers_after z τ n) (next_after z n)) (same_picks K (suc i) τ n)
      where
        go : (x y : Bool) → x ≡ y → {A B A' B' : List ℕ} → A ≡ A' → B ≡ B' → cond x (or_zero (τ z.thread) ∷ A) B ≡ cond y (or_zero (τ z.thread) ∷ A') B'
        go true true e p q = ap (λ (l : List ℕ). or_zero (τ z.thread) ∷ l) p
        go true false e p q = absurd (true≢false e)
        go false true e p q = absurd (true≢false (sym e))
        go false false e p q = q
