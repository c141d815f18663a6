-- The first eight bytes of an accepted plan are those of its program's header and mask. Assumes nothing.
use Prim.Native.Nat.{ℕ, zero, suc, ◌+◌, ◌-◌, ◌*◌, ◌/◌, ◌%◌, ◌^◌, ◌≤◌, ◌<◌}
use native.Mathlib.Omega.{arith}
use mathlib.Core.Path.{◌≡◌, refl, sym, ap, ap₂, ◌∙◌}
use mathlib.Core.List.{List, [], ◌∷◌, ◌++◌}
use mathlib.Core.Option.{none}
use lib.ListN.{length, take, drop, get_or}
use lib.Seq.{drop-cons, take-add}
use Rattle.format.specs.Bits.{bits_at}
use Rattle.format.proofs.BitLaws.{bits_add, byte_at, field_of}
use Rattle.plan_packed.specs.Format
use Rattle.plan_packed.specs.Format.{version, terms, header_spare, volatiles}
use Rattle.plan_packed.specs.Trees.{program_of}
use Rattle.plan_packed.specs.Check.{refusal}
use Rattle.plan_packed.proofs.Accepted.{Accepted, accepted}
use Rattle.plan_written.specs.Written.{bytes_of, version_number, header_of}
use Rattle.plan_written.proofs.Passes.{count_is, total_is, version_of_lem, version_back, mask_is, plan_length_lem}
use Rattle.plan_written.proofs.ReadBack.{heads, header_is}

-- the last n bytes of the number in M bytes
bytes_of_bits : (l : List ℕ) (i M n : ℕ) → ((j : ℕ) → get_or l j 0 < 256) → n ≤ M → i + M ≤ length l
    → bytes_of n (bits_at l (i * 8) (8 * M)) ≡ take n (drop (i + (M - n)) l)
unfolding bytes_of
bytes_of_bits l i M zero b h k = refl
bytes_of_bits l i M (suc n) b h k =
    let j = i + (M - suc n) in
    let next : suc j ≡ i + (M - n) = omega arith in
    let wide : 8 * (M - suc n) + 8 + 8 * n ≡ 8 * M = omega arith in
    let at : i * 8 + 8 * (M - suc n) ≡ j * 8 = omega arith in
    let here : bits_at l (i * 8) (8 * M) / 2 ^ (8 * n) % 256 ≡ get_or l j 0 =
    sym (field_of l (i * 8) (8 * (M - suc n)) 8 (8 * n) ∙ ap (λ (v : ℕ). bits_at l (i * 8) v / 2 ^ (8 * n) % 256) wide) ∙ ap (λ (v : ℕ). bits_at l v 8) at
    ∙ byte_at l j (b j) in
    let rest : bytes_of n (bits_at l (i * 8) (8 * M)) ≡ take n (drop (suc j) l) = bytes_of_bits l i M n b (omega arith) k
    ∙ ap (λ (v : ℕ). take n (drop v l)) (sym next) in
    ap₂ (λ (x : ℕ) (xs : List ℕ). x ∷ xs) here rest ∙ sym (ap (take (suc n)) (drop-cons l j 0 (omega arith)))

-- the bytes of four bytes' bits
four_bytes : (l : List ℕ) (i : ℕ) → ((j : ℕ) → get_or l j 0 < 256) → i + 4 ≤ length l → bytes_of 4 (bits_at l (i * 8) 32) ≡ take 4 (drop i l)
four_bytes l i b h = let z : i + (4 - 4) ≡ i = omega arith in bytes_of_bits l i 4 4 b (omega arith) h ∙ ap (λ (j : ℕ). take 4 (drop j l)) z

-- the header's numbers, as bits
module _ (b : List ℕ) where
  version_bits : bits_at b 0 4 ≡ version b
  unfolding version
  version_bits = refl

  procedures_bits : bits_at b 4 6 ≡ Format.procedures b
  unfolding Format.procedures
  procedures_bits = refl

  terms_bits : bits_at b 10 12 ≡ terms b
  unfolding terms
  terms_bits = refl

  spare_bits : bits_at b 22 10 ≡ header_spare b
  unfolding header_spare
  spare_bits = refl

  volatiles_bits : bits_at b 32 32 ≡ volatiles b
  unfolding volatiles
  volatiles_bits = refl

-- the first eight bytes
module _ (b : List ℕ) (small : (j : ℕ) → get_or b j 0 < 256) (h : refusal b ≡ none) where
  facts : Accepted b
  facts = accepted b h

  header_bits : bits_at b 0 32 ≡ header_of (program_of b)
  header_bits =
      let v : version_number (program_of b).version ≡ version b = ap version_number (version_of_lem b h) ∙ version_back (version b) facts.version_known in
      let n = count_is b h in
      let m = total_is b h in
      let s = facts.spare_zero in
      omega (
        arith,
        bits_add b 0 22 10,
        bits_add b 0 10 12,
        bits_add b 0 4 6,
        version_bits b,
        procedures_bits b,
        terms_bits b,
        spare_bits b,
        header_is (program_of b),
      )

  pub first_eight : take 8 b ≡ heads (program_of b)
  first_eight =
      let long : 8 ≤ length b = omega (arith, facts.length_right, plan_length_lem b) in
      take-add 4 4 b
      ∙ ap₂ (λ (x y : List ℕ). x ++ y)
      (sym (four_bytes b 0 small (omega arith)) ∙ ap (bytes_of 4) header_bits)
      (sym (four_bytes b 4 small (omega arith)) ∙ ap (bytes_of 4) (volatiles_bits b ∙ sym (mask_is b h)))
