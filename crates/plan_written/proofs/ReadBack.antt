-- The numbers that stand in a written plan: its header, mask, procedures and the 40 bits of its terms. Assumes nothing.
use Prim.Native.Nat.{ℕ, zero, suc, ◌+◌, ◌-◌, ◌*◌, ◌/◌, ◌%◌, ◌^◌, ◌≤◌, ◌<◌}
use native.Mathlib.Nat.{div-one}
use native.Mathlib.Omega.{arith}
use mathlib.Core.Path.{◌≡◌, refl, sym, ap, subst, ◌∙◌}
use mathlib.Core.Bool.{true≢false}
use mathlib.Core.List.{List, [], ◌∷◌, ◌++◌, append_assoc}
use mathlib.Core.Option.{some}
use lib.ListN.{length, length-append, get_or, get_elem?, take}
use Rattle.format.specs.Bits.{bits_at}
use Rattle.format.specs.Version.{Version, v0, v1}
use Rattle.format.proofs.BitLaws.{first_of, field_of}
use Rattle.plan_packed.specs.Syntax.{Procedure, Program}
use Rattle.plan_packed.specs.Format
use Rattle.plan_packed.specs.Format.{version, terms, header_spare, volatiles, parameters, root, plan_length, term_bit}
use Rattle.plan_packed.specs.Inner.Steps.{word_at}
use Rattle.plan_written.specs.Terms.{TermTree, term, Part, value, child, terms_of, size, size_of, words_from, words_below}
use Rattle.plan_written.specs.Written.{bytes_of, size_of_all, procedure_bytes, term_words, word_bytes, version_number, header_of, written}
use Rattle.plan_written.proofs.Bytes.{bytes_length, words_length, read_back, word_back}

-- ---- lengths

mutual
  unfolding size words_from

  pub tree_length : (e : TermTree) (n : ℕ) → length (words_from n e) ≡ size e
  tree_length (term k p q r) n =
      ap suc
      (length-append (words_below (suc n) p ++ words_below (suc n + size_of p) q) (words_below (suc n + size_of p + size_of q) r)
      ∙ omega (
        arith,
        length-append (words_below (suc n) p) (words_below (suc n + size_of p) q),
        part_length p (suc n),
        part_length q (suc n + size_of p),
        part_length r (suc n + size_of p + size_of q),
      ))

  pub part_length : (p : Part) (n : ℕ) → length (words_below n p) ≡ size_of p
  part_length (value v) n = refl
  part_length (child e) n = tree_length e n

pub terms_length : (ds : List Procedure) (n : ℕ) → length (term_words n ds) ≡ size_of_all ds
unfolding term_words size_of_all
terms_length [] n = refl
terms_length (d ∷ ds) n =
    omega (
      arith,
      length-append (words_from n (terms_of d.body)) (term_words (n + size (terms_of d.body)) ds),
      tree_length (terms_of d.body) n,
      terms_length ds (n + size (terms_of d.body)),
    )

pub procedures_length : (ds : List Procedure) (n : ℕ) → length (procedure_bytes n ds) ≡ 2 * length ds
unfolding procedure_bytes
procedures_length [] n = refl
procedures_length (d ∷ ds) n =
    omega (
      arith,
      length-append (bytes_of 2 (d.parameters * 2 ^ 12 + n)) (procedure_bytes (n + size (terms_of d.body)) ds),
      bytes_length 2 (d.parameters * 2 ^ 12 + n),
      procedures_length ds (n + size (terms_of d.body)),
    )

-- ---- a procedure

-- the number of procedure p's root, where the next term has number n
abbrev pub start_of : ℕ → List Procedure → ℕ → ℕ
start_of n ds p = n + size_of_all (take p ds)

procedure_back : (front l : List ℕ) (ds : List Procedure) (k n p : ℕ) (d : Procedure) → length front ≡ k → get_elem? ds p ≡ some d → d.parameters < 16
    → start_of n ds p < 4096
    → bits_at (front ++ (procedure_bytes n ds ++ l)) ((k + 2 * p) * 8) 16 ≡ d.parameters * 4096 + start_of n ds p
unfolding procedure_bytes size_of_all
procedure_back front l [] k n p d f e h g = absurd (true≢false cc)
procedure_back front l (d ∷ ds) k n zero d' f e h g =
    let same : d ≡ d' = cc in
    let few : d.parameters < 16 = rw same h in
    let at : (k + 2 * 0) * 8 ≡ k * 8 = omega arith in
    let x : d.parameters * 4096 + n ≡ d'.parameters * 4096 + (n + 0) = rw same (omega arith) in
    rw at (rw (← x) (read_back front (procedure_bytes (n + size (terms_of d.body)) ds ++ l) k 2 (d.parameters * 4096 + n) f (omega arith)))
procedure_back front l (d ∷ ds) k n (suc p) d' f e h g =
    let two = bytes_of 2 (d.parameters * 4096 + n) in
    let m = n + size (terms_of d.body) in
    let at : (k + 2 * suc p) * 8 ≡ (k + 2 + 2 * p) * 8 = omega arith in
    let longer : length (front ++ two) ≡ k + 2 = omega (arith, length-append front two, bytes_length 2 (d.parameters * 4096 + n)) in
    let x : start_of n (d ∷ ds) (suc p) ≡ start_of m ds p = omega arith in
    rw (at, x)
    (ap (λ (q : List ℕ). bits_at q ((k + 2 + 2 * p) * 8) 16) (sym (append_assoc front two (procedure_bytes m ds ++ l)))
    ∙ procedure_back (front ++ two) l ds (k + 2) m p d' longer e h (omega arith))

-- ---- the whole plan

pub version_small : (v : Version) → version_number v ≤ 1
unfolding version_number
version_small v0 = omega arith
version_small v1 = omega arith

-- a program that fits the fields of a plan
pub record Fitted (g : Program) : Type 0 where
  pub few_procedures : length g.procedures ≤ 32
  pub few_terms : size_of_all g.procedures ≤ 1024
  pub mask_fits : g.volatiles < 2 ^ 32

module _ (g : Program) where
  abbrev ds : List Procedure
  ds = g.procedures

  abbrev H : ℕ
  H = header_of g

  abbrev w : List ℕ
  w = written g

  abbrev bodies : List ℕ
  bodies = word_bytes (term_words 0 ds)

  -- its parts, one behind the other
  abbrev pub heads : List ℕ
  heads = bytes_of 4 H ++ bytes_of 4 g.volatiles

  from_mask : w ≡ bytes_of 4 H ++ (bytes_of 4 g.volatiles ++ (procedure_bytes 0 ds ++ bodies))
  unfolding written
  from_mask = append_assoc heads (procedure_bytes 0 ds) bodies ∙ append_assoc (bytes_of 4 H) (bytes_of 4 g.volatiles) (procedure_bytes 0 ds ++ bodies)

  from_procedures : w ≡ heads ++ (procedure_bytes 0 ds ++ bodies)
  unfolding written
  from_procedures = append_assoc heads (procedure_bytes 0 ds) bodies

  pub from_terms : w ≡ (heads ++ procedure_bytes 0 ds) ++ bodies
  unfolding written
  from_terms = refl

  pub heads_length : length heads ≡ 8
  heads_length = omega (arith, length-append (bytes_of 4 H) (bytes_of 4 g.volatiles), bytes_length 4 H, bytes_length 4 g.volatiles)

  pub front_length : length (heads ++ procedure_bytes 0 ds) ≡ 8 + 2 * length ds
  front_length = omega (arith, length-append heads (procedure_bytes 0 ds), heads_length, procedures_length ds 0)

  pub whole_length : length w ≡ 8 + 2 * length ds + 5 * size_of_all ds
  whole_length =
      ap length from_terms
      ∙ length-append (heads ++ procedure_bytes 0 ds) bodies
      ∙ omega (arith, front_length, words_length (term_words 0 ds), terms_length ds 0)

  -- the header's numbers
  pub header_is : H ≡ ((version_number g.version * 64 + length ds) * 4096 + size_of_all ds) * 1024
  unfolding header_of
  header_is = refl

  module _ (f : Fitted g) where
    header_bits : bits_at w 0 32 ≡ H
    header_bits =
        ap (λ (l : List ℕ). bits_at l 0 32) from_mask
        ∙ read_back [] (bytes_of 4 g.volatiles ++ (procedure_bytes 0 ds ++ bodies)) 0 4 H refl
        (let v = version_small g.version in let p = f.few_procedures in let n = f.few_terms in omega (arith, header_is))

    abbrev v : ℕ
    v = version_number g.version

    -- a field of the header, with r bits after it
    header_field : (k c r : ℕ) → k + c + r ≡ 32 → bits_at w (0 + k) c ≡ H / 2 ^ r % 2 ^ c
    header_field k c r e = field_of w 0 k c r ∙ ap (λ (n : ℕ). bits_at w 0 n / 2 ^ r % 2 ^ c) e ∙ ap (λ (x : ℕ). x / 2 ^ r % 2 ^ c) header_bits

    version_bits : bits_at w 0 4 ≡ v
    version_bits = header_field 0 4 28 refl
        ∙ (let a = version_small g.version in let p = f.few_procedures in let n = f.few_terms in omega (arith, header_is))

    procedures_bits : bits_at w 4 6 ≡ length ds
    procedures_bits = header_field 4 6 22 refl
        ∙ (let a = version_small g.version in let p = f.few_procedures in let n = f.few_terms in omega (arith, header_is))

    terms_bits : bits_at w 10 12 ≡ size_of_all ds
    terms_bits = header_field 10 12 10 refl
        ∙ (let a = version_small g.version in let p = f.few_procedures in let n = f.few_terms in omega (arith, header_is))

    spare_bits : bits_at w 22 10 ≡ 0
    spare_bits = header_field 22 10 0 refl
        ∙ (let a = version_small g.version in let p = f.few_procedures in let n = f.few_terms in omega (arith, header_is))

    mask_bits_lem : bits_at w 32 32 ≡ g.volatiles
    mask_bits_lem = ap (λ (l : List ℕ). bits_at l 32 32) from_mask ∙ read_back (bytes_of 4 H) (procedure_bytes 0 ds ++ bodies) 4 4 g.volatiles (bytes_length 4 H)
        f.mask_fits

    pub version_is : version w ≡ v
    unfolding version
    version_is = version_bits

    pub procedures_is : Format.procedures w ≡ length ds
    unfolding Format.procedures
    procedures_is = procedures_bits

    pub terms_is : terms w ≡ size_of_all ds
    unfolding terms
    terms_is = terms_bits

    pub spare_is : header_spare w ≡ 0
    unfolding header_spare
    spare_is = spare_bits

    pub volatiles_is : volatiles w ≡ g.volatiles
    unfolding volatiles
    volatiles_is = mask_bits_lem

    plan_length_lem : plan_length w ≡ 8 + 2 * Format.procedures w + 5 * terms w
    unfolding plan_length
    plan_length_lem = refl

    pub length_is : length w ≡ plan_length w
    length_is = omega (arith, whole_length, plan_length_lem, procedures_is, terms_is)

    -- a procedure's numbers
    module _ (p : ℕ) (d : Procedure) (e : get_elem? ds p ≡ some d) (few : d.parameters < 16) (low : start_of 0 ds p < 4096) where
      procedure_bits_lem : bits_at w (64 + 16 * p) 16 ≡ d.parameters * 4096 + start_of 0 ds p
      procedure_bits_lem =
          let at : (8 + 2 * p) * 8 ≡ 64 + 16 * p = omega arith in
          ap (λ (l : List ℕ). bits_at l (64 + 16 * p) 16) from_procedures ∙ (rw at at (procedure_back heads bodies ds 8 0 p d heads_length e few low))

      parameters_bits : bits_at w (64 + 16 * p) 4 ≡ d.parameters
      parameters_bits = first_of w (64 + 16 * p) 4 12 ∙ ap (λ (x : ℕ). x / 4096) procedure_bits_lem ∙ omega arith

      root_bits : bits_at w (68 + 16 * p) 12 ≡ start_of 0 ds p
      root_bits =
          let at : 64 + 16 * p + 4 ≡ 68 + 16 * p = omega arith in
          (rw at at (field_of w (64 + 16 * p) 4 12 0)) ∙ ap (λ (x : ℕ). x / 1 % 4096) procedure_bits_lem ∙ omega arith

      pub parameters_is : parameters w p ≡ d.parameters
      unfolding parameters
      parameters_is = parameters_bits

      pub root_is : root w p ≡ start_of 0 ds p
      unfolding root
      root_is = root_bits

    -- the 40 bits of a term
    word_bits : (t : ℕ) → t < size_of_all ds → get_or (term_words 0 ds) t 0 < 2 ^ 40 → bits_at w ((8 + 2 * length ds + 5 * t) * 8) 40 ≡ get_or (term_words 0 ds) t 0
    word_bits t h k =
        ap (λ (l : List ℕ). bits_at l ((8 + 2 * length ds + 5 * t) * 8) 40) from_terms
        ∙ word_back (heads ++ procedure_bytes 0 ds) (term_words 0 ds) (8 + 2 * length ds) t front_length (omega (arith, terms_length ds 0)) k

    pub word_is : (t : ℕ) → t < size_of_all ds → get_or (term_words 0 ds) t 0 < 2 ^ 40 → word_at w t ≡ get_or (term_words 0 ds) t 0
    unfolding word_at term_bit
    word_is t h k = ap (λ (n : ℕ). bits_at w ((8 + 2 * n + 5 * t) * 8) 40) procedures_is ∙ word_bits t h k
