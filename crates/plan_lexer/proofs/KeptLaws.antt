-- Tokens in an area: none, and one more behind others, where it has room and where not; the codes of tokens one by one. Assumes nothing.
use Prim.Native.Nat.{ℕ, ◌+◌, ◌≤◌, ◌<◌}
use native.Mathlib.Omega.{arith}
use native.Mathlib.Decide.{dec_le}
use mathlib.Core.Path.{◌≡◌, refl, sym, ap, ◌∙◌}
use mathlib.Core.List.{List, [], ◌∷◌, ◌++◌, append_assoc, append-nil, map}
use lib.ListN.{length, length-append, set, length-set}
use Rattle.format.proofs.AreaLaws.{overwrite_none, overwrite_next}
use Rattle.plan_notation.specs.Lexing.{Token, token}
use Rattle.plan_lexer.specs.Kept.{Kept}
use Rattle.std.specs.Prelude.{Option, None, Some}
use Rattle.plan_lexer.specs.Inner.Adds.{Adds, codes_in}
use Rattle.plan_lexer.specs.Inner.Lexed.{and_then}

pub kept_none : (area : List ℕ) → Kept area [] area 0
kept_none area = record { fits = λ h. (refl, sym (overwrite_none area)); full = λ h. absurd (omega arith); same = refl }

-- the same codes under another name
pub kept_as : {area xs ys after : List ℕ} {r : ℕ} → xs ≡ ys → Kept area xs after r → Kept area ys after r
kept_as e k = rw e at k

module _ (before : List ℕ) (n t : ℕ) where
  pub adds_full : length before ≤ n → Adds before n t before (length before + 1)
  adds_full h area codes k =
      record { fits = λ g. absurd (by (dec_le (length codes) (length area)) g); full = λ g. omega (arith, k.same); same = k.same }
    where
      by : Dec (length codes ≤ length area) → length (codes ++ (t ∷ [])) ≤ length area → ⊥
      by (yes f) g = omega (arith, (k.fits f).0, k.same, length-append codes (t ∷ []))
      by (no f) g = omega (arith, f, length-append codes (t ∷ []))

  pub adds_one : n < length before → Adds before n t (set before n t) (n + 1)
  adds_one h area codes k = by (dec_le (length codes) (length area))
    where
      by : Dec (length codes ≤ length area) → Kept area (codes ++ (t ∷ [])) (set before n t) (n + 1)
      by (yes f) =
          let e = k.fits f in
          let room : length codes < length area = omega (arith, e.0, k.same) in
          let next = ap (λ (m : ℕ). set before m t) e.0 ∙ ap (λ (l : List ℕ). set l (length codes) t) e.1 ∙ overwrite_next codes area t room in
          record {
            fits = λ g. (omega (arith, e.0, length-append codes (t ∷ [])), next);
            full = λ g. absurd (omega (arith, length-append codes (t ∷ [])));
            same = length-set before n t ∙ k.same;
          }
      by (no f) = absurd (omega (arith, k.full (omega (arith, f)), k.same))

-- ---- the codes of tokens

abbrev pub codes : List Token → List ℕ
codes ts = map (λ (t : Token). t.code) ts

-- behind others: that of the first token, and then more
pub codes_on : (done : List ℕ) (t i : ℕ) {ts rest : List Token} → ts ≡ token t i ∷ rest → done ++ codes ts ≡ (done ++ (t ∷ [])) ++ codes rest
codes_on done t i {ts} {rest} e = ap (λ (l : List Token). done ++ codes l) e ∙ sym (append_assoc done (t ∷ []) (codes rest))

-- the same of what begins with a byte, which may be no token
pub codes_past : (done : List ℕ) (code : Option ℕ) (i : ℕ) {ts : List Token} (rest : List Token) → ts ≡ and_then code i rest
    → done ++ codes ts ≡ (done ++ codes_in code) ++ codes rest
codes_past done None i rest e = ap (λ (l : List Token). done ++ codes l) e ∙ ap (λ (l : List ℕ). l ++ codes rest) (sym (append-nil done))
codes_past done (Some code) i rest e = codes_on done code i e
