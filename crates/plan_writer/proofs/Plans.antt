-- A plan's bytes in an area: its header, its procedures and their terms, one after the other. Assumes nothing.
use Prim.Native.Nat.{ℕ, ◌+◌, ◌*◌, ◌≤◌}
use native.Mathlib.Omega.{arith}
use mathlib.Core.Path.{◌≡◌, refl, sym, ap, ◌∙◌}
use mathlib.Core.List.{List, [], ◌∷◌, ◌++◌}
use lib.ListN.{length, drop}
use lib.Seq.{sets, sets-eq, length-sets}
use Rattle.format.specs.Area.{overwrite}
use Rattle.plan_packed.specs.Syntax.{Procedure, Program}
use Rattle.plan_written.specs.Terms.{terms_of, size, words_from}
use Rattle.plan_written.specs.Written.{bytes_of, size_of_all, procedure_bytes, term_words, word_bytes, written}
use Rattle.plan_written.proofs.Bytes.{bytes_length, words_length, words_append}
use Rattle.plan_written.proofs.ReadBack.{tree_length, procedures_length, heads, from_terms, heads_length, front_length, whole_length}
use Rattle.plan_tree_writer.specs.Inner.Left.{Wrote}
use Rattle.plan_tree_writer.proofs.Areas.{sets_append, sets_apart}

-- ---- one procedure more

procedures_more : (n : ℕ) (d : Procedure) (ds : List Procedure)
    → procedure_bytes n (d ∷ ds) ≡ bytes_of 2 (d.parameters * 4096 + n) ++ procedure_bytes (n + size (terms_of d.body)) ds
unfolding procedure_bytes
procedures_more n d ds = refl

terms_more : (n : ℕ) (d : Procedure) (ds : List Procedure)
    → term_words n (d ∷ ds) ≡ words_from n (terms_of d.body) ++ term_words (n + size (terms_of d.body)) ds
unfolding term_words
terms_more n d ds = refl

pub sizes_more : (d : Procedure) (ds : List Procedure) → size_of_all (d ∷ ds) ≡ size (terms_of d.body) + size_of_all ds
unfolding size_of_all
sizes_more d ds = refl

-- an area after these procedures, of which the next has its two bytes at i, and its first term its five at j
abbrev pub both : ℕ → ℕ → ℕ → List Procedure → List ℕ → List ℕ
both i j n ds area = sets (sets area i (procedure_bytes n ds)) j (word_bytes (term_words n ds))

one_more_lem : (i j n : ℕ) (d : Procedure) (ds : List Procedure) (area : List ℕ) → i + 2 + 2 * length ds ≤ j
    → both i j n (d ∷ ds) area
    ≡ both (i + 2) (j + 5 * size (terms_of d.body)) (n + size (terms_of d.body)) ds
    (sets (sets area i (bytes_of 2 (d.parameters * 4096 + n))) j (word_bytes (words_from n (terms_of d.body))))
one_more_lem i j n d ds area h =
    let two = bytes_of 2 (d.parameters * 4096 + n) in
    let e = terms_of d.body in
    let m = n + size e in
    let block = word_bytes (words_from n e) in
    let start = sets area i two in
    let rest = procedure_bytes m ds in
    let later = word_bytes (term_words m ds) in
    let long : length block ≡ 5 * size e = words_length (words_from n e) ∙ ap (λ (k : ℕ). 5 * k) (tree_length e n) in
    ap (λ (l : List ℕ). sets (sets area i l) j (word_bytes (term_words n (d ∷ ds)))) (procedures_more n d ds)
    ∙ ap (λ (l : List ℕ). sets l j (word_bytes (term_words n (d ∷ ds))))
    (sets_append two rest area i (i + 2) (omega (arith, bytes_length 2 (d.parameters * 4096 + n))))
    ∙ ap (λ (l : List ℕ). sets (sets start (i + 2) rest) j l) (ap word_bytes (terms_more n d ds) ∙ words_append (words_from n e) (term_words m ds))
    ∙ sets_append block later (sets start (i + 2) rest) j (j + 5 * size e) (omega (arith, long))
    ∙ ap (λ (l : List ℕ). sets l (j + 5 * size e) later) (sym (sets_apart rest block start (i + 2) j (omega (arith, procedures_length ds m))))

pub both_length : (i j n : ℕ) (ds : List Procedure) (area : List ℕ) → length (both i j n ds area) ≡ length area
both_length i j n ds area = length-sets (sets area i (procedure_bytes n ds)) j (word_bytes (term_words n ds)) ∙ length-sets area i (procedure_bytes n ds)

pub none_more : (i j n : ℕ) (area : List ℕ) → both i j n [] area ≡ area
unfolding procedure_bytes term_words word_bytes
none_more i j n area = refl

-- a procedure's two bytes are written, then its terms, which begin at base: the rest is left
pub step_more : (i base n : ℕ) (d : Procedure) (ds : List Procedure) (area : List ℕ) {area₁ area₂ : List ℕ} {m : ℕ} → i + 2 + 2 * length ds ≤ base + 5 * n
    → area₁ ≡ sets area i (bytes_of 2 (d.parameters * 4096 + n)) → Wrote (terms_of d.body) base n area₁ area₂ m
    → both (i + 2) (base + 5 * m) m ds area₂ ≡ both i (base + 5 * n) n (d ∷ ds) area
step_more i base n d ds area {area₁} {area₂} {m} h e f =
    let t = terms_of d.body in
    let after : base + 5 * (n + size t) ≡ base + 5 * n + 5 * size t = omega arith in
    let block = word_bytes (words_from n t) in
    ap (λ (k : ℕ). both (i + 2) (base + 5 * k) k ds area₂) f.next
    ∙ ap (λ (k : ℕ). both (i + 2) k (n + size t) ds area₂) after
    ∙ ap (both (i + 2) (base + 5 * n + 5 * size t) (n + size t) ds) (f.bytes ∙ ap (λ (l : List ℕ). sets l (base + 5 * n) block) e)
    ∙ sym (one_more_lem i (base + 5 * n) n d ds area h)

-- ---- the whole plan

-- bytes at an area's start
sets_over : (bytes area : List ℕ) → length bytes ≤ length area → sets area 0 bytes ≡ overwrite bytes area
unfolding overwrite
sets_over bytes area h =
    let e : 0 + length bytes ≡ length bytes = omega arith in
    sets-eq bytes area 0 (omega arith) ∙ ap (λ (n : ℕ). bytes ++ drop n area) e

-- n procedures and their terms, after the header and the mask
pub plan_whole : (g : Program) (n : ℕ) (area : List ℕ) → length g.procedures ≡ n → 8 + 2 * n + 5 * size_of_all g.procedures ≤ length area
    → both 8 (8 + 2 * n + 5 * 0) 0 g.procedures (sets area 0 (heads g)) ≡ overwrite (written g) area
plan_whole g n area e long =
    let ds = g.procedures in
    let first = procedure_bytes 0 ds in
    let last = word_bytes (term_words 0 ds) in
    let place : 8 + 2 * n + 5 * 0 ≡ 8 + 2 * n = omega arith in
    let wide : 0 + length (heads g ++ first) ≡ 8 + 2 * n = omega (arith, front_length g) in
    ap (λ (i : ℕ). sets (sets (sets area 0 (heads g)) 8 first) i last) place
    ∙ ap (λ (l : List ℕ). sets l (8 + 2 * n) last) (sym (sets_append (heads g) first area 0 8 (omega (arith, heads_length g))))
    ∙ sym (sets_append (heads g ++ first) last area 0 (8 + 2 * n) wide)
    ∙ ap (sets area 0) (sym (from_terms g))
    ∙ sets_over (written g) area (omega (arith, whole_length g))
