-- The arrows of a picture, one more at a time. Assumes nothing.
use Prim.Native.Nat.{ℕ, suc}
use mathlib.Core.Path.{◌≡◌, sym, ap, ◌∙◌}
use mathlib.Core.List.{List, [], ◌∷◌, ◌++◌, append-nil, append_assoc}
use lib.ListN.{get_or}
use Rattle.log_records.specs.Record.{Record}
use Rattle.text.specs.Text.{ascii}
use Rattle.text_diagram_elements.specs.Diagram.{between, arrow_texts, arrows_of}

abbrev arrow_text : List Record → ℕ × ℕ → List ℕ
arrow_text L p = between (ascii "arrow") L p.0 p.1

arrows_more : (L : List Record) (A : List (ℕ × ℕ)) (p : ℕ × ℕ) → arrow_texts L (A ++ (p ∷ [])) ≡ arrow_texts L A ++ arrow_text L p
unfolding arrow_texts
arrows_more L [] p = append-nil (arrow_text L p)
arrows_more L (q ∷ A) p =
    ap (λ (t : List ℕ). arrow_text L q ++ t) (arrows_more L A p) ∙ sym (append_assoc (arrow_text L q) (arrow_texts L A) (arrow_text L p))

pub arrows_next : (L : List Record) (starts ends : List ℕ) (n : ℕ)
    → arrow_texts L (arrows_of starts ends n) ++ between (ascii "arrow") L (get_or starts n 0) (get_or ends n 0) ≡ arrow_texts L (arrows_of starts ends (suc n))
unfolding arrows_of
arrows_next L starts ends n = sym (arrows_more L (arrows_of starts ends n) (get_or starts n 0, get_or ends n 0))
