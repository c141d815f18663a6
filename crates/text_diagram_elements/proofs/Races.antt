-- The race of a picture as the code has it: whether a record is one of its two, its colour, and the line between them. Assumes nothing.
use Prim.Native.Nat.{ℕ}
use mathlib.Core.Path.{◌≡◌, sym, ap, ◌∙◌}
use mathlib.Core.Bool.{Bool, cond, ◌||◌}
use mathlib.Core.List.{List, []}
use mathlib.Core.Option.{Option}
use Rattle.std.specs.Prelude.{Option as CodeOption, Some, None}
use lib.Dec.{eqb}
use borrow.Author.Tests.{eq-eqb, ne_eqb}
use Rattle.log_records.specs.Record.{Record}
use Rattle.text.specs.Text.{ascii}
use Rattle.text_diagram_elements.specs.Diagram.{in_race, colour, between, race_text, race_of}
use Rattle.text_diagram_elements.specs.declared.Race.{Race}

module _ (race : CodeOption Race) (r : Race) (e : race ≡ Some r) where
  either_of : (i : ℕ) → in_race (race_of race) i ≡ (eqb i r.write || eqb i r.access)
  either_of i = ap (λ (x : CodeOption Race). in_race (race_of x) i) e

  pub is_write_lem : (i : ℕ) → i ≡ r.write → eqb i r.write ≡ in_race (race_of race) i
  is_write_lem i h = eq-eqb i r.write h ∙ sym (either_of i ∙ ap (λ (b : Bool). b || eqb i r.access) (eq-eqb i r.write h))

  pub is_access_lem : (i : ℕ) → (i ≡ r.write → ⊥) → eqb i r.access ≡ in_race (race_of race) i
  is_access_lem i h = sym (either_of i ∙ ap (λ (b : Bool). b || eqb i r.access) (ne_eqb i r.write h))

  pub race_line : (L : List Record) → between (ascii "race") L r.write r.access ≡ race_text L (race_of race)
  unfolding race_text
  race_line L = sym (ap (λ (x : CodeOption Race). race_text L (race_of x)) e)

pub no_race : (race : CodeOption Race) (L : List Record) → race ≡ None → [] ≡ race_text L (race_of race)
unfolding race_text
no_race race L e = sym (ap (λ (x : CodeOption Race). race_text L (race_of x)) e)

pub colour_is : (race : Option (ℕ × ℕ)) (i : ℕ) (red : Bool) → red ≡ in_race race i → cond red (ascii "red") (ascii "black") ≡ colour race i
unfolding colour
colour_is race i red h = ap (λ (b : Bool). cond b (ascii "red") (ascii "black")) h
