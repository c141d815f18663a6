-- The lines of a configuration file: the parts that they are put together from, and how long they are. Assumes nothing.
use Prim.Native.Nat.{ℕ, suc, ◌+◌, ◌<◌, ◌≤◌}
use native.Mathlib.Numerals.{add-one}
use native.Mathlib.Omega.{arith}
use mathlib.Core.Path.{◌≡◌, refl, sym, ap, ◌∙◌}
use mathlib.Core.List.{List, [], ◌∷◌, ◌++◌, append_assoc}
use lib.ListN.{length, length-append}
use Rattle.text.specs.Text.{ascii, decimal}
use Rattle.text.proofs.Decimals.{few_digits}
use Rattle.text_sample_lines.specs.DataFile.{comma_line}
use Rattle.text_configuration.specs.Configuration.{head_lines, channel_line, stamp_line, last_lines, channel_lines, configuration_file}

-- a word and the end of its line
abbrev pub ended : List ℕ → List ℕ
ended w = w ++ (13 ∷ 10 ∷ [])

three_parts : (x y z w : List ℕ) → ((x ++ y) ++ z) ++ w ≡ x ++ (y ++ (z ++ w))
three_parts x y z w = simp append_assoc

pub channel_parts : (o : ℕ) → ((decimal (o + 1) ++ ascii ",object ") ++ decimal o) ++ ended (ascii ",,,0") ≡ channel_line o
unfolding channel_line comma_line ascii
channel_parts o = ap (λ (n : ℕ). ((decimal n ++ ascii ",object ") ++ decimal o) ++ ended (ascii ",,,0")) (add-one o)
    ∙ three_parts (decimal (suc o)) (ascii ",object ") (decimal o) (ended (ascii ",,,0"))

pub channel_length : (o : ℕ) → length (channel_line o) ≡ length (decimal (o + 1)) + length (decimal o) + 14
unfolding ascii
channel_length o = omega (arith, simp length-append at (ap length (channel_parts o)))

pub channel_short : (o : ℕ) → o < 32 → length (channel_line o) ≤ 18
channel_short o h = omega (arith, channel_length o, few_digits 1 (o + 1) (omega arith), few_digits 1 o (omega arith))

-- the lines before the last sample's number, and those after it
abbrev before : List ℕ
before = ended (ascii "50") ++ (ended (ascii "1") ++ ascii "1000,")

abbrev stamped : List ℕ
stamped = ended (ascii "01/01/2000,00:00:00.000000")

abbrev after : List ℕ
after = stamped ++ (ended (ascii "ASCII") ++ ended (ascii "1"))

pub last_parts : (n : ℕ) → ((before ++ decimal n) ++ (13 ∷ 10 ∷ stamped)) ++ after ≡ last_lines n
unfolding last_lines stamp_line comma_line ascii
last_parts n =
    three_parts before (decimal n) (13 ∷ 10 ∷ stamped) after
    ∙ ap (λ (l : List ℕ). before ++ l) (sym (append_assoc (decimal n) (13 ∷ 10 ∷ []) (stamped ++ after)))

pub head_is : ended (ascii "Ruqzhemil,relay test set,1999") ++ ended (ascii "32,0A,32D") ≡ head_lines
unfolding head_lines comma_line ascii
head_is = refl

pub whole_is : (n : ℕ) → (head_lines ++ channel_lines 32) ++ last_lines n ≡ configuration_file n
unfolding configuration_file
whole_is n = append_assoc head_lines (channel_lines 32) (last_lines n)
