-- The configuration file for four samples, whole, by computation. Assumes nothing.
use Prim.Native.Nat.{ℕ}
use Prim.Native.String.{String}
use mathlib.Core.Path.{◌≡◌, refl}
use mathlib.Core.List.{List, [], ◌∷◌, ◌++◌}
use Rattle.text.specs.Text.{ascii}
use Rattle.text_configuration.specs.Configuration.{configuration_file}

-- lines, each ended by carriage return and line feed
shown : List String → List ℕ
unfolding ascii
shown [] = []
shown (w ∷ ws) = ascii w ++ (0x0D ∷ 0x0A ∷ shown ws)

sample : configuration_file 4
    ≡ shown
    ("Ruqzhemil,relay test set,1999"
    ∷ "32,0A,32D"
    ∷ "1,object 0,,,0"
    ∷ "2,object 1,,,0"
    ∷ "3,object 2,,,0"
    ∷ "4,object 3,,,0"
    ∷ "5,object 4,,,0"
    ∷ "6,object 5,,,0"
    ∷ "7,object 6,,,0"
    ∷ "8,object 7,,,0"
    ∷ "9,object 8,,,0"
    ∷ "10,object 9,,,0"
    ∷ "11,object 10,,,0"
    ∷ "12,object 11,,,0"
    ∷ "13,object 12,,,0"
    ∷ "14,object 13,,,0"
    ∷ "15,object 14,,,0"
    ∷ "16,object 15,,,0"
    ∷ "17,object 16,,,0"
    ∷ "18,object 17,,,0"
    ∷ "19,object 18,,,0"
    ∷ "20,object 19,,,0"
    ∷ "21,object 20,,,0"
    ∷ "22,object 21,,,0"
    ∷ "23,object 22,,,0"
    ∷ "24,object 23,,,0"
    ∷ "25,object 24,,,0"
    ∷ "26,object 25,,,0"
    ∷ "27,object 26,,,0"
    ∷ "28,object 27,,,0"
    ∷ "29,object 28,,,0"
    ∷ "30,object 29,,,0"
    ∷ "31,object 30,,,0"
    ∷ "32,object 31,,,0"
    ∷ "50"
    ∷ "1"
    ∷ "1000,4"
    ∷ "01/01/2000,00:00:00.000000"
    ∷ "01/01/2000,00:00:00.000000"
    ∷ "ASCII"
    ∷ "1"
    ∷ [])
unfolding configuration_file shown
sample = refl
