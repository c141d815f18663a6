-- Data files of sample logs, by computation, held to those of a second interpreter. Assumes nothing.
use Prim.Native.Nat.{ℕ}
use Prim.Native.String.{String}
use mathlib.Core.Path.{◌≡◌, refl}
use mathlib.Core.List.{List, [], ◌∷◌, ◌++◌, map}
use Rattle.log_records.specs.Record.{read, acquire, release, fork, lacks_read, Record, entry}
use Rattle.text.specs.Text.{ascii}
use Rattle.text_sample_lines.specs.DataFile.{data_file}

-- a log, and the lines of its file
record Sample : Type 0 where
  log : List Record
  shown : List String

abbrev sample : List Record → List String → Sample
sample L ws = record { log = L; shown = ws }

-- lines, each ended by carriage return and line feed, and the end mark
shown_file : List String → List ℕ
unfolding ascii
shown_file [] = 0x1A ∷ []
shown_file (w ∷ ws) = ascii w ++ (0x0D ∷ 0x0A ∷ shown_file ws)

abbrev samples : List Sample
samples =
    -- "or alone for an empty log"
    sample
    ([])
    ([])
    -- "the sample number from 1"
    ∷ sample
    (entry acquire 0 0 0 0 ∷ [])
    ("1,0,1,0,0,0,0,0,0,0,0,0,0,0,0,0,0,0,0,0,0,0,0,0,0,0,0,0,0,0,0,0,0,0"
    ∷ [])
    -- taken, freed, taken by two, freed where nobody has it, and records of other kinds
    ∷ sample
    (entry acquire 0 1 0 0 ∷ entry acquire 1 31 0 0 ∷ entry read 0 1 1 0 ∷ entry release 0 1 0 0 ∷ entry fork 0 2 1 0 ∷ entry release 1 31 0 0
    ∷ entry acquire 2 1 0 0 ∷ entry acquire 3 1 0 0 ∷ entry release 2 5 0 0 ∷ entry acquire 0 0 0 0 ∷ entry lacks_read 1 1 3 0 ∷ [])
    ("1,0,0,1,0,0,0,0,0,0,0,0,0,0,0,0,0,0,0,0,0,0,0,0,0,0,0,0,0,0,0,0,0,0"
    ∷ "2,1000,0,1,0,0,0,0,0,0,0,0,0,0,0,0,0,0,0,0,0,0,0,0,0,0,0,0,0,0,0,0,0,1"
    ∷ "3,2000,0,1,0,0,0,0,0,0,0,0,0,0,0,0,0,0,0,0,0,0,0,0,0,0,0,0,0,0,0,0,0,1"
    ∷ "4,3000,0,0,0,0,0,0,0,0,0,0,0,0,0,0,0,0,0,0,0,0,0,0,0,0,0,0,0,0,0,0,0,1"
    ∷ "5,4000,0,0,0,0,0,0,0,0,0,0,0,0,0,0,0,0,0,0,0,0,0,0,0,0,0,0,0,0,0,0,0,1"
    ∷ "6,5000,0,0,0,0,0,0,0,0,0,0,0,0,0,0,0,0,0,0,0,0,0,0,0,0,0,0,0,0,0,0,0,0"
    ∷ "7,6000,0,1,0,0,0,0,0,0,0,0,0,0,0,0,0,0,0,0,0,0,0,0,0,0,0,0,0,0,0,0,0,0"
    ∷ "8,7000,0,1,0,0,0,0,0,0,0,0,0,0,0,0,0,0,0,0,0,0,0,0,0,0,0,0,0,0,0,0,0,0"
    ∷ "9,8000,0,1,0,0,0,0,0,0,0,0,0,0,0,0,0,0,0,0,0,0,0,0,0,0,0,0,0,0,0,0,0,0"
    ∷ "10,9000,1,1,0,0,0,0,0,0,0,0,0,0,0,0,0,0,0,0,0,0,0,0,0,0,0,0,0,0,0,0,0,0"
    ∷ "11,10000,1,1,0,0,0,0,0,0,0,0,0,0,0,0,0,0,0,0,0,0,0,0,0,0,0,0,0,0,0,0,0,0"
    ∷ [])
    ∷ []

samples_written : map (λ (x : Sample). data_file x.log) samples ≡ map (λ (x : Sample). shown_file x.shown) samples
unfolding data_file shown_file
samples_written = refl
