-- Sample logs, by computation: which of them are refused, at which place, and what the records of every kind are in bytes. Assumes nothing.
use Prim.Native.Nat.{ℕ}
use mathlib.Core.Path.{◌≡◌, refl}
use mathlib.Core.List.{List, [], ◌∷◌, map}
use mathlib.Core.Option.{Option, some, none}
use lib.ListN.{replicate}
use Rattle.format.specs.Refusal.{Refusal}
use Rattle.log_records.specs.Record.{new, read, write, readv, writev, acquire, release, fork, join, lacks_read, lacks_write, Record, entry}
use Rattle.log_records.specs.Packed.{bytes_of}
use Rattle.log_records.specs.Refusals.{log_refusal}

-- ---- refusals 11 and 12

-- a log in bytes, and what document 01 says of it
record Sample : Type 0 where
  bytes : List ℕ
  refused : Option Refusal

abbrev sample : List ℕ → Option Refusal → Sample
sample b r = record { bytes = b; refused = r }

abbrev refused_as : ℕ → ℕ → Option Refusal
refused_as k i = some (record { number = k; place = i })

abbrev samples : List Sample
samples =
    -- "length no multiple of 3"
    sample (0x10 ∷ 0x10 ∷ []) (refused_as 11 0)
    ∷ sample (0x10 ∷ 0x10 ∷ 0x00 ∷ 0x10 ∷ []) (refused_as 11 0)
    -- "or over 12,288"
    ∷ sample (replicate 12291 0x10) (refused_as 11 0)
    -- "kind 0 or over 11"
    ∷ sample (0x00 ∷ 0x00 ∷ 0x00 ∷ []) (refused_as 12 0)
    ∷ sample (0xc0 ∷ 0x00 ∷ 0x80 ∷ []) (refused_as 12 0)
    ∷ sample (0xf0 ∷ 0x00 ∷ 0x80 ∷ []) (refused_as 12 0)
    -- "a 10 or 11 that is not last"
    ∷ sample (0xa0 ∷ 0x10 ∷ 0x80 ∷ 0x10 ∷ 0x10 ∷ 0x00 ∷ []) (refused_as 12 0)
    ∷ sample (0xb0 ∷ 0x10 ∷ 0x80 ∷ 0x10 ∷ 0x10 ∷ 0x00 ∷ []) (refused_as 12 0)
    ∷ sample (0x10 ∷ 0x10 ∷ 0x00 ∷ 0xa0 ∷ 0x10 ∷ 0x80 ∷ []) none
    ∷ sample (0x10 ∷ 0x10 ∷ 0x00 ∷ 0xb0 ∷ 0x10 ∷ 0x88 ∷ []) none
    -- "a plain or volatile access with field 0"
    ∷ sample (0x20 ∷ 0x10 ∷ 0x04 ∷ []) (refused_as 12 0)
    ∷ sample (0x30 ∷ 0x10 ∷ 0x00 ∷ []) (refused_as 12 0)
    ∷ sample (0x40 ∷ 0x10 ∷ 0x00 ∷ []) (refused_as 12 0)
    ∷ sample (0x50 ∷ 0x10 ∷ 0x00 ∷ []) (refused_as 12 0)
    ∷ sample (0xa0 ∷ 0x10 ∷ 0x00 ∷ []) (refused_as 12 0)
    ∷ sample (0xb0 ∷ 0x10 ∷ 0x00 ∷ []) (refused_as 12 0)
    -- "a fork or join with field over 7"
    ∷ sample (0x80 ∷ 0x14 ∷ 0x00 ∷ []) (refused_as 12 0)
    ∷ sample (0x90 ∷ 0x14 ∷ 0x00 ∷ []) (refused_as 12 0)
    ∷ sample (0x80 ∷ 0x13 ∷ 0x80 ∷ 0x90 ∷ 0x13 ∷ 0xfc ∷ []) none
    -- "anything but 0 in a spare bit"
    ∷ sample (0x20 ∷ 0x10 ∷ 0x81 ∷ []) (refused_as 12 0)
    ∷ sample (0x20 ∷ 0x10 ∷ 0x82 ∷ []) (refused_as 12 0)
    -- "an unused column": field and value of 1, 6 and 7, value of 8
    ∷ sample (0x10 ∷ 0x10 ∷ 0x80 ∷ []) (refused_as 12 0)
    ∷ sample (0x10 ∷ 0x10 ∷ 0x04 ∷ []) (refused_as 12 0)
    ∷ sample (0x60 ∷ 0x10 ∷ 0x80 ∷ []) (refused_as 12 0)
    ∷ sample (0x60 ∷ 0x10 ∷ 0x04 ∷ []) (refused_as 12 0)
    ∷ sample (0x70 ∷ 0x10 ∷ 0x80 ∷ []) (refused_as 12 0)
    ∷ sample (0x70 ∷ 0x10 ∷ 0x04 ∷ []) (refused_as 12 0)
    ∷ sample (0x80 ∷ 0x10 ∷ 0x84 ∷ []) (refused_as 12 0)
    -- "or the value of kind 10"
    ∷ sample (0xa0 ∷ 0x10 ∷ 0x84 ∷ []) (refused_as 12 0)
    -- "the lowest pick or record for 9 and 12"
    ∷ sample (0x10 ∷ 0x10 ∷ 0x00 ∷ 0x20 ∷ 0x10 ∷ 0x00 ∷ 0x00 ∷ 0x00 ∷ 0x00 ∷ []) (refused_as 12 1)
    -- "An empty log: none."
    ∷ sample ([]) none
    ∷ []

samples_refused : map (λ (x : Sample). log_refusal x.bytes) samples ≡ map (λ (x : Sample). x.refused) samples
unfolding log_refusal
samples_refused = refl

-- ---- bytes

-- a record of each kind but the last, in the order of the kinds
abbrev kinds_in_order : List Record
kinds_in_order =
    entry new 7 31 0 0
    ∷ entry read 6 30 31 29
    ∷ entry write 5 28 27 26
    ∷ entry readv 4 25 24 23
    ∷ entry writev 3 22 21 20
    ∷ entry acquire 2 19 0 0
    ∷ entry release 1 18 0 0
    ∷ entry fork 0 17 7 0
    ∷ entry join 7 16 6 15
    ∷ entry lacks_read 6 14 13 0
    ∷ []

-- "A record has 24 bits: kind 4, thread 3, object 5, field 5, value 5, spare 2."; "Kinds: 1 new, 2 read, 3 write, 4 volatile read, 5 volatile write, 6
-- acquire, 7 release, 8 fork, 9 join, 10 read lacking its key, 11 write lacking its key."
bytes_of_kinds : bytes_of kinds_in_order
    ≡ 0x1f ∷ 0xf0 ∷ 0x00
    ∷ 0x2d ∷ 0xef ∷ 0xf4
    ∷ 0x3b ∷ 0xcd ∷ 0xe8
    ∷ 0x49 ∷ 0x9c ∷ 0x5c
    ∷ 0x57 ∷ 0x6a ∷ 0xd0
    ∷ 0x65 ∷ 0x30 ∷ 0x00
    ∷ 0x73 ∷ 0x20 ∷ 0x00
    ∷ 0x81 ∷ 0x13 ∷ 0x80
    ∷ 0x9f ∷ 0x03 ∷ 0x3c
    ∷ 0xac ∷ 0xe6 ∷ 0x80
    ∷ []
unfolding bytes_of
bytes_of_kinds = refl

bytes_of_last : bytes_of (entry lacks_write 5 12 11 10 ∷ []) ≡ 0xba ∷ 0xc5 ∷ 0xa8 ∷ []
unfolding bytes_of
bytes_of_last = refl

-- and none of them is wrong
kinds_accepted : log_refusal (bytes_of kinds_in_order) ≡ none
unfolding log_refusal bytes_of
kinds_accepted = refl
