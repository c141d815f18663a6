-- `entry_at` meets its contract: each number is that of the name at its place, token by token. Assumes nothing.
use mathlib.Core.Path.{refl}
use Rattle.text.specs.Text.{ascii}
use Rattle.plan_notation.specs.Tokens.{texts}
use Rattle.plan_notation.specs.Lexing.{value_of}
use Rattle.plan_scanner.specs.Inner.Names.{place_of, number_at}
use Rattle.plan_scanner.proofs.NameLaws.{entry_there, Elsewhere, none_more}
use Rattle.plan_scanner.proofs.names.entry_at.Goals as goal

pub word_at-requires : goal.word_at-requires
unfolding place_of number_at value_of texts ascii Elsewhere
word_at-requires c = none_more 0 32 c.args.place refl c.in_default.in_default-own.rest

pub returns-in-41 : goal.returns-in-41
unfolding place_of number_at value_of texts ascii Elsewhere
returns-in-41 c = entry_there 0 refl c.in-41.is

pub returns-in-83 : goal.returns-in-83
unfolding place_of number_at value_of texts ascii Elsewhere
returns-in-83 c = entry_there 1 refl c.in-83.is

pub returns-in-125 : goal.returns-in-125
unfolding place_of number_at value_of texts ascii Elsewhere
returns-in-125 c = entry_there 2 refl c.in-125.is

pub returns-in-39 : goal.returns-in-39
unfolding place_of number_at value_of texts ascii Elsewhere
returns-in-39 c = entry_there 3 refl c.in-39.is

pub returns-in-81 : goal.returns-in-81
unfolding place_of number_at value_of texts ascii Elsewhere
returns-in-81 c = entry_there 4 refl c.in-81.is

pub returns-in-123 : goal.returns-in-123
unfolding place_of number_at value_of texts ascii Elsewhere
returns-in-123 c = entry_there 5 refl c.in-123.is

pub returns-in-37 : goal.returns-in-37
unfolding place_of number_at value_of texts ascii Elsewhere
returns-in-37 c = entry_there 6 refl c.in-37.is

pub returns-in-79 : goal.returns-in-79
unfolding place_of number_at value_of texts ascii Elsewhere
returns-in-79 c = entry_there 7 refl c.in-79.is

pub returns-in-121 : goal.returns-in-121
unfolding place_of number_at value_of texts ascii Elsewhere
returns-in-121 c = entry_there 8 refl c.in-121.is

pub returns-in-35 : goal.returns-in-35
unfolding place_of number_at value_of texts ascii Elsewhere
returns-in-35 c = entry_there 9 refl c.in-35.is

pub returns-in-71 : goal.returns-in-71
unfolding place_of number_at value_of texts ascii Elsewhere
returns-in-71 c = entry_there 10 refl c.in-71.is

pub returns-in-113 : goal.returns-in-113
unfolding place_of number_at value_of texts ascii Elsewhere
returns-in-113 c = entry_there 11 refl c.in-113.is

pub returns-in-27 : goal.returns-in-27
unfolding place_of number_at value_of texts ascii Elsewhere
returns-in-27 c = entry_there 12 refl c.in-27.is

pub returns-in-69 : goal.returns-in-69
unfolding place_of number_at value_of texts ascii Elsewhere
returns-in-69 c = entry_there 13 refl c.in-69.is

pub returns-in-111 : goal.returns-in-111
unfolding place_of number_at value_of texts ascii Elsewhere
returns-in-111 c = entry_there 14 refl c.in-111.is

pub returns-in-25 : goal.returns-in-25
unfolding place_of number_at value_of texts ascii Elsewhere
returns-in-25 c = entry_there 15 refl c.in-25.is

pub returns-in-67 : goal.returns-in-67
unfolding place_of number_at value_of texts ascii Elsewhere
returns-in-67 c = entry_there 16 refl c.in-67.is

pub returns-in-109 : goal.returns-in-109
unfolding place_of number_at value_of texts ascii Elsewhere
returns-in-109 c = entry_there 17 refl c.in-109.is

pub returns-in-23 : goal.returns-in-23
unfolding place_of number_at value_of texts ascii Elsewhere
returns-in-23 c = entry_there 18 refl c.in-23.is

pub returns-in-65 : goal.returns-in-65
unfolding place_of number_at value_of texts ascii Elsewhere
returns-in-65 c = entry_there 19 refl c.in-65.is

pub returns-in-86 : goal.returns-in-86
unfolding place_of number_at value_of texts ascii Elsewhere
returns-in-86 c = entry_there 20 refl c.in-86.is

pub returns-in-0 : goal.returns-in-0
unfolding place_of number_at value_of texts ascii Elsewhere
returns-in-0 c = entry_there 21 refl c.in-0.is

pub returns-in-42 : goal.returns-in-42
unfolding place_of number_at value_of texts ascii Elsewhere
returns-in-42 c = entry_there 22 refl c.in-42.is

pub returns-in-84 : goal.returns-in-84
unfolding place_of number_at value_of texts ascii Elsewhere
returns-in-84 c = entry_there 23 refl c.in-84.is

pub returns-in-126 : goal.returns-in-126
unfolding place_of number_at value_of texts ascii Elsewhere
returns-in-126 c = entry_there 24 refl c.in-126.is

pub returns-in-40 : goal.returns-in-40
unfolding place_of number_at value_of texts ascii Elsewhere
returns-in-40 c = entry_there 25 refl c.in-40.is

pub returns-in-82 : goal.returns-in-82
unfolding place_of number_at value_of texts ascii Elsewhere
returns-in-82 c = entry_there 26 refl c.in-82.is

pub returns-in-124 : goal.returns-in-124
unfolding place_of number_at value_of texts ascii Elsewhere
returns-in-124 c = entry_there 27 refl c.in-124.is

pub returns-in-38 : goal.returns-in-38
unfolding place_of number_at value_of texts ascii Elsewhere
returns-in-38 c = entry_there 28 refl c.in-38.is

pub returns-in-80 : goal.returns-in-80
unfolding place_of number_at value_of texts ascii Elsewhere
returns-in-80 c = entry_there 29 refl c.in-80.is

pub returns-in-101 : goal.returns-in-101
unfolding place_of number_at value_of texts ascii Elsewhere
returns-in-101 c = entry_there 30 refl c.in-101.is

pub returns-in-15 : goal.returns-in-15
unfolding place_of number_at value_of texts ascii Elsewhere
returns-in-15 c = entry_there 31 refl c.in-15.is

pub returns-in_default : goal.returns-in_default
unfolding place_of number_at value_of texts ascii Elsewhere
returns-in_default c = c.word_at.ensures
