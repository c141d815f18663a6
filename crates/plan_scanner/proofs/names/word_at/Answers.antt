-- `word_at` meets its contract: each number is that of the name at its place, token by token. Assumes nothing.
use mathlib.Core.Path.{refl}
use Rattle.text.specs.Text.{ascii}
use Rattle.plan_notation.specs.Tokens.{texts}
use Rattle.plan_notation.specs.Lexing.{value_of}
use Rattle.plan_scanner.specs.Inner.Names.{place_of, number_at}
use Rattle.plan_scanner.proofs.NameLaws.{entry_there, Elsewhere, none_more, entry_elsewhere}
use Rattle.plan_scanner.proofs.names.word_at.Goals as goal

pub returns-in-9 : goal.returns-in-9
unfolding place_of number_at value_of texts ascii Elsewhere
returns-in-9 c = entry_there 32 refl c.in-9.is

pub returns-in-51 : goal.returns-in-51
unfolding place_of number_at value_of texts ascii Elsewhere
returns-in-51 c = entry_there 33 refl c.in-51.is

pub returns-in-93 : goal.returns-in-93
unfolding place_of number_at value_of texts ascii Elsewhere
returns-in-93 c = entry_there 34 refl c.in-93.is

pub returns-in-7 : goal.returns-in-7
unfolding place_of number_at value_of texts ascii Elsewhere
returns-in-7 c = entry_there 35 refl c.in-7.is

pub returns-in-49 : goal.returns-in-49
unfolding place_of number_at value_of texts ascii Elsewhere
returns-in-49 c = entry_there 36 refl c.in-49.is

pub returns-in-91 : goal.returns-in-91
unfolding place_of number_at value_of texts ascii Elsewhere
returns-in-91 c = entry_there 37 refl c.in-91.is

pub returns-in-5 : goal.returns-in-5
unfolding place_of number_at value_of texts ascii Elsewhere
returns-in-5 c = entry_there 38 refl c.in-5.is

pub returns-in-47 : goal.returns-in-47
unfolding place_of number_at value_of texts ascii Elsewhere
returns-in-47 c = entry_there 39 refl c.in-47.is

pub returns-in-122 : goal.returns-in-122
unfolding place_of number_at value_of texts ascii Elsewhere
returns-in-122 c = entry_there 40 refl c.in-122.is

pub returns-in-26 : goal.returns-in-26
unfolding place_of number_at value_of texts ascii Elsewhere
returns-in-26 c = entry_there 41 refl c.in-26.is

pub returns-in-68 : goal.returns-in-68
unfolding place_of number_at value_of texts ascii Elsewhere
returns-in-68 c = entry_there 42 refl c.in-68.is

pub returns-in-10 : goal.returns-in-10
unfolding place_of number_at value_of texts ascii Elsewhere
returns-in-10 c = entry_there 43 refl c.in-10.is

pub returns-in-14 : goal.returns-in-14
unfolding place_of number_at value_of texts ascii Elsewhere
returns-in-14 c = entry_there 44 refl c.in-14.is

pub returns-in-114 : goal.returns-in-114
unfolding place_of number_at value_of texts ascii Elsewhere
returns-in-114 c = entry_there 45 refl c.in-114.is

pub returns-in-105 : goal.returns-in-105
unfolding place_of number_at value_of texts ascii Elsewhere
returns-in-105 c = entry_there 46 refl c.in-105.is

pub returns-in-57 : goal.returns-in-57
unfolding place_of number_at value_of texts ascii Elsewhere
returns-in-57 c = entry_there 47 refl c.in-57.is

pub returns-in-8 : goal.returns-in-8
unfolding place_of number_at value_of texts ascii Elsewhere
returns-in-8 c = entry_there 48 refl c.in-8.is

pub returns-in-48 : goal.returns-in-48
unfolding place_of number_at value_of texts ascii Elsewhere
returns-in-48 c = entry_there 49 refl c.in-48.is

pub returns-in-97 : goal.returns-in-97
unfolding place_of number_at value_of texts ascii Elsewhere
returns-in-97 c = entry_there 50 refl c.in-97.is

pub returns-in-66 : goal.returns-in-66
unfolding place_of number_at value_of texts ascii Elsewhere
returns-in-66 c = entry_there 51 refl c.in-66.is

pub returns-in-73 : goal.returns-in-73
unfolding place_of number_at value_of texts ascii Elsewhere
returns-in-73 c = entry_there 52 refl c.in-73.is

pub returns-in-118 : goal.returns-in-118
unfolding place_of number_at value_of texts ascii Elsewhere
returns-in-118 c = entry_there 53 refl c.in-118.is

pub returns-in-59 : goal.returns-in-59
unfolding place_of number_at value_of texts ascii Elsewhere
returns-in-59 c = entry_there 54 refl c.in-59.is

pub returns-in-119 : goal.returns-in-119
unfolding place_of number_at value_of texts ascii Elsewhere
returns-in-119 c = entry_there 55 refl c.in-119.is

pub returns-in-127 : goal.returns-in-127
unfolding place_of number_at value_of texts ascii Elsewhere
returns-in-127 c = entry_there 56 refl c.in-127.is

pub returns-in-12 : goal.returns-in-12
unfolding place_of number_at value_of texts ascii Elsewhere
returns-in-12 c = entry_there 57 refl c.in-12.is

pub returns-in-53 : goal.returns-in-53
unfolding place_of number_at value_of texts ascii Elsewhere
returns-in-53 c = entry_there 58 refl c.in-53.is

pub returns-in-94 : goal.returns-in-94
unfolding place_of number_at value_of texts ascii Elsewhere
returns-in-94 c = entry_there 59 refl c.in-94.is

pub returns-in-32 : goal.returns-in-32
unfolding place_of number_at value_of texts ascii Elsewhere
returns-in-32 c = entry_there 60 refl c.in-32.is

pub returns-in-72 : goal.returns-in-72
unfolding place_of number_at value_of texts ascii Elsewhere
returns-in-72 c = entry_there 61 refl c.in-72.is

pub returns-in_default : goal.returns-in_default
unfolding place_of number_at value_of texts ascii Elsewhere
returns-in_default c = entry_elsewhere c.args.place (none_more 32 30 c.args.place c.requires c.in_default.in_default-own.rest)
