-- `log_places::places::number` meets its contract. Assumes nothing.
use Rattle.log_places.specs.Inner.Places.{next, full}
use Rattle.log_places.proofs.OwnNumbers.{own_number, known_as, kept_number}
use native.Mathlib.Omega.{arith}
use Rattle.log_places.proofs.places.number.Goals as goal

pub returns-then-most-gt255 : goal.returns-then-most-gt255
returns-then-most-gt255 c =
    let a = c.args in
    own_number a.numbers.now a.given.now a.place a.most c.requires.place_in c.if-most-gt255.true

pub returns-then-most-last : goal.returns-then-most-last
returns-then-most-last c = kept_number (omega arith) (full (omega arith) (omega arith))

pub returns-then-known-eq0 : goal.returns-then-known-eq0
returns-then-known-eq0 c = kept_number (omega arith) (next (omega arith) (omega arith))

pub returns : goal.returns
returns c = kept_number (omega arith) (known_as c.wide-known.ensures.0 (omega arith))
