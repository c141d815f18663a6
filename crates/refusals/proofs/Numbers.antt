-- A reason's number is its place in the enum, from 1. Assumes nothing.
use Rattle.std.proofs.Common.{◌≡◌, ◌+◌, ◌≤◌, refl}
use native.Mathlib.Omega.{arith}
use Rattle.refusals.specs.Numbers.{number_of}
use Rattle.refusals.specs.contracts.Reason.{the_type}
use Rattle.refusals.specs.declared.Reason.{Reason}
use Rattle.refusals.specs.declared.Reason.TheVariants.{PlanLength, Header, Procedure, Term, Sort, Naming, Slot, ScheduleLength, Pick, LogArea, LogLength, Record, PlanArea, Version}
use Rattle.refusals.specs.declared.Reason.TheVariants.{LeftOut, NoRace, ScheduleArea, Bound, NotListed, BoundArea, Cycle, While, Total, FileArea, TextArea, ReadArea, PictureArea}
use denote.Enum.Declared.{tag_of}

pub number_is_tag : (r : Reason) → tag_of the_type r + 1 ≡ number_of r
number_is_tag PlanLength = refl
number_is_tag Header = refl
number_is_tag Procedure = refl
number_is_tag Term = refl
number_is_tag Sort = refl
number_is_tag Naming = refl
number_is_tag Slot = refl
number_is_tag ScheduleLength = refl
number_is_tag Pick = refl
number_is_tag LogArea = refl
number_is_tag LogLength = refl
number_is_tag Record = refl
number_is_tag PlanArea = refl
number_is_tag Version = refl
number_is_tag LeftOut = refl
number_is_tag NoRace = refl
number_is_tag ScheduleArea = refl
number_is_tag Bound = refl
number_is_tag NotListed = refl
number_is_tag BoundArea = refl
number_is_tag Cycle = refl
number_is_tag While = refl
number_is_tag Total = refl
number_is_tag FileArea = refl
number_is_tag TextArea = refl
number_is_tag ReadArea = refl
number_is_tag PictureArea = refl

-- the numbers go to 27
pub most_number : (r : Reason) → number_of r ≤ 27
most_number PlanLength = omega arith
most_number Header = omega arith
most_number Procedure = omega arith
most_number Term = omega arith
most_number Sort = omega arith
most_number Naming = omega arith
most_number Slot = omega arith
most_number ScheduleLength = omega arith
most_number Pick = omega arith
most_number LogArea = omega arith
most_number LogLength = omega arith
most_number Record = omega arith
most_number PlanArea = omega arith
most_number Version = omega arith
most_number LeftOut = omega arith
most_number NoRace = omega arith
most_number ScheduleArea = omega arith
most_number Bound = omega arith
most_number NotListed = omega arith
most_number BoundArea = omega arith
most_number Cycle = omega arith
most_number While = omega arith
most_number Total = omega arith
most_number FileArea = omega arith
most_number TextArea = omega arith
most_number ReadArea = omega arith
most_number PictureArea = omega arith
