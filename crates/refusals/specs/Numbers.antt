-- Each reason's number, and what a refusal is by it. Assumes nothing.
use Rattle.std.specs.Prelude.{ℕ}
use Rattle.format.specs.Refusal as format
use Rattle.refusals.specs.declared.Reason.{Reason}
use Rattle.refusals.specs.declared.Reason.TheVariants.{PlanLength, Header, Procedure, Term, Sort, Naming, Slot, ScheduleLength, Pick, LogArea, LogLength, Record, PlanArea, Version}
use Rattle.refusals.specs.declared.Reason.TheVariants.{LeftOut, NoRace, ScheduleArea, Bound, NotListed, BoundArea, Cycle, While, Total, FileArea, TextArea, ReadArea, PictureArea}
use Rattle.refusals.specs.declared.Refusal.{Refusal}

-- document 01's numbers, 1 to 12 and 14, and those of document 02
abbrev pub number_of : Reason → ℕ
number_of PlanLength = 1
number_of Header = 2
number_of Procedure = 3
number_of Term = 4
number_of Sort = 5
number_of Naming = 6
number_of Slot = 7
number_of ScheduleLength = 8
number_of Pick = 9
number_of LogArea = 10
number_of LogLength = 11
number_of Record = 12
number_of PlanArea = 13
number_of Version = 14
number_of LeftOut = 15
number_of NoRace = 16
number_of ScheduleArea = 17
number_of Bound = 18
number_of NotListed = 19
number_of BoundArea = 20
number_of Cycle = 21
number_of While = 22
number_of Total = 23
number_of FileArea = 24
number_of TextArea = 25
number_of ReadArea = 26
number_of PictureArea = 27

-- "An answer is the number and a place"
abbrev pub refusal_of : Refusal → format.Refusal
refusal_of r = record { number = number_of r.reason; place = r.place }
