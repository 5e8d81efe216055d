-- Public: the number of each refusal, as documents 01 and 02 give it.
use Rattle.std.specs.Prelude.{ℕ, Result, Ok, Err}
use Rattle.refusal.specs.declared.Refusal.{Refusal}
use Rattle.refusal.specs.declared.Refusal.TheVariants.{BadArity, BadCapacity, OutsidePool, BadLength, NoRoom, Damaged, BadCursor, BadOrder, BadAtoms, BadList, FreeVariable, Full, NotAFile, LongText, MixedKinds, PartRows, OtherShape}

abbrev pub number_of : Refusal → ℕ
number_of BadArity = 1
number_of BadCapacity = 2
number_of OutsidePool = 3
number_of BadLength = 4
number_of NoRoom = 5
number_of Damaged = 6
number_of BadCursor = 7
number_of BadOrder = 8
number_of BadAtoms = 9
number_of BadList = 10
number_of FreeVariable = 11
number_of Full = 12
number_of NotAFile = 13
number_of LongText = 14
number_of MixedKinds = 15
number_of PartRows = 16
number_of OtherShape = 17

-- the number of a check's answer: 0 where it refuses nothing
abbrev pub given : {T : Type 0} → Result T Refusal → ℕ
given (Ok _) = 0
given (Err r) = number_of r
