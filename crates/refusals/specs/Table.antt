-- The table of refusals.
use Rattle.std.specs.Prelude.{ℕ}
use Rattle.refusals.specs.declared.Refusal.{Refusal}
use Rattle.refusals.specs.declared.Refusal.TheVariants.{LedgerLimits, AgentTableLimits, CalendarLimits, ParticipantLimits, FileTooLong, LineLength, UnknownKind, FieldCount, FieldForm, WrongState, UnknownParticipant, WrongIssue, AmountLimits, WrongDate, InstructionShape, NoPlaceLeft, NotFound, OutstandingLimit, NominalShort, MoneyShort, NoPartner}

-- a refusal's number: checks run in the order of these numbers
abbrev pub number : Refusal → ℕ
number LedgerLimits = 1
number AgentTableLimits = 2
number CalendarLimits = 3
number ParticipantLimits = 4
number FileTooLong = 5
number LineLength = 6
number UnknownKind = 7
number FieldCount = 8
number FieldForm = 9
number WrongState = 10
number UnknownParticipant = 11
number WrongIssue = 12
number AmountLimits = 13
number WrongDate = 14
number InstructionShape = 15
number NoPlaceLeft = 16
number NotFound = 17
number OutstandingLimit = 18
number NominalShort = 19
number MoneyShort = 20
number NoPartner = 21
