-- The number of each refusal, which is its place in the table.
use Rattle.std.specs.Prelude.{ℕ}
use Rattle.asgi_protocol.specs.declared.verdict.Violation.{Violation}
use Rattle.asgi_protocol.specs.declared.verdict.Violation.TheVariants.{Closed, Disconnected, WrongScope, OutOfOrder, BadStatus, BadHeader, BadCode, BadReason, BadSubprotocol, TooMuchBody, TooLittleBody}

abbrev pub number_of : Violation → ℕ
number_of Closed = 1
number_of Disconnected = 2
number_of WrongScope = 3
number_of OutOfOrder = 4
number_of BadStatus = 5
number_of BadHeader = 6
number_of BadCode = 7
number_of BadReason = 8
number_of BadSubprotocol = 9
number_of TooMuchBody = 10
number_of TooLittleBody = 11
