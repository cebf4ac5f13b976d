-- What a failed accept means, by the number that the system gave it, or by its kind if it has none (accept(2)).
use Rattle.std.specs.Prelude.{ℤ, pos, Bool, true, false, List, [], ◌∷◌, Option, Some, None}
use Rattle.std.specs.List.{list_any}
use Rattle.std.specs.Ordering.{int_eq}
use Rattle.std.specs.declared.io.ErrorKind.{ErrorKind}
use Rattle.std.specs.declared.io.ErrorKind.TheVariants as kind
use Rattle.asgi_server.specs.declared.accepting.Fault.{Fault}
use Rattle.asgi_server.specs.declared.accepting.Fault.TheVariants.{Passing, Short, Lasting}

-- the errors that are to be taken as "again", and those of one connection: EPERM, EINTR, EAGAIN, ENONET, EPROTO, ENOPROTOOPT,
-- EOPNOTSUPP, ENETDOWN, ENETUNREACH, ECONNABORTED, ECONNRESET, ETIMEDOUT, EHOSTDOWN, EHOSTUNREACH
abbrev pub passing : List ℤ
passing = pos 1 ∷ pos 4 ∷ pos 11 ∷ pos 64 ∷ pos 71 ∷ pos 92 ∷ pos 95 ∷ pos 100 ∷ pos 101 ∷ pos 103 ∷ pos 104 ∷ pos 110 ∷ pos 112 ∷ pos 113 ∷ []

-- those of a want of memory or of descriptors: ENOMEM, ENFILE, EMFILE, ENOBUFS
abbrev pub short : List ℤ
short = pos 12 ∷ pos 23 ∷ pos 24 ∷ pos 105 ∷ []

abbrev pub is_among : List ℤ → ℤ → Bool
is_among codes code = list_any (λ e. int_eq e code) codes

-- by whether it passes, and whether it is a want
abbrev pub fault_by : Bool → Bool → Fault
fault_by true is_short = Passing
fault_by false true = Short
fault_by false false = Lasting

abbrev pub fault_of_code : ℤ → Fault
fault_of_code code = fault_by (is_among passing code) (is_among short code)

abbrev pub fault_of_kind : ErrorKind → Fault
fault_of_kind kind.ConnectionAborted = Passing
fault_of_kind kind.ConnectionReset = Passing
fault_of_kind kind.Interrupted = Passing
fault_of_kind kind.WouldBlock = Passing
fault_of_kind kind.OutOfMemory = Short
fault_of_kind _ = Lasting

abbrev pub fault_of : Option ℤ → ErrorKind → Fault
fault_of (Some code) of_kind = fault_of_code code
fault_of None of_kind = fault_of_kind of_kind
