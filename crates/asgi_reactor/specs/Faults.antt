-- What a failed accept means, by the number that the system gave it, or by its kind if it has none (accept(2)).
use Rattle.std.specs.Prelude.{◌≡◌, ◌⊎◌, ℕ, ℤ, pos, Bool, true, false, List, [], ◌∷◌, Option, Some, None, IsSome, IsSomeAnd}
use Rattle.std.specs.List.{list_any}
use Rattle.std.specs.Ordering.{int_eq}
use Rattle.std.specs.IoError.{raw_os_error, error_kind}
use Rattle.std.specs.declared.io.Error.{Error}
use Rattle.std.specs.declared.io.ErrorKind.{ErrorKind}
use Rattle.std.specs.declared.io.ErrorKind.TheVariants as kind
use Rattle.asgi_io.specs.Answers.{passes}
use Rattle.asgi_reactor.specs.declared.faults.Fault.{Fault}
use Rattle.asgi_reactor.specs.declared.quota.Ticketer.{Ticketer}
use Rattle.asgi_reactor.specs.Shares.{FoundSpent}
use Rattle.asgi_reactor.specs.declared.faults.Fault.TheVariants.{NoneNow, Lost, Short, Lasting}

-- no connection is there: EAGAIN
abbrev pub none_now : List ℤ
none_now = pos 11 ∷ []

-- descriptors or memory are short: ENOMEM, ENFILE, EMFILE, ENOBUFS
abbrev pub short : List ℤ
short = pos 12 ∷ pos 23 ∷ pos 24 ∷ pos 105 ∷ []

-- the listener itself has failed: EBADF, EFAULT, EINVAL, ENOTSOCK
abbrev pub lasting : List ℤ
lasting = pos 9 ∷ pos 14 ∷ pos 22 ∷ pos 88 ∷ []

abbrev pub is_among : List ℤ → ℤ → Bool
is_among codes code = list_any (λ e. int_eq e code) codes

-- by whether it is of the first kind, of the second, and of the third; else a connection was lost
abbrev pub fault_by : Bool → Bool → Bool → Fault
fault_by true is_short is_lasting = NoneNow
fault_by false true is_lasting = Short
fault_by false false true = Lasting
fault_by false false false = Lost

abbrev pub fault_of_code : ℤ → Fault
fault_of_code code = fault_by (is_among none_now code) (is_among short code) (is_among lasting code)

abbrev pub fault_of_kind : ErrorKind → Fault
fault_of_kind kind.WouldBlock = NoneNow
fault_of_kind kind.OutOfMemory = Short
fault_of_kind _ = Lost

abbrev pub fault_of : Option ℤ → ErrorKind → Fault
fault_of (Some code) of_kind = fault_of_code code
fault_of None of_kind = fault_of_kind of_kind

-- whether a write that failed so may be tried again (send(2)): memory for it is short, it would block, or it was interrupted
abbrev pub may_pass_by : Fault → ErrorKind → Bool
may_pass_by Short of_kind = true
may_pass_by NoneNow of_kind = passes of_kind
may_pass_by Lost of_kind = passes of_kind
may_pass_by Lasting of_kind = passes of_kind

abbrev pub may_pass : Option ℤ → ErrorKind → Bool
may_pass code of_kind = may_pass_by (fault_of code of_kind) of_kind

-- the listener has failed for good, with this error of the system
abbrev pub HasFailed : Option Error → Type 0
HasFailed why = IsSomeAnd why (λ e. fault_of (raw_os_error e) (error_kind e) ≡ Lasting)

-- Why no connection will be accepted any more: all that were to be have been, by this reactor or by all that share its quota, the listener has
-- failed, or there is a flag. That the flag was found set is not said here, since no clause knows what it holds.
abbrev pub IsOver : {F : Type 0} → ℕ → Option Error → Option F → Option Ticketer → Type 0
IsOver left why flag ticketer = (left ≡ 0) ⊎ IsSome why ⊎ IsSome flag ⊎ IsSomeAnd ticketer FoundSpent
