-- What is known of the text of a connection, by the class of its outcome.
use Rattle.std.specs.Prelude.{◌≡◌, ◌⊎◌, ℕ, Bool, true, false}
use Rattle.asgi_conversation.specs.declared.report.Outcome.{Outcome}
use Rattle.asgi_conversation.specs.declared.report.Outcome.TheVariants.{Finished, Refused, InputBroke, WriteFailed, Idle, NoMemory, NoThread}

-- Nothing cut it short; a write failed, with n bytes of the text in hand out; it was given up at a limit; memory was refused;
-- or a thread was, and no task was begun.
pub data OutcomeClass : Type 0 where
  Uncut : OutcomeClass
  ByWrite : ℕ → OutcomeClass
  GivenUp : OutcomeClass
  Lacking : OutcomeClass
  Unbegun : OutcomeClass

abbrev pub class_of : Outcome → OutcomeClass
class_of Finished = Uncut
class_of (Refused status) = Uncut
class_of InputBroke = Uncut
class_of (WriteFailed n) = ByWrite n
class_of Idle = GivenUp
class_of NoMemory = Lacking
class_of NoThread = Unbegun

abbrev pub is_cut_class : OutcomeClass → Bool
is_cut_class Uncut = false
is_cut_class (ByWrite n) = true
is_cut_class GivenUp = true
is_cut_class Lacking = true
is_cut_class Unbegun = true

-- the connection was cut short
abbrev pub is_cut : Outcome → Bool
is_cut outcome = is_cut_class (class_of outcome)

abbrev pub cuts_exchange_class : OutcomeClass → Bool
cuts_exchange_class Uncut = false
cuts_exchange_class (ByWrite n) = true
cuts_exchange_class GivenUp = true
cuts_exchange_class Lacking = true
cuts_exchange_class Unbegun = false

-- it was cut short in an exchange
abbrev pub cuts_exchange : Outcome → Bool
cuts_exchange outcome = cuts_exchange_class (class_of outcome)

-- memory or a thread was refused
abbrev pub IsLacking : Outcome → Type 0
IsLacking outcome = (class_of outcome ≡ Lacking) ⊎ (class_of outcome ≡ Unbegun)
