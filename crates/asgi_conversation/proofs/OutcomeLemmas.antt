-- What the class of an outcome shows about it: no other proof lists all outcomes.
use Rattle.std.proofs.Common.{◌≡◌, ℕ, true, false, List, refl}
use Rattle.asgi_conversation.specs.declared.report.Outcome.{Outcome}
use Rattle.asgi_conversation.specs.declared.report.Outcome.TheVariants.{Finished, Refused, InputBroke, WriteFailed, Idle, NoMemory, NoThread}
use Rattle.asgi_request.specs.ChunkedBody.{BodyState}
use Rattle.asgi_conversation.specs.declared.input.InputEnd.{InputEnd}
use Rattle.asgi_conversation.specs.ExchangeRecord.{ExchangeRecord}
use Rattle.asgi_conversation.specs.Persistence.{IsDone, EndsWithin, EndsWithinAs}
use Rattle.asgi_conversation.specs.OutcomeClasses.{OutcomeClass, Uncut, ByWrite, GivenUp, Lacking, Unbegun, class_of, is_cut, is_cut_class, cuts_exchange, cuts_exchange_class}

-- one of those that nothing cut short
pub data IsWhole (outcome : Outcome) : Type 0 where
  AsFinished : outcome ≡ Finished → IsWhole outcome
  AsRefused : (status : ℕ) → outcome ≡ Refused status → IsWhole outcome
  AsInputBroke : outcome ≡ InputBroke → IsWhole outcome

pub is_whole : (o : Outcome) → is_cut o ≡ false → IsWhole o
is_whole Finished c = AsFinished refl
is_whole (Refused status) c = AsRefused status refl
is_whole InputBroke c = AsInputBroke refl
is_whole (WriteFailed n) c = absurd (cc)
is_whole Idle c = absurd (cc)
is_whole NoMemory c = absurd (cc)
is_whole NoThread c = absurd (cc)

pub failed_write : (o : Outcome) (n : ℕ) → class_of o ≡ ByWrite n → o ≡ WriteFailed n
failed_write Finished n c = absurd (cc)
failed_write (Refused status) n c = absurd (cc)
failed_write InputBroke n c = absurd (cc)
failed_write (WriteFailed m) n c = cc
failed_write Idle n c = absurd (cc)
failed_write NoMemory n c = absurd (cc)
failed_write NoThread n c = absurd (cc)

cut_class : (k : OutcomeClass) → cuts_exchange_class k ≡ true → is_cut_class k ≡ true
cut_class Uncut c = absurd (cc)
cut_class (ByWrite n) c = refl
cut_class GivenUp c = refl
cut_class Lacking c = refl
cut_class Unbegun c = absurd (cc)

pub cut_short : (o : Outcome) → cuts_exchange o ≡ true → is_cut o ≡ true
cut_short o c = cut_class (class_of o) c

-- an exchange in which nothing was cut short is done
pub is_done : (o : Outcome) (end : InputEnd) (x : ExchangeRecord) (state : BodyState) (text : List ℕ) → is_cut o ≡ false → EndsWithin o end x state text → IsDone o x state text
is_done o end x state text c e = by (class_of o) c e
  where
    by : (k : OutcomeClass) → is_cut_class k ≡ false → EndsWithinAs k o end x state text → IsDone o x state text
    by Uncut c e = e.0
    by (ByWrite n) c e = absurd (cc)
    by GivenUp c e = absurd (cc)
    by Lacking c e = absurd (cc)
    by Unbegun c e = absurd (cc)
