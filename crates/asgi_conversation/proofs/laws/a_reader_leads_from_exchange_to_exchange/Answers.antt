use Rattle.asgi_conversation.proofs.laws.a_reader_leads_from_exchange_to_exchange.Goals as goal
use Rattle.std.proofs.Common.{subst}
use Rattle.asgi_request.specs.declared.place.Place.{Place}
use Rattle.asgi_request.specs.Places.{Reaches}
use Rattle.asgi_conversation.proofs.LoopLemmas as lemma

pub returns-clause-starts : goal.returns-clause-starts
returns-clause-starts c limits end = lemma.starts limits end

pub returns-clause-reads_more : goal.returns-clause-reads_more
returns-clause-reads_more c limits end read more given exchanges after written b = lemma.reads_more limits end read more given exchanges after written b

pub returns-clause-sees_end : goal.returns-clause-sees_end
returns-clause-sees_end c limits old new read given exchanges after written on b = lemma.end_seen limits old new read given exchanges after written on b

pub returns-clause-begins : goal.returns-clause-begins
returns-clause-begins c reader end read given more exchanges after written scope facts b r plain =
    lemma.begins reader.limits end read given more exchanges after written reader.place reader.held scope facts b r plain

pub returns-clause-reads_more_within : goal.returns-clause-reads_more_within
returns-clause-reads_more_within c limits end read more opened exchanges written scope facts arrived x =
    lemma.within_reads_more limits end read more opened exchanges written scope facts arrived x

pub returns-clause-sees_end_within : goal.returns-clause-sees_end_within
returns-clause-sees_end_within c limits old new read opened exchanges written scope facts arrived on x =
    lemma.end_seen_within limits old new read opened exchanges written scope facts arrived on x

pub returns-clause-keeps_on : goal.returns-clause-keeps_on
returns-clause-keeps_on c reader end read opened exchanges written scope facts w kind events x i t p input_broke out r =
    lemma.keeps_on reader.limits end read opened exchanges written scope facts w kind events reader.place reader.held x i t p input_broke out r

pub returns-clause-held : goal.returns-clause-held
returns-clause-held c reader end read given exchanges after written b r e =
    lemma.after_is_held reader.limits end read given exchanges after written reader.held b
    (subst (λ (p : Place). Reaches reader.limits read given p reader.held) e r)
