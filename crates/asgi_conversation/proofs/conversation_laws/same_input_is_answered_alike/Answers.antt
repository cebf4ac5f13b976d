use Rattle.std.proofs.Common.{refl}
use Rattle.asgi_conversation.proofs.OneKindLemmas as lemma
use Rattle.asgi_conversation.proofs.conversation_laws.same_input_is_answered_alike.Goals as goal

pub returns-clause-not_both : goal.returns-clause-not_both
returns-clause-not_both c limits end late read exchanges others traffic written other report another v w =
    lemma.not_both limits end late read exchanges others traffic written other report another v w

pub returns-clause-kind : goal.returns-clause-kind
returns-clause-kind c limits end late read exchanges others traffic other_traffic written other report another v w =
    lemma.one_kind limits end late read exchanges others traffic other_traffic written other report another v w

pub returns-clause-text : goal.returns-clause-text
returns-clause-text c limits end late read exchanges others traffic other_traffic written other report another v w =
    lemma.same_text limits end late read exchanges others traffic other_traffic written other report another
    (lemma.one_kind limits end late read exchanges others traffic other_traffic written other report another v w)

pub returns-clause-messages : goal.returns-clause-messages
returns-clause-messages c limits end late read exchanges others traffic other_traffic written other report another v w same =
    lemma.same_handed limits end late read exchanges others traffic other_traffic written other report another same
    (lemma.one_kind limits end late read exchanges others traffic other_traffic written other report another v w)

pub returns-clause-outcome : goal.returns-clause-outcome
returns-clause-outcome c limits end read exchanges others traffic other_traffic written other report another v w same =
    lemma.same_outcome limits end end read exchanges others traffic other_traffic written other report another refl same
    (lemma.one_kind limits end end read exchanges others traffic other_traffic written other report another v w)

pub returns-clause-session_outcome : goal.returns-clause-session_outcome
returns-clause-session_outcome c limits end late read exchanges others traffic other_traffic written other report another v w same =
    lemma.session_outcome limits end late read exchanges others traffic other_traffic written other report another same v w
