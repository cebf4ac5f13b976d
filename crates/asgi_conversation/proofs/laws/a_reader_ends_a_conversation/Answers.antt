use Rattle.asgi_conversation.proofs.laws.a_reader_ends_a_conversation.Goals as goal
use Rattle.asgi_conversation.proofs.LoopLemmas as lemma

pub returns-clause-refused : goal.returns-clause-refused
returns-clause-refused c reader end read given exchanges after written report status b n r o = lemma.refused reader.limits end read given exchanges after written report b n status
    (lemma.refusal_due reader.limits end read given exchanges after written reader.place reader.held status b r) o

pub returns-clause-refusal_unsent : goal.returns-clause-refusal_unsent
returns-clause-refusal_unsent c reader end read given exchanges after written report status k b n r h o = lemma.refusal_failed reader.limits end read given exchanges after written report b n status k
    (lemma.refusal_due reader.limits end read given exchanges after written reader.place reader.held status b r) h o

pub returns-clause-finished : goal.returns-clause-finished
returns-clause-finished c reader end read given exchanges after written report b n g e blank o = lemma.finished reader.limits end read given exchanges after written report b n g.0 g.1 e blank o

pub returns-clause-input_broke : goal.returns-clause-input_broke
returns-clause-input_broke c reader end read given exchanges after written report b n g e o = lemma.input_broke reader.limits end read given exchanges after written report b n g.0 g.1 e o

pub returns-clause-idle : goal.returns-clause-idle
returns-clause-idle c reader end read given exchanges after written report b n g o = lemma.idle reader.limits end read given exchanges after written report b n g.0 g.1 o

pub returns-clause-lacking : goal.returns-clause-lacking
returns-clause-lacking c limits end read given exchanges after written report b n l = lemma.lacking limits end read given exchanges after written report b n l

pub returns-clause-unbegun : goal.returns-clause-unbegun
returns-clause-unbegun c limits end read given exchanges after written report b n l due = lemma.unbegun limits end read given exchanges after written report b n l due
