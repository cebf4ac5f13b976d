-- What comes next of an exchange still does once its application has sent more.
use Rattle.std.proofs.Common.{List, ◌∷◌, ◌++◌, ap, ◌∙◌, append_assoc, Option, None}
use Rattle.asgi_types.specs.declared.end_kind.EndKind.{EndKind}
use Rattle.asgi_types.specs.declared.outgoing.Outgoing.{Outgoing}
use Rattle.asgi_conversation.specs.ExchangeRecord.{ExchangeRecord, IsNext, Beginning, Saying, Ending}

pub next_on : {O : Type 0} (output : List Outgoing → List O) (ending later : EndKind → List O) (x : ExchangeRecord) (said more : List Outgoing) (ended : Option EndKind) (out next : List O)
    → IsNext output ending (record x { said = said; ended = None }) out next → IsNext output later (record x { said = said ++ more; ended = ended }) out next
next_on output ending later x said more ended out next (Beginning none is) = Beginning none is
next_on output ending later x said more ended out next (Saying before after event sent is grows) =
    Saying before (after ++ more) event (ap (λ (l : List Outgoing). l ++ more) sent ∙ append_assoc before (event ∷ after) more) is grows
next_on output ending later x said more ended out next (Ending kind put is adds) = cc
