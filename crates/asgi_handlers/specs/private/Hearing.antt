-- How a task goes on: words of private functions.
use Rattle.std.specs.Prelude.{◌≡◌, ℕ, Bool, true, false, List, [], ◌∷◌, ◌++◌, ⊤}
use Rattle.asgi_types.specs.declared.scope.Kind.{Kind}
use Rattle.asgi_types.specs.declared.facts.Facts.{Facts}
use Rattle.asgi_types.specs.declared.incoming.Incoming.{Incoming}
use Rattle.asgi_types.specs.declared.incoming.Incoming.TheVariants.{HttpRequest}
use Rattle.asgi_types.specs.declared.outgoing.Outgoing.{Outgoing}
use Rattle.asgi_protocol.specs.declared.verdict.Verdict.TheVariants.{Pass}
use Rattle.asgi_protocol.specs.Verdicts.{is_disconnect, verdict_on}
use Rattle.asgi_pipes.specs.Disconnects.{has_disconnect}
use Rattle.asgi_handlers.specs.declared.handling.Heard.{Heard}
use Rattle.asgi_handlers.specs.declared.handling.Heard.TheVariants.{More, Gone, Whole, Failed}
use Rattle.asgi_handlers.specs.declared.reply.Reply.{Reply}
use Rattle.asgi_handlers.specs.declared.sending.Said.{Said}
use Rattle.asgi_handlers.specs.declared.sending.Said.TheVariants.{Left, All, Refused}
use Rattle.asgi_handlers.specs.Replies.{is_last_part}

-- the body after an event
abbrev pub body_after : List ℕ → Incoming → List ℕ
body_after body (HttpRequest part more_body) = body ++ part
body_after body _ = body

-- What an event of a request is, by the body before it and the one after it, and by the replies that the handler has given
-- before it and after it.
abbrev pub Hearing : (List ℕ → Reply → Type 0) → Incoming → (before after : List ℕ) → (given given_after : List Reply) → Heard → Type 0
Hearing allows event before after given given_after More =
    (is_disconnect event ≡ false) × (is_last_part event ≡ false) × (after ≡ body_after before event) × (given_after ≡ given)
Hearing allows event before after given given_after Gone = is_disconnect event ≡ true
Hearing allows event before after given given_after (Whole reply) =
    (part : List ℕ) × (event ≡ HttpRequest part false) × allows (before ++ part) reply × (given_after ≡ given ++ reply ∷ [])
Hearing allows event before after given given_after (Failed fault) = ⊤

-- what the part that was added last is, by whether more follow it
abbrev pub Added : (Reply → Type 0) → Bool → (given given_after : List Reply) → Heard → Type 0
Added gives more_body given given_after More = (more_body ≡ true) × (given_after ≡ given)
Added gives more_body given given_after Gone = ⊥
Added gives more_body given given_after (Whole reply) = (more_body ≡ false) × gives reply × (given_after ≡ given ++ reply ∷ [])
Added gives more_body given given_after (Failed fault) = ⊤

-- the part was not added
abbrev pub IsFailed : Heard → Type 0
IsFailed (Failed fault) = ⊤
IsFailed More = ⊥
IsFailed Gone = ⊥
IsFailed (Whole reply) = ⊥

-- the next event was refused, and nothing was sent
pub record NotTaken (kind : Kind) (facts : Facts) (heard : List Incoming) (said left after : List Outgoing) : Type 0 where
  pub event : Outgoing
  pub rest : List Outgoing
  pub next : left ≡ event ∷ rest
  pub refused : verdict_on kind facts said (has_disconnect heard) event ≡ Pass → ⊥
  pub same : after ≡ said

-- what a poll that sends makes of what was sent and of what is left
abbrev pub Sends : Kind → Facts → List Incoming → (said left after left_after : List Outgoing) → Said → Type 0
Sends kind facts heard said left after left_after Left = after ++ left_after ≡ said ++ left
Sends kind facts heard said left after left_after All = after ≡ said ++ left
Sends kind facts heard said left after left_after Refused = NotTaken kind facts heard said left after

-- what holds if something is left
abbrev pub IfLeft : Said → Type 0 → Type 0
IfLeft Left P = P
IfLeft All P = ⊤
IfLeft Refused P = ⊤

-- all was sent only if this is nothing
abbrev pub IsRest : List Outgoing → Said → Type 0
IsRest rest Left = ⊤
IsRest rest All = rest ≡ []
IsRest rest Refused = ⊥
