-- Which lists of events a judge stands for: `StandsFor`, which the clauses of `Judge` name. The other words here are those of
-- private functions, and describe what a judge keeps.
use Rattle.std.specs.Prelude.{◌≡◌, Bool, true, false, List, [], ◌∷◌, ◌++◌, None}
use Rattle.asgi_types.specs.declared.scope.Kind.{Kind}
use Rattle.asgi_types.specs.declared.scope.Kind.TheVariants.{Http, WebSocket, Lifespan}
use Rattle.asgi_types.specs.declared.facts.Facts.{Facts}
use Rattle.asgi_types.specs.declared.outgoing.Outgoing.{Outgoing}
use Rattle.asgi_protocol.specs.declared.judge.Due.{Due}
use Rattle.asgi_protocol.specs.declared.judge.Due.TheVariants.{Content, ContentAndTrailers, TrailersAlone}
use Rattle.asgi_protocol.specs.declared.judge.Stage.{Stage}
use Rattle.asgi_protocol.specs.declared.judge.Stage.TheVariants.{Fresh, ResponseStarted, Accepted, LifespanStarted, Ended}
use Rattle.asgi_protocol.specs.declared.judge.Judge.{Judge}
use Rattle.asgi_protocol.specs.BytesLeft.{with_sent}
use Rattle.asgi_protocol.specs.Lawful.{IsLawful}
use Rattle.asgi_protocol.specs.Rules.{promised_length, body_bytes}
use Rattle.asgi_protocol.specs.Shapes.{is_word, begins_word, is_row, begins_row, is_empty, is_part, is_last_part, is_message, is_close, is_denial_part, is_last_denial_part, is_stop_answer, no_event, is_after_content, begins_after_content}

-- the sorts of bodies in a scope of this kind
abbrev pub is_part_in : Kind → Outgoing → Bool
is_part_in Http event = is_part event
is_part_in WebSocket event = is_denial_part event
is_part_in Lifespan event = false

abbrev pub is_last_part_in : Kind → Outgoing → Bool
is_last_part_in Http event = is_last_part event
is_last_part_in WebSocket event = is_last_denial_part event
is_last_part_in Lifespan event = false

-- what is due of a response that has started
abbrev pub is_rest_due : Kind → Due → List Outgoing → Bool
is_rest_due kind Content events = is_row (is_part_in kind) (is_last_part_in kind) (is_after_content false) events
is_rest_due kind ContentAndTrailers events = is_row (is_part_in kind) (is_last_part_in kind) (is_after_content true) events
is_rest_due kind TrailersAlone events = is_after_content true events

abbrev pub begins_rest_due : Kind → Due → List Outgoing → Bool
begins_rest_due kind Content events = begins_row (is_part_in kind) (is_last_part_in kind) (begins_after_content false) events
begins_rest_due kind ContentAndTrailers events = begins_row (is_part_in kind) (is_last_part_in kind) (begins_after_content true) events
begins_rest_due kind TrailersAlone events = begins_after_content true events

-- what completes a word from a stage on
abbrev pub is_rest : Kind → Stage → List Outgoing → Bool
is_rest kind Fresh events = is_word kind events
is_rest kind (ResponseStarted left due) events = is_rest_due kind due events
is_rest kind Accepted events = is_row is_message is_close is_empty events
is_rest kind LifespanStarted events = is_row no_event is_stop_answer is_empty events
is_rest kind Ended events = is_empty events

-- what may follow a stage
abbrev pub begins_rest : Kind → Stage → List Outgoing → Bool
begins_rest kind Fresh events = begins_word kind events
begins_rest kind (ResponseStarted left due) events = begins_rest_due kind due events
begins_rest kind Accepted events = begins_row is_message is_close is_empty events
begins_rest kind LifespanStarted events = begins_row no_event is_stop_answer is_empty events
begins_rest kind Ended events = is_empty events

-- the stage counts the bytes that are left of the promised ones
abbrev pub CountsBytes : Facts → Stage → List Outgoing → Type 0
CountsBytes facts Fresh said = said ≡ []
CountsBytes facts (ResponseStarted left due) said =
    (start : Outgoing) × (bodies : List Outgoing) × (said ≡ start ∷ bodies)
    × (promised_length facts said ≡ with_sent (body_bytes said) left)
CountsBytes facts Accepted said = (start : Outgoing) × (sent : List Outgoing) × (said ≡ start ∷ sent) × (promised_length facts said ≡ None)
CountsBytes facts LifespanStarted said = (start : Outgoing) × (sent : List Outgoing) × (said ≡ start ∷ sent) × (promised_length facts said ≡ None)
CountsBytes facts Ended said = Unit {0}

-- The judge stands for a lawful list of events that were sent in a scope of this kind, whose request has these facts, with or
-- without a received disconnect.
pub record StandsFor (judge : Judge) (kind : Kind) (facts : Facts) (said : List Outgoing) (heard : Bool) : Type 0 where
  pub kind_is : judge.kind ≡ kind
  pub heard_is : judge.disconnected ≡ heard
  pub lawful : IsLawful kind facts said
  pub rest : (more : List Outgoing) → is_word kind (said ++ more) ≡ is_rest kind judge.stage more
  pub begins : (more : List Outgoing) → begins_word kind (said ++ more) ≡ begins_rest kind judge.stage more
  pub counts : CountsBytes facts judge.stage said
