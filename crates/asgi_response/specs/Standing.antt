-- What a response text stands for: the facts of a request, and the list of events that it has taken.
use Rattle.std.specs.Prelude.{◌≡◌, ◌≢◌, ◌⊎◌, ℕ, Bool, true, false, List, [], ◌∷◌, ◌++◌, map, if◌then◌else◌}
use Rattle.asgi_types.specs.Fields.{HeaderField}
use Rattle.asgi_types.specs.declared.facts.Facts.{Facts}
use Rattle.asgi_types.specs.declared.facts.Framing.{Framing}
use Rattle.asgi_types.specs.declared.facts.Framing.TheVariants.{Upgrade}
use Rattle.asgi_types.specs.declared.outgoing.Outgoing.{Outgoing}
use Rattle.asgi_types.specs.declared.outgoing.Outgoing.TheVariants.{ResponseStart, ResponseBody, ResponseTrailers}
use Rattle.asgi_protocol.specs.BytesLeft.{with_sent}
use Rattle.asgi_protocol.specs.Lawful.{IsResponse}
use Rattle.asgi_protocol.specs.Rules.{promised_length, body_bytes}
use Rattle.asgi_response.specs.declared.text.ResponseText.{ResponseText}
use Rattle.asgi_response.specs.declared.content.Coding.{Coding}
use Rattle.asgi_response.specs.declared.content.Coding.TheVariants.{Nothing, Plain, Chunked}
use Rattle.asgi_response.specs.declared.content.Content.{Content}
use Rattle.asgi_response.specs.declared.content.Trailing.{Trailing}
use Rattle.asgi_response.specs.declared.content.Trailing.TheVariants as trailing
use Rattle.asgi_response.specs.declared.text.Phase.{Phase}
use Rattle.asgi_response.specs.declared.text.Phase.TheVariants.{Waiting, Started, Begun, Trailers, Complete, NotAResponse}
use Rattle.asgi_response.specs.Fields.{is_chunked, closes, head_text}
use Rattle.asgi_response.specs.Content.{has_content}
use Rattle.asgi_response.specs.Accepted.{accepted}
use Rattle.asgi_response.specs.Denial.{closing_facts, as_response, is_decided}
use Rattle.asgi_response.specs.Progress.{closes_after}
use Rattle.asgi_response.specs.Response.{sends_trailers}

-- how the bodies are written, by whether the response has content, and whether in chunks
abbrev pub coding_of : Bool → Bool → Coding
coding_of content chunked = if content then (if chunked then Chunked else Plain) else Nothing

-- what follows the content, by whether the start has announced trailers, and whether they are sent
abbrev pub trailing_of : (announced sent : Bool) → Trailing
trailing_of announced sent = if announced then (if sent then trailing.Sent else trailing.Unsent) else trailing.Nothing

-- a request of this framing opens a session (RFC 6455, section 4.2.1)
abbrev pub opens_session : Framing → Bool
opens_session Upgrade = true
opens_session _ = false

abbrev pub part : List ℕ → Outgoing
part body = ResponseBody body true

abbrev pub section : List HeaderField → Outgoing
section fields = ResponseTrailers fields true

-- a start and the parts after it, and the state of the content
pub record IsOpen (facts : Facts) (said : List Outgoing) (status : ℕ) (headers : List HeaderField) (announced : Bool) (parts : List (List ℕ)) (content : Content) : Type 0 where
  pub events : said ≡ ResponseStart status headers announced ∷ map part parts
  pub coding : content.coding ≡ coding_of (has_content facts.head_only status) (is_chunked facts.version status headers)
  pub trailing : content.trailing ≡ trailing_of announced (sends_trailers facts status headers announced)
  pub left : promised_length facts said ≡ with_sent (body_bytes said) content.left

-- a start alone, and the head that will be written
pub record HasStart (facts : Facts) (said : List Outgoing) (content : Content) (head : List ℕ) : Type 0 where
  pub status : ℕ
  pub headers : List HeaderField
  pub announced : Bool
  pub is_open : IsOpen facts said status headers announced [] content
  pub text : head ≡ head_text (is_chunked facts.version status headers) (closes facts.close headers) status headers

-- a start and one part or more, all of it written
pub record HasParts (facts : Facts) (said : List Outgoing) (content : Content) (head : List ℕ) : Type 0 where
  pub status : ℕ
  pub headers : List HeaderField
  pub announced : Bool
  pub front : List (List ℕ)
  pub last : List ℕ
  pub is_open : IsOpen facts said status headers announced (front ++ last ∷ []) content
  pub written : head ≡ []

-- a start that has announced trailers, the whole content, and the trailers so far; whether these are sent
pub record HasContent (facts : Facts) (said : List Outgoing) (sent : Bool) : Type 0 where
  pub status : ℕ
  pub headers : List HeaderField
  pub parts : List (List ℕ)
  pub last : List ℕ
  pub sections : List (List HeaderField)
  pub events : said ≡ ResponseStart status headers true ∷ map part parts ++ ResponseBody last false ∷ map section sections
  pub are_sent : sent ≡ sends_trailers facts status headers true

-- the phase of a response after these events were accepted
abbrev pub IsPhase : Facts → List Outgoing → List ℕ → Phase → Type 0
IsPhase facts said head Waiting = said ≡ []
IsPhase facts said head (Started content) = HasStart facts said content head
IsPhase facts said head (Begun content) = HasParts facts said content head
IsPhase facts said head (Trailers sent) = HasContent facts said sent
IsPhase facts said head Complete = IsResponse said
IsPhase facts said head NotAResponse = ⊥

-- the text has accepted these events
pub record HasAccepted (text : ResponseText) (facts : Facts) (said : List Outgoing) : Type 0 where
  pub version : text.version ≡ facts.version
  pub head_only : text.head_only ≡ facts.head_only
  pub close : text.close ≡ closes_after facts said
  pub expect : text.expect ≡ facts.expect
  pub trailers_ok : text.trailers_ok ≡ facts.trailers_ok
  pub session : text.session ≡ opens_session facts.framing
  pub phase : IsPhase facts said text.head text.phase

-- the text has taken these events, for a request that opens no session
pub record StandsFor (text : ResponseText) (facts : Facts) (events : List Outgoing) : Type 0 where
  pub plain : facts.framing ≢ Upgrade
  pub has_accepted : HasAccepted text facts (accepted facts events)

-- an accept or a close was sent, which is no part of this text
pub record IsElsewhere (text : ResponseText) (events : List Outgoing) : Type 0 where
  pub decided : is_decided events ≡ true
  pub session : text.session ≡ true
  pub phase : text.phase ≡ NotAResponse

-- so far the events are a denial or none
pub record IsDenying (text : ResponseText) (facts : Facts) (events : List Outgoing) : Type 0 where
  pub undecided : is_decided events ≡ false
  pub has_accepted : HasAccepted text (closing_facts facts) (accepted (closing_facts facts) (map as_response events))

-- the text has taken these events, for an opening handshake
pub record StandsForSession (text : ResponseText) (facts : Facts) (events : List Outgoing) : Type 0 where
  pub opens : facts.framing ≡ Upgrade
  pub taken : IsElsewhere text events ⊎ IsDenying text facts events

-- the output grew by exactly the difference between the two texts
pub record Grows (before after old new : List ℕ) : Type 0 where
  pub added : List ℕ
  pub text : after ≡ before ++ added
  pub output : new ≡ old ++ added
