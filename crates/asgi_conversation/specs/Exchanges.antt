-- The exchanges of one HTTP connection, each with the request that it answers (RFC 9112, section 9.3).
use Rattle.std.specs.Prelude.{◌≡◌, ℕ, ◌+◌, ◌⊎◌, Bool, true, false, List, [], ◌∷◌, map, Option, Some}
use Rattle.std.specs.List.{flat_map}
use Rattle.asgi_types.specs.declared.end_kind.EndKind.{EndKind}
use Rattle.asgi_types.specs.declared.end_kind.EndKind.TheVariants as kind
use Rattle.asgi_types.specs.declared.facts.Facts.{Facts}
use Rattle.asgi_types.specs.declared.incoming.Incoming.{Incoming}
use Rattle.asgi_types.specs.declared.incoming.Incoming.TheVariants.{HttpDisconnect}
use Rattle.asgi_types.specs.declared.limits.Limits.{Limits}
use Rattle.asgi_types.specs.declared.scope.Scope.{Scope}
use Rattle.asgi_types.specs.declared.scope.Kind.TheVariants.{Http}
use Rattle.asgi_protocol.specs.Lawful.{IsLawful, IsClosed}
use Rattle.asgi_request.specs.ChunkedBody.{BodyState, complete}
use Rattle.asgi_request.specs.Opened.{BeginsWith}
use Rattle.asgi_request.specs.RequestEvents.{ReadsBody}
use Rattle.asgi_response.specs.declared.refusal.Input.{Input}
use Rattle.asgi_response.specs.declared.refusal.Input.TheVariants as input
use Rattle.asgi_response.specs.Progress.{progress_of}
use Rattle.asgi_exchange.specs.ExchangeTexts.{text_of}
use Rattle.asgi_conversation.specs.declared.following.NextStep.{NextStep}
use Rattle.asgi_conversation.specs.declared.following.NextStep.TheVariants.{NextRequest}
use Rattle.asgi_conversation.specs.declared.input.InputEnd.{InputEnd}
use Rattle.asgi_conversation.specs.TaskEnds.{has_ended, is_faulty, after_task}
use Rattle.asgi_conversation.specs.ExchangeRecord.{ExchangeRecord, Hears}
use Rattle.asgi_request.specs.declared.next.Next.{Next}
use Rattle.asgi_request.specs.declared.next.Next.TheVariants.{Need, Head, Event, Whole, Bad}

-- ---- one exchange

-- Why disconnects are received after these events: the response is complete; or the input broke, and all events were received;
-- or the connection was cut short.
abbrev pub IsLeftOff : (cut : Bool) → ExchangeRecord → (events first : List Incoming) → Type 0
IsLeftOff cut x events first = IsClosed Http x.said ⊎ (((x.input_broke ≡ true) × (first ≡ events)) ⊎ (cut ≡ true))

-- The exchange is that of the request that the bytes begin with: its scope and facts are those of the head, the events heard
-- are of its body, as far as that has come, and the events sent are lawful.
pub record ServesFirst (limits : Limits) (end : InputEnd) (cut : Bool) (bytes : List ℕ) (x : ExchangeRecord) (state : BodyState) : Type 0 where
  pub arrived : List ℕ
  pub events : List Incoming
  pub head : BeginsWith limits bytes x.scope x.facts arrived
  pub body : ReadsBody limits x.facts.framing arrived events state
  pub hears : Hears events HttpDisconnect (IsLeftOff cut x events) x.heard
  pub lawful : IsLawful Http x.facts x.said
  pub breaks : x.input_broke ≡ true → (has_ended end ≡ true) ⊎ (is_faulty state ≡ true)

-- the task ended, and this comes next
abbrev pub IsFollowed : ExchangeRecord → BodyState → NextStep → Type 0
IsFollowed x state next = (kind : EndKind) × (x.ended ≡ Some kind) × (after_task kind (progress_of x.facts x.said) state x.input_broke ≡ next)

-- all that is to be written for it
abbrev pub out_text : ExchangeRecord → Input → List ℕ
out_text x input = text_of x.facts x.said x.ended input

-- ---- those before the next request

-- The bytes are whole requests, one after another, each answered by a complete response that keeps the connection, and then
-- these bytes (section 9.3.2).
abbrev pub AreAnswered : Limits → InputEnd → List ℕ → List ExchangeRecord → List ℕ → Type 0
AreAnswered limits end bytes [] after = bytes ≡ after
AreAnswered limits end bytes (x ∷ exchanges) after =
    (rest : List ℕ) × ServesFirst limits end false bytes x (complete rest) × IsFollowed x (complete rest) NextRequest
    × AreAnswered limits end rest exchanges after

-- their responses, in order
abbrev pub answer_texts : List ExchangeRecord → List ℕ
answer_texts exchanges = flat_map (λ x. out_text x input.Whole) exchanges

-- ---- the counts

abbrev pub fault_of : Option EndKind → ℕ
fault_of (Some kind.Faulted) = 1
fault_of _ = 0

-- those whose task faulted
abbrev pub fault_count : List ExchangeRecord → ℕ
fault_count [] = 0
fault_count (x ∷ exchanges) = fault_of x.ended + fault_count exchanges

-- the heads that were answered
abbrev pub requests_of : List ExchangeRecord → List (Scope × Facts)
requests_of exchanges = map (λ x. (x.scope, x.facts)) exchanges

-- the heads among results
abbrev pub heads_of : List Next → List (Scope × Facts)
heads_of [] = []
heads_of (Head scope facts ∷ results) = (scope, facts) ∷ heads_of results
heads_of (Need ∷ results) = heads_of results
heads_of (Event event ∷ results) = heads_of results
heads_of (Whole ∷ results) = heads_of results
heads_of (Bad status ∷ results) = heads_of results
