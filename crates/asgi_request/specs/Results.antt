-- All the results that a byte list has, in order (RFC 9112, sections 2.2, 6 and 9.3.2; RFC 6455, section 4.2). Nothing here
-- names a read or a buffer.
use Rattle.std.specs.Prelude.{◌≡◌, ◌≢◌, ℕ, ◌⊎◌, List, [], ◌∷◌, ◌++◌, map, Ok, Err}
use Rattle.std.specs.List.{flat_map}
use Rattle.httparse.specs.Grammar.{RequestHead}
use Rattle.asgi_types.specs.declared.facts.Framing.{Framing}
use Rattle.asgi_types.specs.declared.facts.Framing.TheVariants.{Upgrade}
use Rattle.asgi_types.specs.declared.incoming.Incoming.{Incoming}
use Rattle.asgi_types.specs.declared.limits.Limits.{Limits}
use Rattle.asgi_request.specs.declared.next.Next.{Next}
use Rattle.asgi_request.specs.declared.next.Next.TheVariants.{Need, Head, Event, Whole, Bad}
use Rattle.asgi_request.specs.declared.refusal.Refusal.{Refusal}
use Rattle.asgi_request.specs.declared.refusal.Refusal.TheVariants.{BadRequest, HeaderFieldsTooLarge}
use Rattle.asgi_request.specs.Texts.{IsFirstWithin, IsTooLong, IsUnfinished}
use Rattle.asgi_request.specs.HeadText.{EndsAsHead}
use Rattle.asgi_request.specs.Head.{IsHeadOf, record_of}
use Rattle.asgi_request.specs.RequestFraming.{request_framing}
use Rattle.asgi_request.specs.Scopes.{scope_of, facts_of}
use Rattle.asgi_request.specs.Refusals.{status_of}
use Rattle.asgi_request.specs.ChunkedBody.{BodyState, partial, complete, faulty}
use Rattle.asgi_request.specs.RequestEvents.{ReadsBody}

-- ---- one head

-- The bytes begin with this head, whose request is framed that way, and `after` stands after it.
pub record ReadsHead (limits : Limits) (bytes : List ℕ) (head : RequestHead) (framing : Framing) (after : List ℕ) : Type 0 where
  pub text : List ℕ
  pub text_is : IsFirstWithin EndsAsHead limits.max_head bytes text after
  pub head_is : IsHeadOf limits.max_headers text head
  pub framing_is : request_framing (record_of head) limits ≡ Ok framing

-- The head text is no head.
pub record HoldsNoHead (limits : Limits) (bytes : List ℕ) : Type 0 where
  pub text : List ℕ
  pub after : List ℕ
  pub text_is : IsFirstWithin EndsAsHead limits.max_head bytes text after
  pub no_head : (head : RequestHead) → ¬ (IsHeadOf limits.max_headers text head)

-- The bytes begin with a head that is refused.
pub record HoldsRefusedHead (limits : Limits) (bytes : List ℕ) (why : Refusal) : Type 0 where
  pub text : List ℕ
  pub after : List ℕ
  pub head : RequestHead
  pub text_is : IsFirstWithin EndsAsHead limits.max_head bytes text after
  pub head_is : IsHeadOf limits.max_headers text head
  pub refused : request_framing (record_of head) limits ≡ Err why

-- What the bytes begin with is refused: too long a head, no head, or one that is not served.
abbrev pub RefusesHead : Limits → List ℕ → Refusal → Type 0
RefusesHead limits bytes why =
    (IsTooLong EndsAsHead limits.max_head bytes × (why ≡ HeaderFieldsTooLarge))
    ⊎ ((HoldsNoHead limits bytes × (why ≡ BadRequest)) ⊎ HoldsRefusedHead limits bytes why)

-- ---- one request

-- what follows the events of a body
abbrev pub closing : BodyState → List Next
closing partial = []
closing (complete after) = Whole ∷ []
closing (faulty why) = Bad (status_of why) ∷ []

-- The bytes begin with a request that is no opening handshake, as far as they go: its head, the events of its body, and how
-- that ends.
pub record ReadsRequest (limits : Limits) (bytes : List ℕ) (results : List Next) (state : BodyState) : Type 0 where
  pub head : RequestHead
  pub framing : Framing
  pub after : List ℕ
  pub events : List Incoming
  pub head_is : ReadsHead limits bytes head framing after
  pub plain : framing ≢ Upgrade
  pub body_is : ReadsBody limits framing after events state
  pub results_are : results ≡ Head (scope_of (record_of head) framing) (facts_of (record_of head) framing) ∷ (map Event events ++ closing state)

-- The bytes begin with an opening handshake, which is whole with its head; frames come after it (RFC 6455, section 5.1).
pub record ReadsHandshake (limits : Limits) (bytes : List ℕ) (results : List Next) (after : List ℕ) : Type 0 where
  pub head : RequestHead
  pub head_is : ReadsHead limits bytes head Upgrade after
  pub results_are : results ≡ Head (scope_of (record_of head) Upgrade) (facts_of (record_of head) Upgrade) ∷ Whole ∷ []

-- What bytes give that begin with no whole request.
abbrev pub BeginsRequest : Limits → List ℕ → List Next → Type 0
BeginsRequest limits bytes results =
    (IsUnfinished EndsAsHead limits.max_head bytes × (results ≡ []))
    ⊎ (((why : Refusal) × RefusesHead limits bytes why × (results ≡ Bad (status_of why) ∷ []))
    ⊎ (ReadsRequest limits bytes results partial
    ⊎ ((why : Refusal) × ReadsRequest limits bytes results (faulty why))))

-- ---- all of them

-- The bytes are whole requests, one after another and none an opening handshake, which give these results, and rest stands
-- after them (section 9.3.2).
abbrev pub AreRequests : Limits → List ℕ → List (List Next) → List ℕ → Type 0
AreRequests limits bytes [] rest = bytes ≡ rest
AreRequests limits bytes (results ∷ requests) rest =
    (after : List ℕ) × ReadsRequest limits bytes results (complete after) × AreRequests limits after requests rest

-- What the last results are, and which bytes stand after the last `Whole`: no request is whole, or the bytes begin with an
-- opening handshake, after which there are no requests.
abbrev pub GivesLast : Limits → List ℕ → List Next → List ℕ → Type 0
GivesLast limits bytes results rest = (BeginsRequest limits bytes results × (bytes ≡ rest)) ⊎ ReadsHandshake limits bytes results rest

-- These are all the results of the bytes, and rest stands after the last whole request.
pub record GivesResults (limits : Limits) (bytes : List ℕ) (results : List Next) (rest : List ℕ) : Type 0 where
  pub requests : List (List Next)
  pub after : List ℕ
  pub last : List Next
  pub whole : AreRequests limits bytes requests after
  pub goes_on : GivesLast limits after last rest
  pub results_are : results ≡ flat_map (λ request. request) requests ++ last

-- These are the first results of the bytes: a prefix of them has these, and more perhaps. No byte after the prefix changes them.
pub record HasFirst (limits : Limits) (bytes : List ℕ) (results : List Next) : Type 0 where
  pub front : List ℕ
  pub after : List ℕ
  pub further : List Next
  pub rest : List ℕ
  pub splits : bytes ≡ front ++ after
  pub gives : GivesResults limits front (results ++ further) rest

-- what the results of bytes begin with: a head, or a refusal
abbrev pub Opens : Next → Type 0
Opens (Head scope facts) = Unit {0}
Opens (Bad status) = Unit {0}
Opens (Event event) = ⊥
Opens Whole = ⊥
Opens Need = ⊥
