-- What a judge keeps gives the verdict on the whole list.
use Rattle.std.proofs.Common.{◌≡◌, ℕ, Option, Bool, true, false, ◌⊎◌, inl, inr, List, [], ◌∷◌, ◌++◌, length, refl, ap, sym, ◌∙◌}
use Rattle.std.specs.Prelude.{not, ◌&&◌}
use Rattle.std.proofs.lemmas.List.{append-nil}
use Rattle.asgi_types.specs.declared.scope.Kind.{Kind}
use Rattle.asgi_types.specs.declared.scope.Kind.TheVariants.{Http, WebSocket, Lifespan}
use Rattle.asgi_types.specs.declared.facts.Facts.{Facts}
use Rattle.asgi_types.specs.declared.outgoing.Outgoing.{Outgoing}
use Rattle.asgi_types.specs.declared.outgoing.Outgoing.TheVariants.{ResponseStart, ResponseBody, ResponseTrailers, WsAccept, WsSend, WsClose, DenialStart, DenialBody, StartupComplete, StartupFailed, ShutdownComplete, ShutdownFailed}
use Rattle.asgi_protocol.specs.declared.judge.Due.{Due}
use Rattle.asgi_protocol.specs.declared.judge.Due.TheVariants.{Content, ContentAndTrailers, TrailersAlone}
use Rattle.asgi_protocol.specs.declared.judge.Stage.{Stage}
use Rattle.asgi_protocol.specs.declared.judge.Stage.TheVariants.{Fresh, ResponseStarted, Accepted, LifespanStarted, Ended}
use Rattle.asgi_protocol.specs.declared.judge.Judge.{Judge}
use Rattle.asgi_protocol.specs.BytesLeft.{with_sent}
use Rattle.asgi_protocol.specs.Rules.{promised_length, body_bytes, has_too_much_body, has_too_little_body}
use Rattle.asgi_protocol.specs.Shapes.{is_of, is_word, is_closed}
use Rattle.asgi_protocol.specs.Stages.{StandsFor, CountsBytes, is_rest, begins_rest, begins_rest_due}
use Rattle.asgi_protocol.specs.private.Steps.{lines_at, bytes_left, has_place, is_ended, takes_too_much, leaves_too_much}
use Rattle.asgi_protocol.specs.Verdicts.{Lines, lines_on, first_line, verdict_on}
use Rattle.asgi_protocol.proofs.CountLemmas.{above_agrees, below_agrees}
use Rattle.asgi_protocol.proofs.WordLemmas.{word_from_beginning}

pub two : (b : Bool) → (b ≡ true) ⊎ (b ≡ false)
two true = inl refl
two false = inr refl

-- the beginning
no_split : (before after : List Outgoing) (e : Outgoing) → [] ≡ before ++ e ∷ after → ⊥
no_split [] after e h = cc
no_split (b ∷ before) after e h = cc

pub fresh : (kind : Kind) (facts : Facts) → StandsFor (let judge : Judge = record { kind = kind; stage = Fresh; disconnected = false } in judge) kind facts [] false
fresh kind facts = record {
  kind_is = refl;
  heard_is = refl;
  lawful = record { begins = word_from_beginning kind [] refl; each = λ before after e h. absurd (no_split before after e h) };
  rest = λ more. refl;
  begins = λ more. refl;
  counts = refl;
}

-- the first lines decide
closed_alike : (kind : Kind) (l m : Lines) → l.closed ≡ true → m.closed ≡ true → first_line kind l ≡ first_line kind m
closed_alike kind l m p q = rw p (rw q refl)

scope_alike : (kind : Kind) (l m : Lines) → l.closed ≡ m.closed → l.disconnected ≡ m.disconnected → l.wrong_scope ≡ true → m.wrong_scope ≡ true
    → first_line kind l ≡ first_line kind m
scope_alike kind l m p q s t = rw (p, q, s, t) refl

-- if something is due after a start, a word goes on with it
due_agrees : (kind : Kind) (left : Option ℕ) (due : Due) (e : Outgoing) → is_of kind e ≡ true → has_place (ResponseStarted left due) e ≡ begins_rest_due kind due (e ∷ [])
due_agrees Http left TrailersAlone (ResponseTrailers headers true) of = refl
due_agrees Http left TrailersAlone (ResponseTrailers headers false) of = refl
due_agrees kind left TrailersAlone (ResponseTrailers headers more) of = absurd (cc)
due_agrees kind left TrailersAlone _ of = refl
due_agrees Http left Content (ResponseBody body true) of = refl
due_agrees Http left Content (ResponseBody body false) of = refl
due_agrees Http left ContentAndTrailers (ResponseBody body true) of = refl
due_agrees Http left ContentAndTrailers (ResponseBody body false) of = refl
due_agrees kind left _ (ResponseBody body more) of = absurd (cc)
due_agrees WebSocket left Content (DenialBody body true) of = refl
due_agrees WebSocket left Content (DenialBody body false) of = refl
due_agrees WebSocket left ContentAndTrailers (DenialBody body true) of = refl
due_agrees WebSocket left ContentAndTrailers (DenialBody body false) of = refl
due_agrees kind left _ (DenialBody body more) of = absurd (cc)
due_agrees Http left Content _ of = refl
due_agrees WebSocket left Content _ of = refl
due_agrees Lifespan left Content _ of = refl
due_agrees Http left ContentAndTrailers _ of = refl
due_agrees WebSocket left ContentAndTrailers _ of = refl
due_agrees Lifespan left ContentAndTrailers _ of = refl

-- if the stage has a place for an event, a word goes on with it
place_agrees : (kind : Kind) (stage : Stage) (e : Outgoing) → is_of kind e ≡ true → has_place stage e ≡ begins_rest kind stage (e ∷ [])
place_agrees kind (ResponseStarted left due) e of = due_agrees kind left due e of
place_agrees Http Fresh (ResponseStart status headers trailers) of = refl
place_agrees Http _ (ResponseStart status headers trailers) of = refl
place_agrees Http _ (ResponseBody body more) of = refl
place_agrees Http _ (ResponseTrailers headers more) of = refl
place_agrees Http _ _ of = absurd (cc)
place_agrees WebSocket Fresh (WsAccept subprotocol headers) of = refl
place_agrees WebSocket _ (WsAccept subprotocol headers) of = refl
place_agrees WebSocket Fresh (WsSend payload) of = refl
place_agrees WebSocket _ (WsSend payload) of = refl
place_agrees WebSocket Fresh (WsClose code reason) of = refl
place_agrees WebSocket _ (WsClose code reason) of = refl
place_agrees WebSocket Fresh (DenialStart status headers) of = refl
place_agrees WebSocket _ (DenialStart status headers) of = refl
place_agrees WebSocket _ (DenialBody body more) of = refl
place_agrees WebSocket _ _ of = absurd (cc)
place_agrees Lifespan Fresh (StartupComplete state) of = refl
place_agrees Lifespan _ (StartupComplete state) of = refl
place_agrees Lifespan Fresh (StartupFailed message) of = refl
place_agrees Lifespan _ (StartupFailed message) of = refl
place_agrees Lifespan Fresh ShutdownComplete of = refl
place_agrees Lifespan _ ShutdownComplete of = refl
place_agrees Lifespan Fresh (ShutdownFailed message) of = refl
place_agrees Lifespan _ (ShutdownFailed message) of = refl
place_agrees Lifespan _ _ of = absurd (cc)

-- the bytes that are left are those that were promised and are still to come
left_agrees : (facts : Facts) (stage : Stage) (said : List Outgoing) → is_ended stage ≡ false → CountsBytes facts stage said
    → promised_length facts said ≡ with_sent (body_bytes said) (bytes_left stage)
left_agrees facts Fresh said h none = ap (promised_length facts) none
left_agrees facts (ResponseStarted left due) said h counts = counts.3
left_agrees facts Accepted said h counts = counts.3
left_agrees facts LifespanStarted said h counts = counts.3
left_agrees facts Ended said h counts = absurd (cc)

too_much_agrees : (facts : Facts) (stage : Stage) (said : List Outgoing) (e : Outgoing) → promised_length facts said ≡ with_sent (body_bytes said) (bytes_left stage)
    → takes_too_much stage e ≡ has_too_much_body facts said e
too_much_agrees facts stage said (ResponseBody body more) h = above_agrees (body_bytes said) (length body) (bytes_left stage) (promised_length facts said) h
too_much_agrees facts stage said (DenialBody body more) h = above_agrees (body_bytes said) (length body) (bytes_left stage) (promised_length facts said) h
too_much_agrees facts stage said _ h = refl

too_little_agrees : (facts : Facts) (stage : Stage) (said : List Outgoing) (e : Outgoing) → promised_length facts said ≡ with_sent (body_bytes said) (bytes_left stage)
    → leaves_too_much stage e ≡ has_too_little_body facts said e
too_little_agrees facts stage said (ResponseBody body more) h = ap (λ b. not more && b) (below_agrees (body_bytes said) (length body) (bytes_left stage) (promised_length facts said) h)
too_little_agrees facts stage said (DenialBody body more) h = ap (λ b. not more && b) (below_agrees (body_bytes said) (length body) (bytes_left stage) (promised_length facts said) h)
too_little_agrees facts stage said _ h = refl

-- whether the list is closed
pub closed_agrees : (kind : Kind) (stage : Stage) (said : List Outgoing) → ((more : List Outgoing) → is_word kind (said ++ more) ≡ is_rest kind stage more) → is_ended stage ≡ is_closed kind said
closed_agrees kind stage said rest = at_end stage ∙ sym (rest []) ∙ ap (is_word kind) (append-nil said)
  where
    at_end : (s : Stage) → is_ended s ≡ is_rest kind s []
    at_end Fresh = refl
    at_end (ResponseStarted left Content) = refl
    at_end (ResponseStarted left ContentAndTrailers) = refl
    at_end (ResponseStarted left TrailersAlone) = refl
    at_end Accepted = refl
    at_end LifespanStarted = refl
    at_end Ended = refl

-- the lines that the judge reads
same_lines : (judge : Judge) (kind : Kind) (facts : Facts) (said : List Outgoing) (heard : Bool) (e : Outgoing) → StandsFor judge kind facts said heard
    → is_ended judge.stage ≡ false → is_of kind e ≡ true → lines_at judge facts e ≡ lines_on kind facts said heard e
same_lines judge kind facts said heard e s open_now of =
    let closed = closed_agrees kind judge.stage said s.rest in
    let place = place_agrees kind judge.stage e of ∙ sym (s.begins (e ∷ [])) in
    let scope : is_of judge.kind e ≡ is_of kind e = ap (λ (k : Kind). is_of k e) s.kind_is in
    let left = left_agrees facts judge.stage said open_now s.counts in
    let much = too_much_agrees facts judge.stage said e left in
    let little = too_little_agrees facts judge.stage said e left in
    let heard_is = s.heard_is in
    cc

-- the judge's verdict is that on the list
pub verdict_agrees : (judge : Judge) (kind : Kind) (facts : Facts) (said : List Outgoing) (heard : Bool) (e : Outgoing) → StandsFor judge kind facts said heard
    → first_line judge.kind (lines_at judge facts e) ≡ verdict_on kind facts said heard e
verdict_agrees judge kind facts said heard e s =
    ap (λ (k : Kind). first_line k (lines_at judge facts e)) s.kind_is ∙ elim (two (is_ended judge.stage)) [
      | inl over ↦ closed_alike kind (lines_at judge facts e) (lines_on kind facts said heard e) over (sym closed ∙ over)
      | inr open_now ↦ elim (two (is_of kind e)) [
        | inl of ↦ ap (first_line kind) (same_lines judge kind facts said heard e s open_now of)
        | inr other ↦ scope_alike kind (lines_at judge facts e) (lines_on kind facts said heard e) closed s.heard_is
            (ap not (ap (λ (k : Kind). is_of k e) s.kind_is ∙ other)) (ap not other)
      ]
    ]
  where
    closed : is_ended judge.stage ≡ is_closed kind said
    closed = closed_agrees kind judge.stage said s.rest
