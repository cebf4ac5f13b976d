-- How far a response is, by its events (ASGI, Response Body; RFC 9112, section 9.6).
use Rattle.std.specs.Prelude.{Bool, List, ◌∷◌, if◌then◌else◌}
use Rattle.asgi_types.specs.declared.facts.Facts.{Facts}
use Rattle.asgi_types.specs.declared.outgoing.Outgoing.{Outgoing}
use Rattle.asgi_types.specs.declared.outgoing.Outgoing.TheVariants.{ResponseStart}
use Rattle.asgi_types.specs.declared.scope.Kind.TheVariants.{Http}
use Rattle.asgi_protocol.specs.Shapes.{is_closed}
use Rattle.asgi_response.specs.declared.progress.Progress.{Progress}
use Rattle.asgi_response.specs.declared.progress.Progress.TheVariants.{Nothing, Begun, Complete}
use Rattle.asgi_response.specs.Accepted.{accepted}
use Rattle.asgi_response.specs.Exchange.{has_begun}
use Rattle.asgi_response.specs.Fields.{closes}

-- the connection closes after these events: because of the request, or because of the start's fields
abbrev pub closes_after : Facts → List Outgoing → Bool
closes_after facts (ResponseStart status headers announced ∷ events) = closes facts.close headers
closes_after facts _ = facts.close

-- all has been sent, up to the last body or the last trailers; or a start and a body; or less
abbrev pub progress_in : Facts → List Outgoing → Progress
progress_in facts said =
    if is_closed Http said then Complete (closes_after facts said) else (if has_begun said then Begun else Nothing)

-- how far the response is after these events were sent
abbrev pub progress_of : Facts → List Outgoing → Progress
progress_of facts events = progress_in facts (accepted facts events)
