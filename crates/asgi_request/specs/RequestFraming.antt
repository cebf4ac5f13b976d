-- What follows the head of a request, or why the head is refused: for its body first (RFC 9112, section 6.3), and then as an
-- opening handshake (RFC 6455, section 4.2.1).
use Rattle.std.specs.Prelude.{Bool, true, false, Result, Ok, Err}
use Rattle.asgi_types.specs.declared.facts.Framing.{Framing}
use Rattle.asgi_types.specs.declared.facts.Framing.TheVariants.{Upgrade}
use Rattle.asgi_types.specs.declared.limits.Limits.{Limits}
use Rattle.asgi_request.specs.declared.head.HeadRecord.{HeadRecord}
use Rattle.asgi_request.specs.declared.refusal.Refusal.{Refusal}
use Rattle.asgi_request.specs.BodyLength.{framing_or_refusal}
use Rattle.asgi_request.specs.Scopes.{has_body}
use Rattle.asgi_request.specs.Upgrade.{handshake_or_refusal}

-- after an opening handshake come frames in place of a body
abbrev pub frames_or : Framing → Result Bool Refusal → Result Framing Refusal
frames_or framing (Ok true) = Ok Upgrade
frames_or framing (Ok false) = Ok framing
frames_or framing (Err refusal) = Err refusal

-- a head that is refused for its body stays refused
abbrev pub upgraded : HeadRecord → Result Framing Refusal → Result Framing Refusal
upgraded head (Ok framing) = frames_or framing (handshake_or_refusal head (has_body framing))
upgraded head (Err refusal) = Err refusal

-- what follows the head, or why it is refused
abbrev pub request_framing : HeadRecord → Limits → Result Framing Refusal
request_framing head limits = upgraded head (framing_or_refusal head limits)
