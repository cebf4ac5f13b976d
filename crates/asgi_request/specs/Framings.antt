-- The framing of a head as `framing_of` returns it.
use Rattle.std.specs.Prelude.{Result, Ok, Err}
use Rattle.asgi_types.specs.declared.facts.Framing.{Framing}
use Rattle.asgi_types.specs.declared.facts.Framing.TheVariants as framing
use Rattle.asgi_types.specs.declared.limits.Limits.{Limits}
use Rattle.asgi_request.specs.declared.framing.HeadFraming.{HeadFraming}
use Rattle.asgi_request.specs.declared.framing.HeadFraming.TheVariants.{Length, Chunked, Bad}
use Rattle.asgi_request.specs.declared.head.HeadRecord.{HeadRecord}
use Rattle.asgi_request.specs.declared.refusal.Refusal.{Refusal}
use Rattle.asgi_request.specs.BodyLength.{framing_or_refusal}
use Rattle.asgi_request.specs.Refusals.{status_of}

-- the length, or the status of the refusal
abbrev pub framing_answer : Result Framing Refusal → HeadFraming
framing_answer (Ok (framing.Length n)) = Length n
framing_answer (Ok framing.Chunked) = Chunked
framing_answer (Ok framing.Upgrade) = Length 0
framing_answer (Err refusal) = Bad (status_of refusal)

-- how the body of the head is delimited, or the status of its refusal
abbrev pub framing_of : HeadRecord → Limits → HeadFraming
framing_of head limits = framing_answer (framing_or_refusal head limits)
