-- What a reader gives inside a request (ASGI, Request), among all of its results.
use Rattle.asgi_request.specs.declared.next.Next.{Next}
use Rattle.asgi_request.specs.declared.next.Next.TheVariants as next
use Rattle.asgi_request.specs.declared.next.NextOfBody.{NextOfBody}
use Rattle.asgi_request.specs.declared.next.NextOfBody.TheVariants as body

-- the same result
abbrev pub next_of : NextOfBody → Next
next_of body.Need = next.Need
next_of (body.Event event) = next.Event event
next_of body.Whole = next.Whole
next_of (body.Bad status) = next.Bad status
