-- A handler with a limit of its own for bodies.
use Rattle.std.specs.Prelude.{◌≡◌, ℕ, ◌<◌, ◌≤◌, List, length}
use Rattle.asgi_handlers.specs.declared.reply.Reply.{Reply}
use Rattle.asgi_handlers.specs.Making.{status_reply}

-- what replies to a request, by its body: the handler, if the body has at most so many bytes; else 413 (RFC 9110, section 15.5.14)
pub record WithinLimit (allows : List ℕ → Reply → Type 0) (limit : ℕ) (body : List ℕ) (reply : Reply) : Type 0 where
  pub within : length body ≤ limit → allows body reply
  pub longer : limit < length body → reply ≡ status_reply 413
