-- The replies that are ready: a content with its type and its length (RFC 9110, sections 8.3 and 8.6), a status alone, and a
-- redirect (sections 10.2.2 and 15.4.4).
use Rattle.std.specs.Prelude.{ℕ, List, [], ◌∷◌, length, if◌then◌else◌, codes, decimal}
use Rattle.asgi_types.specs.Fields.{HeaderField, field_of}
use Rattle.asgi_protocol.specs.Rules.{has_no_content}
use Rattle.asgi_handlers.specs.declared.reply.Reply.{Reply}

-- a status with neither fields nor content
abbrev pub bare_reply : ℕ → Reply
bare_reply status = record { status = status; headers = []; body = [] }

-- the length of a content
abbrev pub length_field : ℕ → HeaderField
length_field n = field_of (codes "content-length") (decimal n)

-- a content of this type, with its length
abbrev pub content_reply : ℕ → List ℕ → List ℕ → Reply
content_reply status kind content =
    record { status = status; headers = field_of (codes "content-type") kind ∷ length_field (length content) ∷ []; body = content }

-- the same; a response with the status 204 or 304 has no content (RFC 9110, sections 15.3.5 and 15.4.5)
abbrev pub reply_of : ℕ → List ℕ → List ℕ → Reply
reply_of status kind content = if has_no_content status then bare_reply status else content_reply status kind content

-- a status, with no content
abbrev pub no_content_reply : ℕ → Reply
no_content_reply status = record { status = status; headers = length_field 0 ∷ []; body = [] }

abbrev pub status_reply : ℕ → Reply
status_reply status = if has_no_content status then bare_reply status else no_content_reply status

-- a redirect to what is then got
abbrev pub redirect_reply : List ℕ → Reply
redirect_reply location = record { status = 303; headers = field_of (codes "location") location ∷ length_field 0 ∷ []; body = [] }
