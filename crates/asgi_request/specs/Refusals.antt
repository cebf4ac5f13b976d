-- The status of a refusal (RFC 9110, sections 15.5.1, 15.5.14, 15.5.22 and 15.6.2; RFC 6585, section 5).
use Rattle.std.specs.Prelude.{ℕ}
use Rattle.asgi_request.specs.declared.refusal.Refusal.{Refusal}
use Rattle.asgi_request.specs.declared.refusal.Refusal.TheVariants.{BadRequest, ContentTooLarge, HeaderFieldsTooLarge, NotImplemented, UpgradeRequired}

-- the status
abbrev pub status_of : Refusal → ℕ
status_of BadRequest = 400
status_of ContentTooLarge = 413
status_of HeaderFieldsTooLarge = 431
status_of UpgradeRequired = 426
status_of NotImplemented = 501
