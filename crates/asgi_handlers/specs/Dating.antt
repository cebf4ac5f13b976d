-- The time at which a reply was made (RFC 9110, section 6.6.1), as an IMF-fixdate (section 5.6.7).
use Rattle.std.specs.Prelude.{◌≡◌, [], ◌∷◌, ◌++◌, Option, Some, None, is_some, if◌then◌else◌, codes}
use Rattle.httpdate.specs.Text.{imf_fixdate}
use Rattle.httpdate.specs.declared.date.HttpDate.{HttpDate}
use Rattle.asgi_types.specs.Fields.{field_of}
use Rattle.asgi_types.specs.Named.{value_in}
use Rattle.asgi_handlers.specs.declared.reply.Reply.{Reply}

-- with the field `date` after the others
abbrev pub with_date : Reply → HttpDate → Reply
with_date reply date = record reply { headers = reply.headers ++ field_of (codes "date") (imf_fixdate date.parts) ∷ [] }

-- A reply that has a date keeps it. Where the time is not known none is added.
abbrev pub dated_reply : Reply → Option HttpDate → Reply
dated_reply reply None = reply
dated_reply reply (Some date) = if is_some (value_in reply.headers (codes "date")) then reply else with_date reply date

-- the reply is one that the handler may give, dated
pub record IsDated (allows : Reply → Type 0) (reply : Reply) : Type 0 where
  pub given : Reply
  pub allowed : allows given
  pub date : Option HttpDate
  pub dated : reply ≡ dated_reply given date
