-- What a server tells a session by itself (RFC 6455, sections 5.5.2 and 7.4.1).
use Rattle.std.specs.Prelude.{⊤, ℕ}
use Rattle.asgi_leaving.specs.declared.notice.Farewell.{Farewell}
use Rattle.asgi_leaving.specs.declared.notice.Farewell.TheVariants as farewell
use Rattle.asgi_leaving.specs.declared.notice.Notice.{Notice}
use Rattle.asgi_leaving.specs.declared.notice.Notice.TheVariants as notice

-- 1001: "an endpoint is going away, such as a server going down"; 1011: "an unexpected condition that prevented it from fulfilling the request"
abbrev pub code_of : Farewell → ℕ
code_of farewell.GoingAway = 1001
code_of farewell.NoAnswer = 1011

-- what is told where something is due, by what was told since the client was heard
abbrev pub next_of : (told due : Notice) → Notice
next_of notice.Nothing notice.Nothing = notice.Nothing
next_of notice.Nothing notice.Ping = notice.Ping
next_of notice.Nothing (notice.Close farewell.GoingAway) = notice.Close farewell.GoingAway
-- nobody is said not to have answered who was not asked
next_of notice.Nothing (notice.Close farewell.NoAnswer) = notice.Nothing
-- who was asked is not asked again
next_of notice.Ping notice.Nothing = notice.Nothing
next_of notice.Ping notice.Ping = notice.Nothing
next_of notice.Ping (notice.Close why) = notice.Close why
-- a session is told to end once
next_of (notice.Close why) due = notice.Nothing

-- what stays of what was told once the client is heard: that a session was told to end
abbrev pub heard_of : (told : Notice) → Notice
heard_of notice.Nothing = notice.Nothing
heard_of notice.Ping = notice.Nothing
heard_of (notice.Close why) = notice.Close why

-- a session was told to end
abbrev pub IsClose : Notice → Type 0
IsClose notice.Nothing = ⊥
IsClose notice.Ping = ⊥
IsClose (notice.Close why) = ⊤
