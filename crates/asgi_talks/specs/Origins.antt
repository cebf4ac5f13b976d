-- Which site has begun a session (RFC 6455, section 10.2).
use Rattle.std.specs.Prelude.{◌≡◌, ◌⊎◌, ℕ, List, ◌++◌, Option, Some, None, ⊤, codes}
use Rattle.asgi_types.specs.Fields.{HeaderField}
use Rattle.asgi_types.specs.Named.{value_in}

-- the origin of a page of this host: a scheme, and the host with its port (RFC 6454, section 6.2)
abbrev pub IsPageOf : List ℕ → List ℕ → Type 0
IsPageOf host origin = (origin ≡ codes "http://" ++ host) ⊎ (origin ≡ codes "https://" ++ host)

-- No origin is that of a program, which could send any. A page's is to be of the host that the handshake is for.
abbrev pub IsOwnOrigin : (origin host : Option (List ℕ)) → Type 0
IsOwnOrigin None host = ⊤
IsOwnOrigin (Some origin) None = ⊥
IsOwnOrigin (Some origin) (Some host) = IsPageOf host origin

-- by the fields of the handshake
abbrev pub HasOwnOrigin : List HeaderField → Type 0
HasOwnOrigin fields = IsOwnOrigin (value_in fields (codes "origin")) (value_in fields (codes "host"))
