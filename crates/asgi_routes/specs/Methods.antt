-- The methods of routes and of requests (RFC 9110, section 9; RFC 5789).
use Rattle.std.specs.Prelude.{ℕ, Bool, List, [], ◌∷◌, ◌++◌, if◌then◌else◌, codes, bytes_eq}
use Rattle.std.specs.List.{list_any}
use Rattle.asgi_routes.specs.declared.method.Method.{Method}
use Rattle.asgi_routes.specs.declared.method.Method.TheVariants.{Get, Post, Put, Patch, Delete}

-- the name of a method, as a request has it
abbrev pub name_of : Method → List ℕ
name_of Get = codes "GET"
name_of Post = codes "POST"
name_of Put = codes "PUT"
name_of Patch = codes "PATCH"
name_of Delete = codes "DELETE"

-- what an endpoint for it allows: that for GET answers HEAD too (9.3.2)
abbrev pub allowed_by : Method → List ℕ
allowed_by Get = codes "GET, HEAD"
allowed_by Post = codes "POST"
allowed_by Put = codes "PUT"
allowed_by Patch = codes "PATCH"
allowed_by Delete = codes "DELETE"

-- the name of the method whose endpoint replies to a request with this one
abbrev pub asked_for : List ℕ → List ℕ
asked_for name = if bytes_eq name (codes "HEAD") then codes "GET" else name

-- it asks which methods there are (9.3.7)
abbrev pub is_options : List ℕ → Bool
is_options name = bytes_eq name (codes "OPTIONS")

-- one of the methods has this name
abbrev pub has_method : List Method → List ℕ → Bool
has_method methods name = list_any (λ (method : Method). bytes_eq (name_of method) name) methods

-- what they allow, each after a comma
abbrev pub listed : List Method → List ℕ
listed [] = []
listed (method ∷ methods) = (codes ", " ++ allowed_by method) ++ listed methods

-- the value of `allow` where there are endpoints for these methods (10.2.1): OPTIONS is answered wherever there is a pattern
abbrev pub allow_text : List Method → List ℕ
allow_text methods = codes "OPTIONS" ++ listed methods
