-- Endpoints one after another: which of them is asked.
use Rattle.std.specs.Prelude.{ℕ, Bool, true, false, List, [], ◌∷◌, Option, Some, None, ⊤, if◌then◌else◌, ◌==◌, ◌&&◌, bytes_eq}
use Rattle.asgi_handlers.specs.declared.reply.Reply.{Reply}
use Rattle.asgi_routes.specs.declared.method.Method.{Method}
use Rattle.asgi_routes.specs.Methods.{name_of}

-- an endpoint for this method at the pattern of this number is for the method of this name at the pattern of that number
abbrev pub is_for : (at : ℕ) → Method → (pattern : ℕ) → List ℕ → Bool
is_for at method pattern name = (at == pattern) && bytes_eq (name_of method) name

-- the methods at the pattern of that number, of this endpoint alone
abbrev pub own_methods : (at : ℕ) → Method → (pattern : ℕ) → List Method
own_methods at method pattern = if at == pattern then method ∷ [] else []

-- what holds of this endpoint, or of the rest
abbrev pub IfServes : Bool → Type 0 → Type 0 → Type 0
IfServes true own rest = own
IfServes false own rest = rest

-- A reply is given if there is an endpoint, and it is as the promise says.
abbrev pub Gives : Bool → (Reply → Type 0) → Option Reply → Type 0
Gives true allows (Some reply) = allows reply
Gives true allows None = ⊥
Gives false allows (Some reply) = ⊥
Gives false allows None = ⊤
