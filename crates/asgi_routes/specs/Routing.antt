-- What a table of routes replies to a request (RFC 9110, sections 9.3.2, 9.3.7, 10.2.1, 15.5.5 and 15.5.6).
use Rattle.std.specs.Prelude.{◌≡◌, ℕ, Bool, true, false, List, [], ◌∷◌, ◌++◌, Option, Some, None, codes}
use Rattle.matchit.specs.Router.{RouteOf}
use Rattle.asgi_types.specs.Fields.{field_of}
use Rattle.asgi_types.specs.declared.scope.HttpScope.{HttpScope}
use Rattle.asgi_apps.specs.Mounts.{local_path}
use Rattle.asgi_handlers.specs.declared.reply.Reply.{Reply}
use Rattle.asgi_handlers.specs.Making.{bare_reply, status_reply}
use Rattle.asgi_handlers.specs.Params.{Param}
use Rattle.asgi_routes.specs.declared.method.Method.{Method}
use Rattle.asgi_routes.specs.Methods.{allow_text, asked_for, has_method, is_options}
use Rattle.asgi_routes.specs.Patterns.{AreShown, matched, parts_of}

-- the reply with the methods that are allowed (10.2.1)
abbrev pub with_allow : Reply → List Method → Reply
with_allow reply methods = record reply { headers = reply.headers ++ field_of (codes "allow") (allow_text methods) ∷ [] }

-- a pattern matches the path, and has no endpoint for the method
abbrev pub Without : (options : Bool) → List Method → Reply → Type 0
-- OPTIONS is answered by what is allowed (9.3.7)
Without true methods reply = reply ≡ with_allow (bare_reply 204) methods
-- 405 (15.5.6)
Without false methods reply = reply ≡ with_allow (status_reply 405) methods

-- An endpoint replied as it promises, with the parts of the path that the parameters of its pattern took.
pub record RepliesWith (allows : List Param → Reply → Type 0) (parts : List Param) (reply : Reply) : Type 0 where
  pub params : List Param
  pub taken : AreShown parts params
  pub allowed : allows params reply

-- by whether there is an endpoint for the method
abbrev pub ByMethod : Bool → (allows : List Param → Reply → Type 0) → List Param → (options : Bool) → List Method → Reply → Type 0
ByMethod true allows parts options methods reply = RepliesWith allows parts reply
ByMethod false allows parts options methods reply = Without options methods reply

-- What is replied, by the methods that there are endpoints for at the pattern of a number, and by the promises of these endpoints.
module _ {E : Type 0} (methods : E → ℕ → List Method) (allows : E → ℕ → List ℕ → HttpScope → List Param → List ℕ → Reply → Type 0) where
  -- the path matches the pattern of this number, whose parameters took these parts
  abbrev pub AtPattern : E → ℕ → List Param → HttpScope → List ℕ → Reply → Type 0
  AtPattern endpoints pattern parts scope body reply =
      ByMethod (has_method (methods endpoints pattern) (asked_for scope.method)) (λ params. allows endpoints pattern (asked_for scope.method) scope params body)
      parts (is_options scope.method) (methods endpoints pattern) reply

  -- by the pattern that the path matches
  abbrev pub ByMatch : E → List ℕ → Option (RouteOf ℕ) → HttpScope → List ℕ → Reply → Type 0
  -- 404 if it matches none (15.5.5)
  ByMatch endpoints path None scope body reply = reply ≡ status_reply 404
  ByMatch endpoints path (Some route) scope body reply = AtPattern endpoints route.value (parts_of route path) scope body reply

  -- the path is that of the scope, without the prefix under which the application is mounted
  abbrev pub RoutesReply : List (List ℕ) → E → HttpScope → List ℕ → Reply → Type 0
  RoutesReply patterns endpoints scope body reply =
      ByMatch endpoints (local_path scope.path scope.root_path) (matched patterns (local_path scope.path scope.root_path)) scope body reply
