-- The lists of a session grow by what the last call returns.
use Rattle.std.proofs.Common.{◌≡◌, List, [], ◌∷◌, ◌++◌, ap, ◌∙◌, sym, append-nil, Bool, Result}
use Rattle.std.specs.Prelude.{IsOk, is_ok, if◌then◌else◌}
use Rattle.std.specs.List.{flat_map}
use Rattle.std.proofs.lemmas.List.Concat.{flat_map-append}
use Rattle.asgi_ws.specs.declared.messages.Call.{Call}

pub given_after : {A : Type 0} (given : Call → List A) (calls : List Call) (call : Call) → flat_map given (calls ++ call ∷ []) ≡ flat_map given calls ++ given call
given_after given calls call = flat_map-append given calls (call ∷ []) ∙ ap (λ l. flat_map given calls ++ l) (append-nil (given call))

-- what was kept after one more call
pub kept_after : {A : Type 0} (given : Call → List A) (calls new : List Call) (call : Call) (before after : List A)
    → before ≡ flat_map given calls → new ≡ calls ++ call ∷ [] → after ≡ before ++ given call → after ≡ flat_map given new
kept_after given calls new call before after held told grown =
    grown ∙ ap (λ l. l ++ given call) held ∙ sym (given_after given calls call) ∙ sym (ap (flat_map given) told)

-- a push that succeeded
pub pushed : {A E : Type 0} {B : Type 0} (r : Result A E) (longer same : B) → IsOk r → (if is_ok r then longer else same) ≡ longer
pushed r longer same ok = ap (λ (b : Bool). if b then longer else same) ok
