-- One endpoint more: the methods that there are, and which endpoint replies.
use Rattle.std.proofs.Common.{◌≡◌, ℕ, Bool, true, false, cond, List, [], ◌∷◌, ◌++◌, Option, Some, refl, ap, sym, ◌∙◌, subst, append-nil, append_assoc}
use Rattle.std.specs.Prelude.{◌&&◌, ◌||◌, ◌==◌, bytes_eq, codes}
use Rattle.std.proofs.lemmas.List.Folds.{list_any-append}
use Rattle.asgi_handlers.specs.declared.reply.Reply.{Reply}
use Rattle.asgi_routes.specs.declared.method.Method.{Method}
use Rattle.asgi_routes.specs.Endpoints.{Gives, IfServes, is_for, own_methods}
use Rattle.asgi_routes.specs.Methods.{allowed_by, has_method, listed, name_of}

or_false : (b : Bool) → (b || false) ≡ b
or_false true = refl
or_false false = refl

or_true : (b : Bool) → (b || true) ≡ true
or_true true = refl
or_true false = refl

own_at : (here : Bool) (method : Method) (name : List ℕ) → has_method (cond here (method ∷ []) []) name ≡ (here && bytes_eq (name_of method) name)
own_at true method name = or_false (bytes_eq (name_of method) name)
own_at false method name = refl

module _ (before : List Method) (at : ℕ) (method : Method) (pattern : ℕ) where
  has_more : (name : List ℕ) → has_method (before ++ own_methods at method pattern) name ≡ (has_method before name || is_for at method pattern name)
  has_more name =
      list_any-append (λ (m : Method). bytes_eq (name_of m) name) before (own_methods at method pattern)
      ∙ ap (λ (b : Bool). has_method before name || b) (own_at (at == pattern) method name)

  -- the endpoint is for the method
  pub has_own : (name : List ℕ) → is_for at method pattern name ≡ true → has_method (before ++ own_methods at method pattern) name ≡ true
  has_own name is = has_more name ∙ ap (λ (b : Bool). has_method before name || b) is ∙ or_true (has_method before name)

  -- it is not
  pub has_before : (name : List ℕ) → is_for at method pattern name ≡ false → has_method (before ++ own_methods at method pattern) name ≡ has_method before name
  has_before name is = has_more name ∙ ap (λ (b : Bool). has_method before name || b) is ∙ or_false (has_method before name)

  pub gives_own : (name : List ℕ) (own rest : Reply → Type 0) (reply : Reply) → is_for at method pattern name ≡ true → own reply
      → Gives (has_method (before ++ own_methods at method pattern) name) (λ r. IfServes (is_for at method pattern name) (own r) (rest r)) (Some reply)
  gives_own name own rest reply is holds =
      subst (λ (b : Bool). Gives b (λ r. IfServes (is_for at method pattern name) (own r) (rest r)) (Some reply)) (sym (has_own name is))
      (subst (λ (b : Bool). IfServes b (own reply) (rest reply)) (sym is) holds)

  pub gives_before : (name : List ℕ) (own rest : Reply → Type 0) (found : Option Reply) → is_for at method pattern name ≡ false → Gives (has_method before name) rest found
      → Gives (has_method (before ++ own_methods at method pattern) name) (λ r. IfServes (is_for at method pattern name) (own r) (rest r)) found
  gives_before name own rest found is gives =
      subst (λ (b : Bool). Gives b (λ r. IfServes (is_for at method pattern name) (own r) (rest r)) found) (sym (has_before name is))
      (subst (λ (b : Bool). Gives (has_method before name) (λ r. IfServes b (own r) (rest r)) found) (sym is) gives)

-- ---- the list of what is allowed

listed-append : (one other : List Method) → listed (one ++ other) ≡ listed one ++ listed other
listed-append [] other = refl
listed-append (method ∷ one) other =
    ap (λ (l : List ℕ). (codes ", " ++ allowed_by method) ++ l) (listed-append one other) ∙ sym (append_assoc (codes ", " ++ allowed_by method) (listed one) (listed other))

-- a text to which one list was added, and then another
pub listed_after : (one other : List Method) (old mid new : List ℕ) → mid ≡ old ++ listed one → new ≡ mid ++ listed other → new ≡ old ++ listed (one ++ other)
listed_after one other old mid new first second =
    second ∙ ap (λ (l : List ℕ). l ++ listed other) first ∙ append_assoc old (listed one) (listed other)
    ∙ ap (λ (l : List ℕ). old ++ l) (sym (listed-append one other))

-- the endpoint's own method, which is at the pattern or not
pub listed_own : (at : ℕ) (method : Method) (pattern : ℕ) (old new comma name : List ℕ) → (at == pattern) ≡ true → comma ≡ codes ", " → name ≡ allowed_by method
    → new ≡ (old ++ comma) ++ name → new ≡ old ++ listed (own_methods at method pattern)
listed_own at method pattern old new comma name here c n is =
    is ∙ append_assoc old comma name ∙ ap (λ (l : List ℕ). old ++ (l ++ name)) c ∙ ap (λ (l : List ℕ). old ++ (codes ", " ++ l)) n
    ∙ ap (λ (l : List ℕ). old ++ l) (sym (append-nil (codes ", " ++ allowed_by method)))
    ∙ ap (λ (b : Bool). old ++ listed (cond b (method ∷ []) [])) (sym here)

pub listed_none : (at : ℕ) (method : Method) (pattern : ℕ) (old : List ℕ) → (at == pattern) ≡ false → old ≡ old ++ listed (own_methods at method pattern)
listed_none at method pattern old other = sym (append-nil old) ∙ ap (λ (b : Bool). old ++ listed (cond b (method ∷ []) [])) (sym other)
