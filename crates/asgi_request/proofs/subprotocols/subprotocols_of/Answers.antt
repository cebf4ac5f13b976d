use Rattle.std.proofs.Common.{◌++◌, ap, ◌∙◌, sym, List, ℕ}
use Rattle.asgi_types.specs.Fields.{shown}
use Rattle.asgi_request.specs.Upgrade as spec
use Rattle.asgi_request.proofs.SubprotocolLemmas.{named_field, on_err, some_are_offered}
use Rattle.asgi_request.proofs.subprotocols.subprotocols_of.Goals as goal

pub loop-name-preserved-in-Continue-1 : goal.loop-name-preserved-in-Continue-1
loop-name-preserved-in-Continue-1 c =
    let field = shown (c.in-Some.name, c.in-Some.value) in
    named_field field c.loop-name.name-iterator c.next.new.self c.loop-name.names _ c.in-Some.ensures.steps (sym c.eq.ensures ∙ c.if-eq.true) c.loop-name.invariant
    ∙ ap (λ (names : List (List ℕ)). names ++ spec.subprotocols_of c.next.new.self) (sym c.in_ok-push_tokens.ensures.ok)

pub returns-in_err-push_tokens-clause-needed : goal.returns-in_err-push_tokens-clause-needed
returns-in_err-push_tokens-clause-needed c =
    let field = shown (c.in-Some.name, c.in-Some.value) in
    let split = named_field field c.loop-name.name-iterator c.next.new.self c.loop-name.names _ c.in-Some.ensures.steps (sym c.eq.ensures ∙ c.if-eq.true) c.loop-name.invariant in
    on_err c.from_residual.result
    (some_are_offered c.loop-name.names (spec.tokens_of field.value) (spec.subprotocols_of c.next.new.self) _ split c.in_err-push_tokens.ensures.needed)
