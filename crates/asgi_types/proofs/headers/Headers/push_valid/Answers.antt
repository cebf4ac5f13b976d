use Rattle.std.proofs.Common.{◌++◌, ◌∷◌, [], ◌∙◌, ℕ, List, length, ap}
use Rattle.http_header.specs.Token.{lowercase}
use Rattle.asgi_types.specs.Spans.{span_after}
use Rattle.asgi_types.proofs.SpanLemmas.{fields-push, holds-push}
use Rattle.asgi_types.proofs.headers.Headers.push_valid.Goals as goal

pub invariant_of-self-2 : goal.invariant_of-self-2
invariant_of-self-2 c =
    let name = c.args.name.now in
    let value = c.args.value.now in
    let spans = c.self.inside.spans.items in
    holds-push c.self.inside.text.items c.append.new.text.items name value
    spans c.append.new.spans.items c.requires.name c.requires.value c.self.invariant
    (c.in_ok-append.ensures.text ∙ ap (λ (t : List ℕ). t ++ (lowercase name ++ value)) c.reserve.ensures.items)
    (c.in_ok-append.ensures.spans ∙ ap (λ (t : List ℕ). spans ++ span_after (length t) name value ∷ []) c.reserve.ensures.items)

pub returns-clause-ok : goal.returns-clause-ok
returns-clause-ok c =
    let name = c.args.name.now in
    let value = c.args.value.now in
    let spans = c.self.inside.spans.items in
    fields-push c.args.self.now c.self.inside.text.items c.append.new.text.items name value
    spans c.append.new.spans.items c.self.invariant.inside c.self.view_is
    (c.in_ok-append.ensures.text ∙ ap (λ (t : List ℕ). t ++ (lowercase name ++ value)) c.reserve.ensures.items)
    (c.in_ok-append.ensures.spans ∙ ap (λ (t : List ℕ). spans ++ span_after (length t) name value ∷ []) c.reserve.ensures.items)
