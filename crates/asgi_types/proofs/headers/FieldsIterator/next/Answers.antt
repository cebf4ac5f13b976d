use Rattle.std.proofs.Common.{All, List, subst, length}
use Rattle.std.proofs.lemmas.List.Elements.{All-tail}
use Rattle.asgi_types.specs.declared.headers.Span.{Span}
use Rattle.asgi_types.specs.Spans.{IsSpanIn}
use Rattle.asgi_types.proofs.headers.FieldsIterator.next.Goals as goal

pub invariant_of-self : goal.invariant_of-self
invariant_of-self c =
    let inside = IsSpanIn (length c.self.inside.text.now) in
    let all = subst (λ (ps : List Span). All inside ps) c.in_ok-first.ensures.cases.0 c.self.invariant in
    All-tail inside c.in_ok-first.first.now c.in_ok-first.rest.now all
