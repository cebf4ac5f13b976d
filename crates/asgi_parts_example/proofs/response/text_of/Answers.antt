use Rattle.std.proofs.Common.{◌++◌, ◌∷◌, [], ◌∙◌, ap, sym}
use Rattle.asgi_response.specs.Response.{response_text}
use Rattle.asgi_parts_example.proofs.response.text_of.Goals as goal

-- The output grows by exactly what makes one text the next.
pub returns : goal.returns
returns c plain =
    let facts = c.args.facts.now in
    let none = c.new-text.ensures.response plain in
    let first = c.in_ok-take.ensures.text facts [] none in
    let second = c.in_ok-take-2.ensures.text facts (c.args.one.now ∷ []) (c.in_ok-take.ensures.ok facts [] none) in
    let begun = c.in_ok-begin.ensures.ok facts [] none ∙ ap (λ out. out ++ response_text facts []) c.new-out.ensures.items in
    second.output ∙ ap (λ out. out ++ second.added) (first.output ∙ ap (λ out. out ++ first.added) begun ∙ sym first.text) ∙ sym second.text
