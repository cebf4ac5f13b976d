use Rattle.std.proofs.Common.{◌∷◌, [], false}
use Rattle.asgi_types.specs.declared.scope.Kind.TheVariants as kind
use Rattle.asgi_parts_example.proofs.judge.may_follow.Goals as goal

-- Each event that passed is the next of a lawful list.
pub returns : goal.returns
returns c passed =
    let first = c.judge.ensures.passed c.in-Pass.is kind.Http [] false (c.new-judge.ensures c.args.facts.now) in
    (c.judge-2.ensures.passed c.in-Pass-judge.is kind.Http (c.args.one.now ∷ []) false first).lawful
