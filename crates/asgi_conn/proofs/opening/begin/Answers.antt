use Rattle.std.proofs.Common.{◌≡◌, refl, sym, ◌∙◌}
use Rattle.asgi_conn.proofs.AnswerLemmas.{of_opened}
use Rattle.asgi_conn.proofs.opening.begin.Goals as goal

pub begin-requires-clause-pair : goal.begin-requires-clause-pair
begin-requires-clause-pair g c =
    let was = c.in-Ok.ends.1 in
    let end = c.in-Ok.ends.0 in
    of_opened (g.A.Application.answers c.args.calls.now.app.now c.args.scope) g.A.Task.AppTask.answers g.U.Pipes.App.AppEnd was (λ app. g.U.Pipes.Pipes.is_pair end app)
    c.call-side.result c.call-side.ensures.opens (λ app tag same. g.met.U.Pipes.Pipes.stays_pair end end was app refl tag c.in-Ok.ensures.pair)

pub returns-clause-begun : goal.returns-clause-begun
returns-clause-begun g c =
    let E = g.U.Pipes.App.AppEnd in
    let made = c.in-Ok.ensures in (
      c.begin.result,
      c.put.ensures,
      record {
        side = c.call-side.result;
        begun = c.begin.ensures.began;
        fresh = c.in-Ok.ends.1;
        opened = c.call-side.ensures.opens;
        unheard = (made.inward.2, made.outward.0);
        request = of_opened (g.A.Application.answers c.args.calls.now.app.now c.args.scope) g.A.Task.AppTask.answers E c.in-Ok.ends.1
            (λ app. (c.args.kind ≡ E.kind app) × (c.args.facts ≡ E.facts app)) c.call-side.result c.call-side.ensures.opens
            (λ app tag same. (sym (same.0 ∙ made.scope.0), sym (same.1 ∙ made.scope.1)));
        empty = rw c.begin.ensures.conn (made.inward.0, made.inward.1, made.outward.2);
      },
    )
