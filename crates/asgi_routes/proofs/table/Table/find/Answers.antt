use Rattle.std.proofs.Common.{ℕ, Some, None, IfOk, subst}
use Rattle.std.specs.Prelude.{◌≡◌, OnErr}
use Rattle.matchit.specs.Rows.{RowsOf}
use Rattle.matchit.specs.Router.{RouteOf}
use Rattle.matchit.specs.Seek.{first}
use Rattle.asgi_routes.proofs.table.Table.find.Goals as goal

pub returns-clause-found : goal.returns-clause-found
returns-clause-found c =
    subst (λ (rows : RowsOf (RouteOf ℕ)). IfOk c.at.result (λ m. first rows c.args.path.now ≡ Some (record {
      pattern = m.params.pattern.now;
      text = m.params.text.now;
      names = m.params.names.now;
      value = m.value.now;
    }))) c.args.self.now.routed c.at.ensures.found

pub returns-clause-missing : goal.returns-clause-missing
returns-clause-missing c = subst (λ (rows : RowsOf (RouteOf ℕ)). OnErr c.at.result (first rows c.args.path.now ≡ None)) c.args.self.now.routed c.at.ensures.missing
