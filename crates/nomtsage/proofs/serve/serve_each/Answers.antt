use Rattle.std.proofs.Common.{◌∙◌, ap, subst, map, sym, ℕ, List, replicate}
use Rattle.asgi_crew.specs.Ran.{last_of}
use Rattle.asgi_crew.specs.Shared.{IsShared}
use Rattle.asgi_server.specs.Connections.{served_by}
use Rattle.nomtsage.specs.Serving.{served_of}
use Rattle.nomtsage.proofs.ServingLemmas.{all_none}
use Rattle.nomtsage.proofs.serve.serve_each.Goals as goal

pub returns-clause-served : goal.returns-clause-served
returns-clause-served g c =
    let served = c.serve_all-reports.ensures in let all = c.serve_all-reports.result in
    let none = all_none (λ s. s.pause.count) c.args.list.items c.requires.fresh.1 ∙ ap (λ n. replicate n 0) (sym c.args.list.ok.0 ∙ c.requires.fresh.0) in
    record {
      ended = all.end;
      pauses = map (λ s. s.pause.count) all.workers.items;
      reports = all.reports.items;
      shared = subst (λ (l : List ℕ). IsShared (served_by g.L.Line.state (g.A.Application.answers c.args.by.now.app.now) c.args.by.now.limits.now c.args.state.now)
          (g.N.Listener.answers c.args.listener.now) (g.N.Listener.answers c.serve_all-reports.new.listener) (last_of all.end) l (map (λ s. s.pause.count) all.workers.items) all.reports.items) none
          served.served;
      told = served.told;
      how_is = c.served_of-how.ensures ∙ ap (λ b. served_of all.end b) c.failed.ensures;
    }
