use Rattle.std.proofs.Common.{◌≡◌, ℕ}
use Rattle.asgi_conversation.specs.declared.report.Report.{Report}
use Rattle.asgi_command.specs.Telling.{PutsNext, report_line, writer}
use Rattle.asgi_command.specs.declared.reports.Printer.{Printer}
use Rattle.asgi_command.proofs.EndedLemmas.{part_stays, serves_of}
use Rattle.asgi_command.proofs.serve.serve_printing.Goals as goal

pub returns-clause-lives : goal.returns-clause-lives
returns-clause-lives g c =
    let P : Type 0 = Printer g.row.W.Denot in
    let at : P → _ = λ p. writer g.W.Counts p.output.now in
    let tells : P → P → ℕ → Report → Type 0 = λ was is n r. (is.output.ghost_name ≡ was.output.ghost_name) × PutsNext was.told (report_line (n, r)) (at was) (at is) is.told in
    serves_of g.L.Line.state (g.A.Application.answers c.args.app.now) c.args.limits.now c.args.workers.count _ tells (λ (p : P). p.told) at (λ was is n r h. h.1) _ _
    c.args.printer c.serve_on-ended.result.1 c.requires c.serve_on-ended.result.0 c.ending_with.result c.ending_with.ensures c.serve_on-ended.ensures.serves

pub returns-clause-same : goal.returns-clause-same
returns-clause-same g c =
    let P : Type 0 = Printer g.row.W.Denot in
    let at : P → _ = λ p. writer g.W.Counts p.output.now in
    let tells : P → P → ℕ → Report → Type 0 = λ was is n r. (is.output.ghost_name ≡ was.output.ghost_name) × PutsNext was.told (report_line (n, r)) (at was) (at is) is.told in
    part_stays g.L.Line.state (g.A.Application.answers c.args.app.now) c.args.limits.now c.args.workers.count _ tells (λ (p : P). p.output.ghost_name) (λ was is n r h. h.0) _ _ _
    c.serve_on-ended.ensures.serves
