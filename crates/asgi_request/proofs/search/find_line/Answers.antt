use Rattle.std.proofs.Common.{length, sym, ◌∙◌, refl, arith}
use Rattle.asgi_request.specs.Fronts.{line_len}
use Rattle.asgi_request.proofs.SearchLemmas.{whole_is, line_found, ended, Continues-then}
use Rattle.asgi_request.proofs.LineFeedLemmas.{line_to, line_to_end}
use Rattle.asgi_request.proofs.search.find_line.Goals as goal

pub returns-in-Some-clause-found : goal.returns-in-Some-clause-found
returns-in-Some-clause-found c =
    let first = c.in-Some.ensures in
    line_found c.args.bytes.now c.args.search.now.at c.in-Some.i first.0.high first.1 (line_to c.args.bytes.now c.args.search.now.at c.in-Some.i first.0)
    ∙ sym (whole_is line_len line_len c.args.search.now.at c.args.bytes.now c.requires)

pub returns-in-Some-clause-resumes : goal.returns-in-Some-clause-resumes
returns-in-Some-clause-resumes c =
    let first = c.in-Some.ensures in
    Continues-then line_len line_len line_len c.args.search.now.at c.in-Some.i c.args.bytes.now c.requires (omega (arith, first.0.high))
    (line_to c.args.bytes.now c.args.search.now.at c.in-Some.i first.0)

pub returns-in-None-clause-found : goal.returns-in-None-clause-found
returns-in-None-clause-found c =
    ended line_len line_len c.args.bytes.now c.args.search.now.at (length c.args.bytes.now) (omega arith) refl
    (line_to_end c.args.bytes.now c.args.search.now.at c.requires.inside c.in-None.ensures)
    ∙ sym (whole_is line_len line_len c.args.search.now.at c.args.bytes.now c.requires)

pub returns-in-None-clause-resumes : goal.returns-in-None-clause-resumes
returns-in-None-clause-resumes c =
    Continues-then line_len line_len line_len c.args.search.now.at (length c.args.bytes.now) c.args.bytes.now c.requires (omega arith)
    (line_to_end c.args.bytes.now c.args.search.now.at c.requires.inside c.in-None.ensures)
