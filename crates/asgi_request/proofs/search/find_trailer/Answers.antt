use Rattle.std.proofs.Common.{◌≡◌, sym, ◌∙◌, arith, Bool, subst}
use Rattle.asgi_request.specs.Fronts.{lines_len, trailer_len}
use Rattle.asgi_request.specs.private.Searches.{ResumesTrailer}
use Rattle.asgi_request.proofs.SearchLemmas.{whole_is, Continues-then, trailer_begun}
use Rattle.asgi_request.proofs.search.find_trailer.Goals as goal

pub returns-then-search-clause-found : goal.returns-then-search-clause-found
returns-then-search-clause-found c =
    let P : Bool → Type 0 = λ b. ResumesTrailer b c.args.search.now.at c.args.bytes.now in
    let begun = subst P c.if-search.true c.requires in
    c.find_lines.ensures.found ∙ sym (whole_is trailer_len lines_len c.args.search.now.at c.args.bytes.now begun)

pub returns-clause-resumes : goal.returns-clause-resumes
returns-clause-resumes c =
    let none : c.empty_line_length-n.result ≡ 0 = omega arith in
    let start = trailer_begun c.args.bytes.now (sym c.empty_line_length-n.ensures.value ∙ none) (c.is_open.ensures.closed c.if-is_open.false) in
    Continues-then trailer_len lines_len lines_len 0 c.find_lines-2.new.at c.args.bytes.now start c.find_lines-2.ensures.inside c.find_lines-2.ensures.same
