use Rattle.std.proofs.Common.{◌+◌, sym, ◌∙◌, refl, arith, length, Bool, subst}
use Rattle.asgi_request.specs.Fronts.{lines_len, head_len}
use Rattle.asgi_request.specs.private.Searches.{Continues, head_part}
use Rattle.asgi_request.proofs.SearchLemmas.{whole_is, at_end, ended}
use Rattle.asgi_request.proofs.search.find_head.Goals as goal

pub returns-then-search-clause-found : goal.returns-then-search-clause-found
returns-then-search-clause-found c =
    let P : Bool → Type 0 = λ b. Continues head_len (head_part b) c.args.search.now.at c.args.bytes.now in
    let begun = subst P c.if-search.true c.requires in
    c.find_lines.ensures.found ∙ sym (whole_is head_len lines_len c.args.search.now.at c.args.bytes.now begun)

pub returns-in-Some-clause-found : goal.returns-in-Some-clause-found
returns-in-Some-clause-found c =
    let P : Bool → Type 0 = λ b. Continues head_len (head_part b) c.args.search.now.at c.args.bytes.now in
    let before = subst P c.if-search.false c.requires in
    c.find_lines-in-Some.ensures.found
    ∙ sym (whole_is head_len head_len c.args.search.now.at c.args.bytes.now before ∙ at_end head_len lines_len c.args.bytes.now c.args.search.now.at (c.in-Some.i + 1) c.in-Some.ensures.some.1)

pub returns-in-None-clause-found : goal.returns-in-None-clause-found
returns-in-None-clause-found c =
    let P : Bool → Type 0 = λ b. Continues head_len (head_part b) c.args.search.now.at c.args.bytes.now in
    let before = subst P c.if-search.false c.requires in
    ended head_len head_len c.args.bytes.now c.args.search.now.at (length c.args.bytes.now) (omega arith) refl (c.find_begin.ensures.none c.in-None.is)
    ∙ sym (whole_is head_len head_len c.args.search.now.at c.args.bytes.now before)
