use Rattle.asgi_request.proofs.laws.body_texts_are_decided.Goals as goal
use Rattle.asgi_request.proofs.SizeTestLemmas.{size_decided}
use Rattle.asgi_request.proofs.TrailerTestLemmas.{section_decided}

pub returns-clause-size : goal.returns-clause-size
returns-clause-size c text size = size_decided text size

pub returns-clause-trailers : goal.returns-clause-trailers
returns-clause-trailers c max_headers text = section_decided max_headers text
