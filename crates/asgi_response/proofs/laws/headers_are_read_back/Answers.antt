use Rattle.asgi_response.proofs.ReadBackLemmas.{head_is_read_back, valid_are_sendable}
use Rattle.asgi_response.proofs.ReadBackBodyLemmas.{response_with_is_read_back}
use Rattle.asgi_response.proofs.laws.headers_are_read_back.Goals as goal

pub returns-clause-sendable : goal.returns-clause-sendable
returns-clause-sendable c = valid_are_sendable c.args.headers.now c.fields_are_valid.ensures

pub returns-clause-head : goal.returns-clause-head
returns-clause-head c = head_is_read_back c.args.headers.now (valid_are_sendable c.args.headers.now c.fields_are_valid.ensures)

pub returns-clause-response : goal.returns-clause-response
returns-clause-response c = response_with_is_read_back c.args.headers.now (valid_are_sendable c.args.headers.now c.fields_are_valid.ensures)
