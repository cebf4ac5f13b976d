use Rattle.std.proofs.Common.{length, take, arith}
use Rattle.asgi_request.proofs.FieldLemmas.{fields_keepable}
use Rattle.asgi_request.proofs.MethodLemmas.{token_text}
use Rattle.asgi_request.proofs.RecordLemmas.{head_of_whole}
use Rattle.asgi_request.proofs.head.parse_into.Goals as goal

pub record_of-requires-clause-fields : goal.record_of-requires-clause-fields
record_of-requires-clause-fields c =
    let found = rw c.in-Ok-Complete.field-0-is at c.in-Ok-Complete.ensures.complete in
    fields_keepable c.args.text.now (take c.in-Ok-Complete.request.headers c.parse_request.new.headers) found.0.fields
    found.1.fields found.1.reads.0.fields c.requires

pub returns-in_ok-record-in-Ok-Complete : goal.returns-in_ok-record-in-Ok-Complete
returns-in_ok-record-in-Ok-Complete c =
    let found = rw c.in-Ok-Complete.field-0-is at c.in-Ok-Complete.ensures.complete in (
      found.0,
      head_of_whole (length c.args.spans.now) c.args.text.now c.parse_request.new.headers c.in-Ok-Complete.request found.0 (omega arith) (omega arith) found.1,
      c.in_ok-record-in-Ok-Complete.ensures found.0 found.1,
    )

pub record_of-requires-clause-ascii : goal.record_of-requires-clause-ascii
record_of-requires-clause-ascii c =
    let found = rw c.in-Ok-Complete.field-0-is at c.in-Ok-Complete.ensures.complete in
    rw found.1.method (token_text found.0.method found.1.reads.0.method)
