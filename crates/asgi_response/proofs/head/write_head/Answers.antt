use Rattle.asgi_response.proofs.HeadLemmas.{head_parts}
use Rattle.asgi_response.proofs.head.write_head.Goals as goal

pub returns-clause-ok : goal.returns-clause-ok
returns-clause-ok c =
    head_parts c.args.chunked c.args.closing c.args.status c.args.headers.now
    c.args.out.now.items c.write_status_line.new.out.items c.write_fields.new.out.items c.write_if.new.out.items c.write_if-2.new.out.items c.extend_from_slice.new.self.items
    c.in_ok-write_status_line.ensures.ok c.in_ok-write_fields.ensures.ok c.in_ok-write_if.ensures.ok c.in_ok-write_if-2.ensures.ok c.in_ok-extend_from_slice.ensures.items
