use Rattle.std.proofs.Common.{drop, refl}
use Rattle.std.specs.Vec.{vec_capacity}
use Rattle.asgi_request.specs.Reading.{Reading}
use Rattle.asgi_request.proofs.ReaderLemmas.{feed_stands, held_fed}
use Rattle.asgi_request.proofs.reader.RequestReader.feed_within.Goals as goal

pub returns-clause-fed : goal.returns-clause-fed
returns-clause-fed c _ =
    let bytes = c.self.inside.bytes.items in
    let start = c.self.inside.start in
    let grown = c.extend_from_slice.new.self.items in
    let seen : Reading = record { limits = c.self.inside.limits; place = c.self.inside.place; held = drop start bytes; capacity = vec_capacity c.self.inside.bytes } in
    feed_stands c.args.self.now seen c.args.piece.now (drop start grown) c.self.view_is
    (held_fed bytes bytes c.args.piece.now grown start start c.self.invariant.0 c.in-Ok.ensures.items refl)
