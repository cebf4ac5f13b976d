use Rattle.std.proofs.Common.{List, ℕ, length, ap, sym, ◌∙◌, subst, drop, arith, length-append}
use Rattle.std.specs.Vec.{vec_capacity}
use Rattle.asgi_request.specs.Reading.{Reading}
use Rattle.asgi_request.specs.private.Searches.{Resumes}
use Rattle.asgi_request.proofs.ReaderLemmas.{feed_stands, held_fed}
use Rattle.asgi_request.proofs.SearchLemmas.{Resumes-append}
use Rattle.asgi_request.proofs.reader.RequestReader.feed_crowded.Goals as goal

pub returns-clause-fed : goal.returns-clause-fed
returns-clause-fed c =
    let bytes = c.self.inside.bytes.items in
    let start = c.self.inside.start in
    let made = c.make_room.new.bytes.items in
    let from = c.make_room.new.start in
    let grown = c.extend_from_slice.new.self.items in
    let seen : Reading = record { limits = c.self.inside.limits; place = c.self.inside.place; held = drop start bytes; capacity = vec_capacity c.self.inside.bytes } in
    feed_stands c.args.self.now seen c.args.piece.now (drop from grown) c.self.view_is
    (held_fed bytes made c.args.piece.now grown start from c.make_room.ensures.inside c.in_ok-extend_from_slice.ensures.items c.make_room.ensures.held)

pub invariant_of-self-2 : goal.invariant_of-self-2
invariant_of-self-2 c =
    let bytes = c.self.inside.bytes.items in
    let start = c.self.inside.start in
    let made = c.make_room.new.bytes.items in
    let from = c.make_room.new.start in
    let grown = c.extend_from_slice.new.self.items in
    let more = ap length c.in_ok-extend_from_slice.ensures.items ∙ length-append made c.args.piece.now in
    let held = held_fed bytes made c.args.piece.now grown start from c.make_room.ensures.inside c.in_ok-extend_from_slice.ensures.items c.make_room.ensures.held in
    let P : List ℕ → Type 0 = λ l. Resumes c.self.inside.place c.self.inside.search l in (
      omega (arith, more, c.make_room.ensures.inside),
      subst P (sym held) (Resumes-append c.self.inside.place c.self.inside.search (drop start bytes) c.args.piece.now c.self.invariant.1),
    )
