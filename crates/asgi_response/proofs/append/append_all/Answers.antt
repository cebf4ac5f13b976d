use Rattle.std.specs.Vec.{vec_len, vec_capacity}
use Rattle.asgi_response.proofs.RoomLemmas.{has_room}
use Rattle.asgi_response.proofs.append.append_all.Goals as goal

pub returns-in_err-extend_from_slice-clause-err : goal.returns-in_err-extend_from_slice-clause-err
returns-in_err-extend_from_slice-clause-err c =
    absurd (has_room c.args.texts.now c.loop-text.text-index _ (vec_len c.args.out.now) (vec_capacity c.loop-text.out) (vec_len c.loop-text.out)
    c.loop-text-test.true c.loop-text.invariant.len c.loop-text.invariant.room c.in_err-extend_from_slice.ensures.full)

pub returns-in_err-extend_from_slice-clause-full : goal.returns-in_err-extend_from_slice-clause-full
returns-in_err-extend_from_slice-clause-full c =
    absurd (has_room c.args.texts.now c.loop-text.text-index _ (vec_len c.args.out.now) (vec_capacity c.loop-text.out) (vec_len c.loop-text.out)
    c.loop-text-test.true c.loop-text.invariant.len c.loop-text.invariant.room c.in_err-extend_from_slice.ensures.full)
