use Rattle.asgi_halves.proofs.HalfWords.{sym, append_assoc, inr, ◌++◌, ◌∷◌, [], Next}
use Rattle.asgi_halves.proofs.FramesLemmas as lemma
use Rattle.asgi_halves.proofs.wire.Wire.take_frames.Goals as goal

pub returns-clause-frames : goal.returns-clause-frames
returns-clause-frames c bytes given after scope facts frames closed begins stands =
    let r = c.args.self.now.requests in
    let next = c.in_ok-_whole in
    let whole = lemma.whole_is_given r bytes given after scope facts frames closed begins c.next.new.self next.ensures.limits next._whole stands next.ensures.need next.ensures.given in
    lemma.frames_are r bytes given after scope facts frames closed begins c.next.new.self next.ensures.limits c.rest.result.items
    (rw c.replace.ensures.value at (c.rest.ensures bytes (given ++ Next.Head scope facts ∷ Next.Whole ∷ []) (rw c.replace.ensures.value whole)
    (inr (given ++ Next.Head scope facts ∷ [], sym (append_assoc given (Next.Head scope facts ∷ []) (Next.Whole ∷ []))))))
