use Rattle.asgi_halves.proofs.{SessionEndLemmas.answered_part, SessionEndLemmas.answered_whole, SessionEndLemmas.ends_denied, SessionEndLemmas.ends_itself, SessionWords.tries_front}
use Rattle.asgi_halves.proofs.session_half.WebSocketHalf.answer.Goals as goal

pub returns-in-Begun : goal.returns-in-Begun
returns-in-Begun g c =
    let own = ends_itself c.args.self.now c.requires.ending in
    record { leads = λ scene read view x. ends_denied x own.0 own.1 c.requires.unanswered c.progress.result c.progress.ensures.denial (λ none. cc (none, c.in-Begun.is)) }

pub returns-in-Complete : goal.returns-in-Complete
returns-in-Complete g c =
    let own = ends_itself c.args.self.now c.requires.ending in
    record { leads = λ scene read view x. ends_denied x own.0 own.1 c.requires.unanswered c.progress.result c.progress.ensures.denial (λ none. cc (none, c.in-Complete.is)) }

pub returns-in-None : goal.returns-in-None
returns-in-None g c = record {
  leads = λ scene read view x.
      let own = ends_itself c.args.self.now c.requires.ending in
      let w = c.in-None.ensures.none in
      answered_whole x own.0 own.1 c.requires.unanswered c.progress.result c.progress.ensures.denial c.in-Nothing.is c.refusal_text.result.now c.refusal_text.ensures (g.L.Line.state c.write.new.line)
      (record { beside = c.write.ensures.reads; session = c.write.ensures.session; appends = w.0; rose = w.1; tries = c.in-None.ensures.tries });
}

pub returns-in-Some : goal.returns-in-Some
returns-in-Some g c = record {
  leads = λ scene read view x.
      let own = ends_itself c.args.self.now c.requires.ending in
      let w = c.in-Some.ensures.some in
      answered_part x own.0 own.1 c.requires.unanswered c.progress.result c.progress.ensures.denial c.in-Nothing.is c.refusal_text.result.now c.refusal_text.ensures (g.L.Line.state c.write.new.line)
      c.in-Some.n w.0 (record { beside = c.write.ensures.reads; session = c.write.ensures.session; appends = w.1; rose = w.2; tries = tries_front _ _ c.in-Some.n _ w.0 c.in-Some.ensures.tries });
}
