use Rattle.rtrb.specs.Ring.{received, sent}
use Rattle.asgi_pipes.specs.RingPairs.{ring_of}
use Rattle.asgi_kept.proofs.ListLemmas.{still_home}
use Rattle.asgi_kept.proofs.worker.turn.Goals as goal

pub returns : goal.returns
returns g c = record {
  tied = (
    c.requires.tied.0,
    still_home (λ t. ring_of t.jobs.end) (received c.args.going.now) (received c.pop.new.self) c.in-Ok.go c.requires.tied.0 c.requires.tied.1 c.in-Ok.ensures.ok.0,
    still_home (λ t. ring_of t.jobs.end) (sent c.args.backs.now) (sent c.push_waiting.new.producer) c.answer_one-token.result c.requires.tied.0 c.requires.tied.2 c.push_waiting.ensures,
  );
}
