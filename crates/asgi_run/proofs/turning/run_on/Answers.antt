use Rattle.std.proofs.Common.{◌++◌, ◌∷◌, [], refl, sym, ap, inl, inr, append_assoc, ◌∙◌, arith}
use Rattle.std.proofs.lemmas.List.{append-nil}
use Rattle.asgi_apps.proofs.PauseLemmas.{counts_more}
use Rattle.asgi_exchange.specs.Calls.{IsViewOf}
use Rattle.asgi_run.proofs.LeadsLemmas.{leads_none, leads_then}
use Rattle.asgi_run.proofs.turning.run_on.Goals as goal

pub loop-runner-init : goal.loop-runner-init
loop-runner-init g c = record {
  leads = rw c.begin-exchange.ensures.conn (leads_none g.H.Half.stands (g.L.Line.state c.args.line.now) c.args.half.now (IsViewOf g.R.Pipes.Conn.ConnEnd c.args.end));
  began = c.begin-exchange.ensures.began;
  limited = c.begin-exchange.ensures.limits;
  met = c.begin-exchange.ensures.met;
  turn_limit = refl;
  idle_limit = refl;
  turned = inl (refl, refl);
  settled = λ settled. (refl, refl);
  counts = λ turned pauses counts. ([], rw append-nil counts);
}

pub loop-runner-preserved : goal.loop-runner-preserved
loop-runner-preserved g c =
    let inv = c.loop-runner.invariant in
    record {
      leads = leads_then g.H.Half.stands _ _ _ _ _ _ _ _ _ inv.leads c.turn-moved.ensures.leads;
      began = c.turn-moved.ensures.began c.args.side inv.began;
      limited = c.turn-moved.ensures.limits _ _ _ _ inv.limited;
      met = c.turn-moved.ensures.met ∙ inv.met;
      turn_limit = c.take.ensures.turn_limit ∙ inv.turn_limit;
      idle_limit = c.take.ensures.idle_limit ∙ inv.idle_limit;
      turned = inr (elim inv.turned [ inl same ↦ omega (arith, same.1, c.take.ensures.one) | inr later ↦ omega (arith, later, c.take.ensures.one) ]);
      settled = λ settled. absurd (c.goes_on.ensures.open c.loop-runner-test.true (rw (ap g.H.Half.following (inv.settled settled).0) settled));
      counts = λ turned pauses counts. let x = inv.counts turned pauses counts in
          let y = counts_more c.args.turns.now.turn_limit c.args.turns.now.idle_limit _ _ pauses _ _ _ _ _ _ (turned ++ x.0) c.turn-moved.result
          inv.turn_limit inv.idle_limit x.1 c.take.ensures.counts in
          (x.0 ++ c.turn-moved.result ∷ [], rw (sym (append_assoc turned x.0 (c.turn-moved.result ∷ []))) y);
    }
