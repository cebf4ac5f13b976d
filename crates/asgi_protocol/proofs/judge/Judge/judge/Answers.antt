use Rattle.std.proofs.Common.{◌∙◌, refl}
use Rattle.asgi_protocol.proofs.JudgeLemmas.{verdict_agrees}
use Rattle.asgi_protocol.proofs.PassLemmas.{stands_with}
use Rattle.asgi_protocol.proofs.judge.Judge.judge.Goals as goal

pub returns-in-Pass-clause-verdict : goal.returns-in-Pass-clause-verdict
returns-in-Pass-clause-verdict c = λ kind said disconnected s.
    c.verdict-verdict.ensures ∙ verdict_agrees c.args.self.now kind c.args.facts.now said disconnected c.args.event.now s

pub returns-in-Pass-clause-passed : goal.returns-in-Pass-clause-passed
returns-in-Pass-clause-passed c = λ pass kind said disconnected s.
    stands_with c.args.self.now c.after-self.result kind c.args.facts.now said disconnected c.args.event.now c.verdict-verdict.result c.after-self.ensures c.verdict-verdict.ensures pass s

pub returns-in_default : goal.returns-in_default
returns-in_default c = record {
  verdict = λ kind said disconnected s. c.verdict-verdict.ensures ∙ verdict_agrees c.args.self.now kind c.args.facts.now said disconnected c.args.event.now s;
  passed = λ pass. absurd (c.in_default.not-Pass pass);
  kept = λ other. refl;
}
