use Rattle.std.proofs.Common.{sym, ◌∙◌, subst}
use Rattle.asgi_talks.specs.Talking.{StandsAt}
use Rattle.asgi_talks.proofs.talking.TalkingAppTask.poll.Goals as goal

pub wait-requires-clause-waits : goal.wait-requires-clause-waits
wait-requires-clause-waits g c =
    subst (λ stage. StandsAt (g.T.Talker.opens c.args.self.now.asked.talker c.args.self.now.asked.scope) g.S.Talk.answers g.S.Tells.tells c.args.self.now.called.items stage
    (g.E.AppEnd.kind c.args.end.now) (g.E.AppEnd.heard c.args.end.now) (g.E.AppEnd.said c.args.end.now)) (sym c.replace.ensures.value ∙ c.in-Waiting.is) c.requires.stands

pub listen-requires-clause-talks : goal.listen-requires-clause-talks
listen-requires-clause-talks g c =
    subst (λ stage. StandsAt (g.T.Talker.opens c.args.self.now.asked.talker c.args.self.now.asked.scope) g.S.Talk.answers g.S.Tells.tells c.args.self.now.called.items stage
    (g.E.AppEnd.kind c.args.end.now) (g.E.AppEnd.heard c.args.end.now) (g.E.AppEnd.said c.args.end.now)) (sym c.replace.ensures.value ∙ c.in-Listening.is) c.requires.stands

pub say-requires-clause-talks : goal.say-requires-clause-talks
say-requires-clause-talks g c =
    subst (λ stage. StandsAt (g.T.Talker.opens c.args.self.now.asked.talker c.args.self.now.asked.scope) g.S.Talk.answers g.S.Tells.tells c.args.self.now.called.items stage
    (g.E.AppEnd.kind c.args.end.now) (g.E.AppEnd.heard c.args.end.now) (g.E.AppEnd.said c.args.end.now)) (sym c.replace.ensures.value ∙ c.in-Saying.is) c.requires.stands

pub finish-requires-clause-talks : goal.finish-requires-clause-talks
finish-requires-clause-talks g c =
    subst (λ stage. StandsAt (g.T.Talker.opens c.args.self.now.asked.talker c.args.self.now.asked.scope) g.S.Talk.answers g.S.Tells.tells c.args.self.now.called.items stage
    (g.E.AppEnd.kind c.args.end.now) (g.E.AppEnd.heard c.args.end.now) (g.E.AppEnd.said c.args.end.now)) (sym c.replace.ensures.value ∙ c.in-Ending.is) c.requires.stands
