use Rattle.std.proofs.Common.{map, string_bytes, subst}
use Rattle.asgi_command.specs.Words.{Asks}
use Rattle.asgi_command.proofs.WordLemmas.{one_once, one_port}
use Rattle.asgi_command.proofs.ServingLemmas.{as_named, asked_for, port_asked}
use Rattle.asgi_command.specs.declared.words.Command.TheVariants.{Once, Serve}
use Rattle.asgi_command.proofs.program.command.Goals as goal

pub returns-in-None-clause-serves : goal.returns-in-None-clause-serves
returns-in-None-clause-serves g c = λ a is. absurd (c.in-None.ensures.none (Once a) is)

pub returns-in-None-clause-once : goal.returns-in-None-clause-once
returns-in-None-clause-once g c = λ a is. absurd (c.in-None.ensures.none (Once a) is)

pub returns-in-None-clause-serves_port : goal.returns-in-None-clause-serves_port
returns-in-None-clause-serves_port g c = λ a n is. absurd (c.in-None.ensures.none (Serve is.0 is.1 a is.2) is.3)

pub returns-in-Some-Serve-clause-serves_port : goal.returns-in-Some-Serve-clause-serves_port
returns-in-Some-Serve-clause-serves_port g c = λ a n is.
    port_asked g.M.Line.state (map string_bytes c.args.words.now) a c.in-Some-Serve.app c.in-Some-Serve.port c.in-Some-Serve.count n c.in-Some-Serve.workers _ _ _ _ _ _ _ _ c.in-Some-Serve.field-0
    is c.in-Some-Serve.ensures.some c.in-Some-Serve.field-0-is c.listen_on.ensures.told c.serve_by.ensures.serves

pub returns-in-Some-Once-clause-serves : goal.returns-in-Some-Once-clause-serves
returns-in-Some-Once-clause-serves g c = λ a is.
    let words = map string_bytes c.args.words.now in
    as_named a c.in-Some-Once.app _ _ _
    (one_once words a c.in-Some-Once.app is (subst (λ k. Asks words k) c.in-Some-Once.field-0-is c.in-Some-Once.ensures.some)) c.once_by.ensures

pub returns-in-None-clause-asked : goal.returns-in-None-clause-asked
returns-in-None-clause-asked g c = λ p n is. absurd (c.in-None.ensures.none (Serve p n is.0 is.1) is.2)

pub returns-in-Some-Serve-clause-asked : goal.returns-in-Some-Serve-clause-asked
returns-in-Some-Serve-clause-asked g c = λ p n is.
    let words = map string_bytes c.args.words.now in
    let found = subst (λ k. Asks words k) c.in-Some-Serve.field-0-is c.in-Some-Serve.ensures.some in
    let same = one_port words is.0 c.in-Some-Serve.app p n c.in-Some-Serve.port c.in-Some-Serve.count is.1 c.in-Some-Serve.workers is.2 found in
    asked_for _ _ _ p n c.in-Some-Serve.port c.in-Some-Serve.count c.serve_by.ensures.asked c.listen_on.ensures.asked same.0 same.1
