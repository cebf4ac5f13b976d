use Rattle.std.proofs.Common.{arith}
use Rattle.asgi_types.proofs.StateLemmas.{replaced, length-replaced, held, added, grown, Sets}
use Rattle.asgi_types.proofs.state.State.set.Goals as goal

-- what replacing gives
in_place : (c : goal.After-put) → Sets c.args.self.now c.put.new.entries.items c.args.name.now c.args.value
in_place c =
    replaced c.self.inside.entries.items c.as_slice.result.now c.args.self.now c.put.new.entries.items c.args.name.now c.args.value c.in-Some.index
    c.as_slice.ensures.value c.self.view_is c.self.invariant.0 c.in-Some.ensures.found c.put.ensures

pub invariant_of-self : goal.invariant_of-self
invariant_of-self c = ((in_place c).once, omega (arith, length-replaced _ _ _ _ c.put.ensures, c.self.invariant.1))

pub returns-in-Some-clause-ok : goal.returns-in-Some-clause-ok
returns-in-Some-clause-ok c = (in_place c).ok

pub returns-in-Some-clause-found : goal.returns-in-Some-clause-found
returns-in-Some-clause-found c = (in_place c).found

pub returns-in-Some-clause-others : goal.returns-in-Some-clause-others
returns-in-Some-clause-others c = (in_place c).others

pub returns-in-Some-clause-full : goal.returns-in-Some-clause-full
returns-in-Some-clause-full c = (λ bad. cc, λ both. absurd (held _ _ _ _ _ c.as_slice.ensures.value c.self.view_is c.in-Some.ensures.found both.0))

-- what adding gives
at_the_end : (c : goal.In_default-add) → Sets c.args.self.now c.add.new.entries.items c.args.name.now c.args.value
at_the_end c =
    added c.self.inside.entries.items c.as_slice.result.now c.args.self.now c.add.new.entries.items c.args.name.now c.args.value
    c.as_slice.ensures.value c.self.view_is c.self.invariant.0 c.in_default.ensures.missing c.in_default-add.ensures.ok

pub invariant_of-self-2 : goal.invariant_of-self-2
invariant_of-self-2 c = ((at_the_end c).once, omega (arith, grown c.self.inside.entries.items c.add.new.entries.items _ c.in_default-add.ensures.ok))

pub returns-clause-ok : goal.returns-clause-ok
returns-clause-ok c = (at_the_end c).ok

pub returns-clause-found : goal.returns-clause-found
returns-clause-found c = (at_the_end c).found

pub returns-clause-others : goal.returns-clause-others
returns-clause-others c = (at_the_end c).others
