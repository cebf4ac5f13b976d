use Rattle.std.proofs.Common.{refl}
use Rattle.asgi_command.proofs.ServingLemmas.{port_as_named, port_mounted, port_unserved}
use Rattle.asgi_command.proofs.program.serve_by.Goals as goal

pub returns-in-Hello-clause-serves : goal.returns-in-Hello-clause-serves
returns-in-Hello-clause-serves g c =
    port_as_named g.L.Line.state _ _ c.usual-limits.result _ _ _ _ _ _ _ c.usual-limits.ensures c.in-Hello.is c.serve_on.ensures.serves

pub returns-in-Echo-clause-serves : goal.returns-in-Echo-clause-serves
returns-in-Echo-clause-serves g c =
    port_as_named g.L.Line.state _ _ c.usual-limits.result _ _ _ _ _ _ _ c.usual-limits.ensures c.in-Echo.is c.serve_on-in-Echo.ensures.serves

pub returns-in-NotFound-clause-serves : goal.returns-in-NotFound-clause-serves
returns-in-NotFound-clause-serves g c =
    port_as_named g.L.Line.state _ _ c.usual-limits.result _ _ _ _ _ _ _ c.usual-limits.ensures c.in-NotFound.is c.serve_on-in-NotFound.ensures.serves

pub returns-in-WsEcho-clause-serves : goal.returns-in-WsEcho-clause-serves
returns-in-WsEcho-clause-serves g c =
    port_as_named g.L.Line.state _ _ c.usual-limits.result _ _ _ _ _ _ _ c.usual-limits.ensures c.in-WsEcho.is c.serve_on-in-WsEcho.ensures.serves

pub returns-in-Life-clause-serves : goal.returns-in-Life-clause-serves
returns-in-Life-clause-serves g c =
    port_as_named g.L.Line.state _ _ c.usual-limits.result _ _ _ _ _ _ _ c.usual-limits.ensures c.in-Life.is c.serve_on-in-Life.ensures.serves

pub returns-in-NoStart-clause-serves : goal.returns-in-NoStart-clause-serves
returns-in-NoStart-clause-serves g c =
    port_as_named g.L.Line.state _ _ c.usual-limits.result _ _ _ _ _ _ _ c.usual-limits.ensures c.in-NoStart.is c.serve_on-in-NoStart.ensures.serves

pub returns-in-NoStop-clause-serves : goal.returns-in-NoStop-clause-serves
returns-in-NoStop-clause-serves g c =
    port_as_named g.L.Line.state _ _ c.usual-limits.result _ _ _ _ _ _ _ c.usual-limits.ensures c.in-NoStop.is c.serve_on-in-NoStop.ensures.serves

pub returns-in-Ok-clause-serves : goal.returns-in-Ok-clause-serves
returns-in-Ok-clause-serves g c =
    port_mounted g.L.Line.state c.usual-limits.result _ _ _ _ _ _ _ _ c.in-Ok.app.mounts.items c.usual-limits.ensures c.in-Mounts.is
    c.in-Ok.ensures c.serve_on-in-Ok.ensures.serves

pub returns-in-Err-clause-serves : goal.returns-in-Err-clause-serves
returns-in-Err-clause-serves g c =
    port_unserved g.L.Line.state c.usual-limits.result _ _ _ _ _ _ _ _ c.usual-limits.ensures refl c.device_fault.ensures.tells
    c.device_fault.ensures.status
